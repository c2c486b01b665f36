-- The spans of a text, read from the left.
use Rattle.std.proofs.Common.{◌≡◌, ℕ, ◌+◌, ◌≤◌, ◌<◌, ◌==◌, nat_le, Bool, true, false, cond, Option, Some, None, List, [], ◌∷◌, ◌++◌, length, refl, sym, ◌∙◌, ap, subst, arith}
use denote.Ref.{Bor}
use Rattle.std.specs.Option.{option_copied}
use Rattle.std.proofs.lemmas.Bool.{le-leb, lt-leb}
use Rattle.std.proofs.lemmas.List.{append-nil, append_assoc, length-append}
use Rattle.std.proofs.lemmas.List.Splits.{length-slice_split}
use Rattle.line_base.specs.declared.edge.Span.{Span}
use Rattle.line_base.specs.Texts.{◌>>=◌, cut_at}
use Rattle.line_base.proofs.Cuts.{split_none, split_some}
use Rattle.link_words.specs.Spans.{span_in, each_span, parts_in, spans_in}

-- the parts of what is left, if anything is
abbrev pub parts_left : Option (List ℕ) → List (List ℕ)
parts_left None = []
parts_left (Some rest) = parts_in rest

parts_cut : (text part : List ℕ) (others : Option (List ℕ)) → (part, others) ≡ cut_at 47 text → parts_in text ≡ part ∷ parts_left others
parts_cut text part None e = split_none 47 text part e
parts_cut text part (Some rest) e = split_some 47 text part rest e

-- a text has a part
pub parts_some : (text : List ℕ) → 1 ≤ length (parts_in text)
parts_some text = (let count = length-slice_split (λ byte. byte == 47) text in omega (arith, count))

-- these spans, and those that are read of the parts that are left, are the spans of all parts
pub record SpansSoFar (most : ℕ) (text : List ℕ) (spans : List Span) (rest : Option (List ℕ)) : Type 0 where
  pub all : (each_span most (parts_left rest) >>= λ later. Some (spans ++ later)) ≡ each_span most (parts_in text)
  pub counted : length spans + length (parts_left rest) ≡ length (parts_in text)
  pub few : length spans ≤ 8

pub so_far_at : (most : ℕ) (text : List ℕ) (spans : List Span) (rest after : Option (Bor (List ℕ))) → SpansSoFar most text spans (option_copied rest) → rest ≡ after → SpansSoFar most text spans (option_copied after)
so_far_at most text spans rest after so_far e = subst (λ (r : Option (Bor (List ℕ))). SpansSoFar most text spans (option_copied r)) e so_far

behind_nothing : (o : Option (List Span)) → (o >>= λ later. Some ([] ++ later)) ≡ o
behind_nothing None = refl
behind_nothing (Some later) = refl

pub none_read : (most : ℕ) (text : List ℕ) (spans : List Span) → spans ≡ [] → SpansSoFar most text spans (Some text)
none_read most text spans e = subst (λ (s : List Span). SpansSoFar most text s (Some text)) (sym e) (record { all = behind_nothing (each_span most (parts_in text)); counted = omega arith; few = omega arith })

read_cons : (most : ℕ) (part : List ℕ) (parts : List (List ℕ)) (span : Span) → Some span ≡ span_in most part → each_span most (part ∷ parts) ≡ (each_span most parts >>= λ later. Some (span ∷ later))
unfolding each_span
read_cons most part parts span e = ap (λ (o : Option Span). o >>= λ s. each_span most parts >>= λ later. Some (s ∷ later)) (sym e)

read_stop : (most : ℕ) (part : List ℕ) (parts : List (List ℕ)) → None ≡ span_in most part → each_span most (part ∷ parts) ≡ None
unfolding each_span
read_stop most part parts e = ap (λ (o : Option Span). o >>= λ s. each_span most parts >>= λ later. Some (s ∷ later)) (sym e)

no_more : (most : ℕ) → each_span most [] ≡ Some []
unfolding each_span
no_more most = refl

behind_first : (o : Option (List Span)) (spans : List Span) (span : Span) → ((o >>= λ later. Some (span ∷ later)) >>= λ later. Some (spans ++ later)) ≡ (o >>= λ later. Some ((spans ++ span ∷ []) ++ later))
behind_first None spans span = refl
behind_first (Some later) spans span = ap (λ (l : List Span). Some l) (sym (append_assoc spans (span ∷ []) later))

-- one more span
pub one_more : (most : ℕ) (text here part : List ℕ) (others : Option (List ℕ)) (spans after : List Span) (span : Span) → SpansSoFar most text spans (Some here) → (part, others) ≡ cut_at 47 here → Some span ≡ span_in most part → length spans < 8 → after ≡ spans ++ span ∷ [] → SpansSoFar most text after others
one_more most text here part others spans after span so_far e f few put =
    let cut = parts_cut here part others e in
    let long : length (parts_in here) ≡ 1 + length (parts_left others) = ap length cut ∙ omega arith in
    let grown = length-append spans (span ∷ []) in
    let counted = so_far.counted in
    subst (λ (s : List Span). SpansSoFar most text s others) (sym put) (record {
      all = sym (ap (λ (o : Option (List Span)). o >>= λ later. Some (spans ++ later)) (ap (each_span most) cut ∙ read_cons most part (parts_left others) span f) ∙ behind_first (each_span most (parts_left others)) spans span) ∙ so_far.all;
      counted = omega (arith, long, grown, counted);
      few = omega (arith, grown, few);
    })

is_read : (most : ℕ) (text : List ℕ) (t : Bool) (o : Option (List Span)) → nat_le (length (parts_in text)) 8 ≡ t → each_span most (parts_in text) ≡ o → spans_in most text ≡ cond t o None
unfolding spans_in
is_read most text t o e f = ap (λ (b : Bool). cond b (each_span most (parts_in text)) None) e ∙ ap (λ (p : Option (List Span)). cond t p None) f

both_none : (t : Bool) → ◌≡◌ {A = Option (List Span)} (cond t None None) None
both_none true = refl
both_none false = refl

-- a part that writes no span
pub bad_part : (most : ℕ) (text here part : List ℕ) (others : Option (List ℕ)) (spans : List Span) → SpansSoFar most text spans (Some here) → (part, others) ≡ cut_at 47 here → None ≡ span_in most part → None ≡ spans_in most text
bad_part most text here part others spans so_far e f =
    let none : each_span most (parts_in text) ≡ None = sym so_far.all ∙ ap (λ (o : Option (List Span)). o >>= λ later. Some (spans ++ later)) (ap (each_span most) (parts_cut here part others e) ∙ read_stop most part (parts_left others) f) in
    sym (is_read most text (nat_le (length (parts_in text)) 8) None refl none ∙ both_none (nat_le (length (parts_in text)) 8))

-- a ninth part
pub ninth_part : (most : ℕ) (text here : List ℕ) (spans : List Span) → SpansSoFar most text spans (Some here) → length spans ≡ 8 → 1 ≤ length (parts_in here) → None ≡ spans_in most text
ninth_part most text here spans so_far full some =
    let counted = so_far.counted in
    sym (is_read most text false (each_span most (parts_in text)) (lt-leb (length (parts_in text)) 8 (omega (arith, counted, full, some))) refl)

-- all parts
pub all_read : (most : ℕ) (text : List ℕ) (spans : List Span) → SpansSoFar most text spans None → Some spans ≡ spans_in most text
all_read most text spans so_far =
    let counted = so_far.counted in
    let few = so_far.few in
    let read : each_span most (parts_in text) ≡ Some spans = sym so_far.all ∙ ap (λ (o : Option (List Span)). o >>= λ later. Some (spans ++ later)) (no_more most) ∙ ap (λ (l : List Span). Some l) (append-nil spans) in
    sym (is_read most text true (Some spans) (le-leb (length (parts_in text)) 8 (omega (arith, counted, few))) read)

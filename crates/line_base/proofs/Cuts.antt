-- Texts that are cut at a byte.
use Rattle.std.proofs.Common.{◌≡◌, ℕ, suc, ◌+◌, ◌<◌, ◌≤◌, ◌==◌, Bool, true, false, cond, Option, Some, None, List, [], ◌∷◌, ◌++◌, length, get_or, take, drop, refl, sym, ◌∙◌, ap, subst, arith}
use denote.Ref.{Bor}
use Rattle.std.specs.Option.{option_copied}
use Rattle.std.proofs.lemmas.Bool.{ne_eqb, eq-eqb}
use Rattle.std.proofs.lemmas.List.{drop_more, take_more, drop_all, take_all, append_assoc, append-nil}
use Rattle.std.specs.List.{slice_split, onto_first}
use Rattle.line_base.specs.Texts.{cut_at}

-- the bytes that were passed stand before whatever the rest is cut into
pub record CutSoFar (mark : ℕ) (text : List ℕ) (i : ℕ) : Type 0 where
  pub whole : cut_at mark text ≡ (take i text ++ (cut_at mark (drop i text)).0, (cut_at mark (drop i text)).1)

pub cut_at_mark : (mark byte : ℕ) (bytes : List ℕ) → byte ≡ mark → cut_at mark (byte ∷ bytes) ≡ ([], Some bytes)
unfolding cut_at
cut_at_mark mark byte bytes e = rw (eq-eqb byte mark e) refl

pub cut_at_other : (mark byte : ℕ) (bytes : List ℕ) → (byte ≡ mark → ⊥) → cut_at mark (byte ∷ bytes) ≡ (byte ∷ (cut_at mark bytes).0, (cut_at mark bytes).1)
unfolding cut_at
cut_at_other mark byte bytes ne = rw (ne_eqb byte mark ne) refl

pub cut_at_nil : (mark : ℕ) → cut_at mark [] ≡ ([], None)
unfolding cut_at
cut_at_nil mark = refl

pub cut_none : (mark : ℕ) (text : List ℕ) → CutSoFar mark text 0
cut_none mark text = record { whole = refl }

-- one more byte that is not the mark
pub cut_more : (mark : ℕ) (text : List ℕ) (i : ℕ) → CutSoFar mark text i → i < length text → (get_or text i 0 ≡ mark → ⊥) → CutSoFar mark text (i + 1)
cut_more mark text i so_far within ne =
    let e = ap (cut_at mark) (drop_more text i 0 within) ∙ cut_at_other mark (get_or text i 0) (drop (i + 1) text) ne in
    let front = take_more text i 0 within in
    let rest = cut_at mark (drop (i + 1) text) in
    record {
      whole = so_far.whole ∙ ap (λ (c : List ℕ × Option (List ℕ)). (take i text ++ c.0, c.1)) e
          ∙ ap (λ (f : List ℕ). (f, rest.1)) (sym (append_assoc (take i text) (get_or text i 0 ∷ []) rest.0) ∙ ap (λ (f : List ℕ). f ++ rest.0) (sym front));
    }

-- the mark is found
pub cut_found : (mark : ℕ) (text : List ℕ) (i : ℕ) → CutSoFar mark text i → i < length text → get_or text i 0 ≡ mark → (take i text, Some (drop (i + 1) text)) ≡ cut_at mark text
cut_found mark text i so_far within e =
    let here = ap (cut_at mark) (drop_more text i 0 within) ∙ cut_at_mark mark (get_or text i 0) (drop (i + 1) text) e in
    sym (so_far.whole ∙ ap (λ (c : List ℕ × Option (List ℕ)). (take i text ++ c.0, c.1)) here
    ∙ ap (λ (f : List ℕ). (f, Some (drop (i + 1) text))) (append-nil (take i text)))

-- there is no mark
pub cut_whole : (mark : ℕ) (text : List ℕ) (i : ℕ) → CutSoFar mark text i → length text ≤ i → (text, None) ≡ cut_at mark text
cut_whole mark text i so_far past =
    let here = ap (cut_at mark) (drop_all i text past) ∙ cut_at_nil mark in
    sym (so_far.whole ∙ ap (λ (c : List ℕ × Option (List ℕ)). (take i text ++ c.0, c.1)) here
    ∙ ap (λ (f : List ℕ). (f, None)) (append-nil (take i text) ∙ take_all i text past))

-- the fields up to the first comma and behind it
pub split_parts : (mark : ℕ) → List ℕ × Option (List ℕ) → List (List ℕ)
split_parts mark (before, None) = before ∷ []
split_parts mark (before, Some rest) = before ∷ slice_split (λ byte. byte == mark) rest

onto_parts : (mark byte : ℕ) (parts : List ℕ × Option (List ℕ)) → onto_first byte (split_parts mark parts) ≡ split_parts mark (byte ∷ parts.0, parts.1)
unfolding split_parts
onto_parts mark byte (before, None) = refl
onto_parts mark byte (before, Some rest) = refl

split_cons : (mark byte : ℕ) (bytes : List ℕ) (t : Bool) → slice_split (λ byte. byte == mark) bytes ≡ split_parts mark (cut_at mark bytes) → cond t ([] ∷ slice_split (λ byte. byte == mark) bytes) (onto_first byte (slice_split (λ byte. byte == mark) bytes)) ≡ split_parts mark (cond t ([], Some bytes) (byte ∷ (cut_at mark bytes).0, (cut_at mark bytes).1))
unfolding split_parts
split_cons mark byte bytes true e = refl
split_cons mark byte bytes false e = ap (onto_first byte) e ∙ onto_parts mark byte (cut_at mark bytes)

-- what `split` gives is what the first cut gives
split_cut : (mark : ℕ) (text : List ℕ) → slice_split (λ byte. byte == mark) text ≡ split_parts mark (cut_at mark text)
unfolding split_parts cut_at
split_cut mark [] = refl
split_cut mark (byte ∷ bytes) = split_cons mark byte bytes (byte == mark) (split_cut mark bytes)

pub split_none : (mark : ℕ) (text before : List ℕ) → (before, None) ≡ cut_at mark text → slice_split (λ byte. byte == mark) text ≡ before ∷ []
unfolding split_parts
split_none mark text before e = split_cut mark text ∙ ap (split_parts mark) (sym e)

pub split_some : (mark : ℕ) (text before rest : List ℕ) → (before, Some rest) ≡ cut_at mark text → slice_split (λ byte. byte == mark) text ≡ before ∷ slice_split (λ byte. byte == mark) rest
unfolding split_parts
split_some mark text before rest e = split_cut mark text ∙ ap (split_parts mark) (sym e)

-- how much is left
abbrev pub left_len : Option (List ℕ) → ℕ
left_len None = 0
left_len (Some rest) = suc (length rest)

shorter_cons : (mark byte : ℕ) (bytes : List ℕ) (t : Bool) → left_len (cut_at mark bytes).1 < suc (length bytes) → left_len (cond {A = List ℕ × Option (List ℕ)} t ([], Some bytes) (byte ∷ (cut_at mark bytes).0, (cut_at mark bytes).1)).1 < suc (suc (length bytes))
shorter_cons mark byte bytes true h = omega arith
shorter_cons mark byte bytes false h = omega (arith, h)

cut_shorter : (mark : ℕ) (text : List ℕ) → left_len (cut_at mark text).1 < suc (length text)
unfolding cut_at
cut_shorter mark [] = omega arith
cut_shorter mark (byte ∷ bytes) = shorter_cons mark byte bytes (byte == mark) (cut_shorter mark bytes)

pub less_left : (mark : ℕ) (text field : List ℕ) (others : Option (List ℕ)) → (field, others) ≡ cut_at mark text → left_len others < left_len (Some text)
less_left mark text field others e =
    let f : others ≡ (cut_at mark text).1 = ap (λ (c : List ℕ × Option (List ℕ)). c.1) e in
    subst (λ (o : Option (List ℕ)). left_len o < suc (length text)) (sym f) (cut_shorter mark text)

pub less_left_of : (mark : ℕ) (rest : Option (Bor (List ℕ))) (here : Bor (List ℕ)) (field : List ℕ) (others : Option (List ℕ)) → rest ≡ Some here → (field, others) ≡ cut_at mark here.now → left_len others < left_len (option_copied rest)
less_left_of mark rest here field others e f = subst (λ (r : Option (Bor (List ℕ))). left_len others < left_len (option_copied r)) (sym e) (less_left mark here.now field others f)

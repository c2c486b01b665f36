-- An edge that was written is what its text gives.
use Rattle.std.proofs.Common.{◌≡◌, ◌≢◌, ℕ, ◌+◌, ◌^◌, ◌<◌, ◌≤◌, Bool, true, false, cond, Some, None, Result, Ok, List, [], ◌∷◌, ◌++◌, All, length, map, codes, decimal, take, drop, refl, sym, ◌∙◌, ap, subst, arith, length-append, append_assoc}
use Rattle.std.specs.List.{list_all}
use Rattle.std.specs.Str.{bytes_eq}
use Rattle.std.proofs.lemmas.Bool.{and_parts, ne_eqb, false_from_ne_true}
use Rattle.std.proofs.lemmas.Fmt.{decimal_nonempty, digits_decimal, length-decimal-le}
use Rattle.std.proofs.lemmas.List.Elements.{All-nil, All-cons, All-append}
use Rattle.std.proofs.lemmas.Slice.Eq.{bytes_eq-Decides}
use Rattle.line_base.specs.declared.edge.Edge.{Edge}
use Rattle.line_base.specs.declared.faults.LineFault.{LineFault}
use Rattle.text_lines.specs.Lines.{ended_lines, open_line, without_cr}
use Rattle.line_base.specs.Texts.{is_digit, after_front}
use Rattle.edge_trace.specs.Rows.{Narrow}
use Rattle.edge_trace.specs.EdgeLists.{AtStart, Formless, InRows, Read, is_skipped, option_else, version_read, header_read, without_row, forming_read, row_read, content_read, Told, told_with, told_from, standing_after}
use Rattle.edge_trace.specs.Limits.{answers_of, whole_answers_of}
use Rattle.edge_trace.specs.Readers.{IsOpen, answers_of_read}
use Rattle.edge_trace.specs.Texts.{level_digit, narrow_text}
use Rattle.edge_trace.specs.declared.form.Form.TheVariants as variant
use Rattle.text_lines.proofs.Cutting.{one_line}
use Rattle.text_lines.proofs.LineEnds.{keeps_line}
use Rattle.edge_trace.proofs.Reading.{row_narrow, row_read_ok, no_time}
use Rattle.edge_trace.proofs.Streams.{told_open, ends_line, ends_within}
use Rattle.edge_trace.proofs.StandingFor.{answers_more, whole_more, any_number, limit_is}
use Rattle.line_base.proofs.Decimals.{digit_bounds, numerals}
use Rattle.edge_trace.proofs.ReadsBack.{row_back}

-- a text that begins with a digit
record BeginsWithDigit (text : List ℕ) : Type 0 where
  digit : ℕ
  others : List ℕ
  is : text ≡ digit ∷ others
  low : 48 ≤ digit
  high : digit ≤ 57

begins_with_digit : (digits more : List ℕ) → 0 < length digits → list_all is_digit digits ≡ true → BeginsWithDigit (digits ++ more)
begins_with_digit [] more some all = absurd (omega arith)
begins_with_digit (digit ∷ digits) more some all =
    let bounds = digit_bounds digit (and_parts (is_digit digit) (list_all is_digit digits) all).0 in
    record { digit = digit; others = digits ++ more; is = refl; low = bounds.0; high = bounds.1 }

-- a text that begins with another byte has no such front
heads_same : (a b : ℕ) (xs ys : List ℕ) → a ∷ xs ≡ b ∷ ys → a ≡ b
heads_same a b xs ys e = cc

other_front : (byte first : ℕ) (bytes front : List ℕ) → (byte ≡ first → ⊥) → after_front (first ∷ front) (byte ∷ bytes) ≡ None
other_front byte first bytes front ne =
    ap (λ t. cond t (Some (drop (length (first ∷ front)) (byte ∷ bytes))) None) (false_from_ne_true (bytes_eq (byte ∷ take (length front) bytes) (first ∷ front)) (λ t. ne (heads_same byte first (take (length front) bytes) front ((bytes_eq-Decides (byte ∷ take (length front) bytes) (first ∷ front)).0 t))))

-- a first line that begins with a digit is a narrow row in ns
first_row : (content : List ℕ) → BeginsWithDigit content → content_read AtStart content ≡ row_read Narrow [] [] content
first_row content begins =
    subst (λ (text : List ℕ). content_read AtStart text ≡ row_read Narrow [] [] text) (sym begins.is)
    (let low = begins.low in let high = begins.high in
    let text : List ℕ = begins.digit ∷ begins.others in
    let rest : Result Read LineFault = forming_read None text in
    ap (λ o. option_else o version_read (cond (is_skipped text) (without_row (Formless None)) rest)) (other_front begins.digit 35 begins.others (codes " version 2 ") (λ e. omega (arith, e, low)))
    ∙ ap (λ t. cond t (without_row (Formless None)) rest) (ne_eqb begins.digit 35 (λ e. omega (arith, e, low)))
    ∙ ap (λ o. option_else o (header_read None) (row_read Narrow [] [] text)) (other_front begins.digit 84 begins.others (codes "ime [s]") (λ e. omega (arith, e, high))))

-- no LF is in a written edge
digits_free : (digits : List ℕ) → list_all is_digit digits ≡ true → All (λ b. b ≢ 10) digits
digits_free [] all = All-nil (λ b. b ≢ 10)
digits_free (digit ∷ digits) all =
    let parts = and_parts (is_digit digit) (list_all is_digit digits) all in
    let low = (digit_bounds digit parts.0).0 in
    All-cons (λ b. b ≢ 10) digit digits (λ e. omega (arith, e, low)) (digits_free digits parts.1)

level_free : (level : Bool) → level_digit level ≢ 10
level_free true e = omega (arith, e)
level_free false e = omega (arith, e)

level_no_cr : (level : Bool) → level_digit level ≢ 13
level_no_cr true e = omega (arith, e)
level_no_cr false e = omega (arith, e)

regrouped : (a b c d e : List ℕ) → a ++ (b ++ (c ++ (d ++ e))) ≡ (a ++ (b ++ (c ++ d))) ++ e
regrouped a b c d e = sym (simp append_assoc)

behind_nothing : (after before one : List (Result (List Edge) LineFault)) (told : List Told) → after ≡ before ++ map (λ t. t.1) told → before ≡ [] → map (λ t. t.1) told ≡ one → after ≡ one
behind_nothing after before one told grows none same = grows ∙ ap (λ b. b ++ map (λ t. t.1) told) none ∙ same

module _ (edge : Edge) (low : edge.line ≤ 15) (range : edge.time ≤ 10 ^ 15) where
  time_digits : list_all is_digit (decimal edge.time) ≡ true
  time_digits = digits_decimal numerals edge.time (omega arith)

  line_digits : list_all is_digit (decimal edge.line) ≡ true
  line_digits = digits_decimal numerals edge.line (omega arith)

  text_free : All (λ b. b ≢ 10) (narrow_text edge)
  unfolding narrow_text
  text_free =
      All-append (λ b. b ≢ 10) (decimal edge.time) (44 ∷ (decimal edge.line ++ (44 ∷ level_digit edge.level ∷ []))) (digits_free (decimal edge.time) time_digits)
      (All-cons (λ b. b ≢ 10) 44 (decimal edge.line ++ (44 ∷ level_digit edge.level ∷ [])) (λ e. omega (arith, e)) (All-append (λ b. b ≢ 10) (decimal edge.line) (44 ∷ level_digit edge.level ∷ []) (digits_free (decimal edge.line) line_digits)
      (All-cons (λ b. b ≢ 10) 44 (level_digit edge.level ∷ []) (λ e. omega (arith, e)) (All-cons (λ b. b ≢ 10) (level_digit edge.level) [] (level_free edge.level) (All-nil (λ b. b ≢ 10))))))

  text_short : length (narrow_text edge) ≤ 21
  unfolding narrow_text
  text_short =
      let time = length-decimal-le 16 edge.time (omega arith) (omega arith) (omega arith) in
      let line = length-decimal-le 2 edge.line (omega arith) (omega arith) (omega arith) in
      omega (arith, length-append (decimal edge.time) (44 ∷ (decimal edge.line ++ (44 ∷ level_digit edge.level ∷ []))), length-append (decimal edge.line) (44 ∷ level_digit edge.level ∷ []), time, line)

  text_begins : BeginsWithDigit (narrow_text edge)
  unfolding narrow_text
  text_begins = begins_with_digit (decimal edge.time) _ (decimal_nonempty edge.time (omega arith)) time_digits

  text_some : length (narrow_text edge) ≡ 0 → ⊥
  text_some e = let begins = ap length text_begins.is in omega arith

  text_kept : narrow_text edge ≡ without_cr (narrow_text edge)
  unfolding narrow_text
  text_kept =
      keeps_line (narrow_text edge) (decimal edge.time ++ (44 ∷ (decimal edge.line ++ 44 ∷ []))) (level_digit edge.level)
      (regrouped (decimal edge.time) (44 ∷ []) (decimal edge.line) (44 ∷ []) (level_digit edge.level ∷ [])) (level_no_cr edge.level)

  text_open : IsOpen (narrow_text edge) AtStart
  unfolding standing_after
  text_open =
      let one = one_line (narrow_text edge) text_free in
      let short = text_short in
      let limit = limit_is in
      record {
        within = omega arith;
        short = (let same = ap length one.open_is in omega arith);
        standing_is = ap (standing_after AtStart) one.none_ended;
      }

  -- what the text gives as a line
  record IsRead (read : Result Read LineFault) : Type 0 where
    found : Read
    is : read ≡ Ok found
    edges_are : found.edges ≡ edge ∷ []

  text_read : IsRead (content_read AtStart (without_cr (open_line (narrow_text edge))))
  text_read =
      let one = one_line (narrow_text edge) text_free in
      let back = row_back edge 0 low range (omega arith) in
      record {
        found = record { standing = InRows Narrow (back.stamp ∷ []) (edge ∷ []); edges = edge ∷ [] };
        is = ap (λ line. content_read AtStart (without_cr line)) one.open_is ∙ ap (content_read AtStart) (sym text_kept) ∙ first_row (narrow_text edge) text_begins
            ∙ row_read_ok Narrow [] [] (narrow_text edge) back.stamp (edge ∷ []) (row_narrow variant.Narrow (λ columns e. cc) [] 0 (narrow_text edge) (no_time Narrow) ∙ back.is);
        edges_are = refl;
      }

  nothing_yet : answers_of (narrow_text edge) ≡ []
  unfolding answers_of told_from
  nothing_yet =
      let one = one_line (narrow_text edge) text_free in
      ap (map (λ t. t.1)) (told_open (narrow_text edge) AtStart text_open ∙ ap (told_from 1 AtStart) one.none_ended)

  answers_read : (number : ℕ) (read : Result Read LineFault) → IsRead read → map (λ t. t.1) (told_with number read (λ _. [])) ≡ Ok (edge ∷ []) ∷ []
  answers_read number read known = any_number number read ∙ ap answers_of_read known.is ∙ ap (λ edges. answers_of_read (Ok (record { standing = known.found.standing; edges = edges }))) known.edges_are

  -- a written edge is the one answer of its text, as the whole input
  pub read_whole : whole_answers_of (narrow_text edge) ≡ Ok (edge ∷ []) ∷ []
  read_whole =
      let one = one_line (narrow_text edge) text_free in
      behind_nothing _ _ _ _ (whole_more (narrow_text edge) _ (ends_within (narrow_text edge) AtStart text_open (λ e. text_some (sym (ap length one.open_is) ∙ e))))
      nothing_yet (answers_read (1 + length (ended_lines (narrow_text edge))) (content_read AtStart (without_cr (open_line (narrow_text edge)))) text_read)

  -- and as a line that has ended
  pub read_line : answers_of (narrow_text edge ++ 10 ∷ []) ≡ Ok (edge ∷ []) ∷ []
  read_line =
      behind_nothing _ _ _ _ (answers_more (narrow_text edge) (narrow_text edge ++ 10 ∷ []) _ (ends_line (narrow_text edge) AtStart text_open (let short = text_short in let limit = limit_is in omega arith)))
      nothing_yet (answers_read (1 + length (ended_lines (narrow_text edge))) (content_read AtStart (without_cr (open_line (narrow_text edge)))) text_read)

-- What is told of an edge list stays told, and behind a fault nothing more is.
use Rattle.std.proofs.Common.{◌≡◌, ℕ, ◌+◌, ◌<◌, ◌≤◌, true, cond, Option, Some, None, Err, List, [], ◌∷◌, ◌++◌, length, take, is_some, refl, sym, ◌∙◌, ap, inl, inr, arith}
use Rattle.std.proofs.lemmas.Bool.{lt-ltb, le-ltb, eq-eqb, ne_eqb, cases_lt, cases_eq}
use Rattle.std.proofs.lemmas.List.{append_assoc, length_push, take_at, take-append-le}
use Rattle.line_base.specs.declared.faults.LineFault.{LineFault}
use Rattle.line_base.specs.declared.faults.LineFault.TheVariants.{LineTooLong, InputTooLong}
use Rattle.text_lines.specs.Lines.{ended_lines, open_line}
use Rattle.edge_trace.specs.EdgeLists.{Standing, AtStart, told_with, told_from, standing_after}
use Rattle.edge_trace.specs.Limits.{told_within, told_past, told_of, whole_told_of, fault_in, fault_of}
use Rattle.text_lines.specs.Inputs.{input_limit, long_line, last_line}
use Rattle.edge_trace.proofs.Telling.{told_on, told_append}
use Rattle.text_lines.proofs.Cutting.{line_after, ended_by, ended_push, open_push}
use Rattle.edge_trace.proofs.Streams.{told_in_limit, long_read, is_long, last_one, no_fault_open}

-- a fault isn't none
some_is : {A : Type 0} (o : Option A) (x : A) → o ≡ Some x → is_some o ≡ true
some_is o x e = ap is_some e

pub not_both : {A : Type 0} (o : Option A) (x : A) → o ≡ Some x → o ≡ None → ⊥
not_both o x e f = cc

-- what is told past the limit
pub told_past_limit : (bytes : List ℕ) → input_limit < length bytes → told_of bytes ≡ told_past (take input_limit bytes) (told_within (take input_limit bytes))
unfolding told_of
told_past_limit bytes past = ap (λ t. cond t (told_past (take input_limit bytes) (told_within (take input_limit bytes))) (told_within bytes)) (lt-ltb input_limit (length bytes) past)

-- the lines of one more byte
within_push : (bytes : List ℕ) (byte : ℕ) → told_within (bytes ++ byte ∷ []) ≡ told_from 1 AtStart (ended_lines bytes ++ (ended_by (open_line bytes) byte ++ long_line (line_after (open_line bytes) byte)))
unfolding told_within
within_push bytes byte =
    ap (λ lines. told_from 1 AtStart (lines ++ long_line (open_line (bytes ++ byte ∷ [])))) (ended_push bytes byte)
    ∙ ap (λ line. told_from 1 AtStart ((ended_lines bytes ++ ended_by (open_line bytes) byte) ++ long_line line)) (open_push bytes byte)
    ∙ ap (told_from 1 AtStart) (append_assoc (ended_lines bytes) (ended_by (open_line bytes) byte) (long_line (line_after (open_line bytes) byte)))

-- behind lines with a fault, further lines tell nothing
stopped_lines : (front more other : List (List ℕ)) → standing_after AtStart front ≡ None → told_from 1 AtStart (front ++ more) ≡ told_from 1 AtStart (front ++ other)
stopped_lines front more other e =
    told_append 1 AtStart front more ∙ ap (λ s. told_from 1 AtStart front ++ told_on (1 + length front) s more) e
    ∙ sym (told_append 1 AtStart front other ∙ ap (λ s. told_from 1 AtStart front ++ told_on (1 + length front) s other) e)

-- a line that is too long tells the same whatever it is
pub one_long : (number : ℕ) (standing : Standing) (line : List ℕ) → 512 < length line → told_from number standing (line ∷ []) ≡ (number, Err LineTooLong) ∷ []
unfolding told_from
one_long number standing line long = ap (λ r. told_with number r (λ _. [])) (long_read standing line long)

long_lines : (front : List (List ℕ)) (line other : List ℕ) (standing : Standing) → standing_after AtStart front ≡ Some standing → 512 < length line → 512 < length other → told_from 1 AtStart (front ++ line ∷ []) ≡ told_from 1 AtStart (front ++ other ∷ [])
long_lines front line other standing e long longer =
    told_append 1 AtStart front (line ∷ []) ∙ ap (λ s. told_from 1 AtStart front ++ told_on (1 + length front) s (line ∷ [])) e
    ∙ ap (λ told. told_from 1 AtStart front ++ told) (one_long (1 + length front) standing line long ∙ sym (one_long (1 + length front) standing other longer))
    ∙ sym (told_append 1 AtStart front (other ∷ []) ∙ ap (λ s. told_from 1 AtStart front ++ told_on (1 + length front) s (other ∷ [])) e)

-- behind a line that is too long, each byte leaves one
long_after : (line : List ℕ) (byte : ℕ) → 512 < length line → (other : List ℕ) × (ended_by line byte ++ long_line (line_after line byte) ≡ other ∷ []) × (512 < length other)
long_after line byte long = elim (cases_eq byte 10) [
  | inl e ↦ (line, ap (λ t. cond t (line ∷ []) [] ++ long_line (cond t [] (line ++ byte ∷ []))) (eq-eqb byte 10 e), long)
  | inr ne ↦ (let longer : 512 < length (line ++ byte ∷ []) = (let l = length_push line byte in omega arith) in
      (line ++ byte ∷ [], ap (λ t. cond t (line ∷ []) [] ++ long_line (cond t [] (line ++ byte ∷ []))) (ne_eqb byte 10 ne) ∙ is_long (line ++ byte ∷ []) longer, longer))
]

-- a fault within the limit: a line that ended has it, or the unfinished line is too long
fault_or_long : (bytes : List ℕ) (fault : ℕ × LineFault) (standing : Standing) → length bytes ≤ input_limit → fault_of bytes ≡ Some fault → standing_after AtStart (ended_lines bytes) ≡ Some standing → 512 < length (open_line bytes)
fault_or_long bytes fault standing within e f = elim (cases_lt 512 (length (open_line bytes))) [
  | inl long ↦ long
  | inr short ↦ absurd (not_both (fault_of bytes) fault e (no_fault_open bytes standing (record { within = within; short = short; standing_is = f })))
]

within_stays : (bytes : List ℕ) (byte : ℕ) (fault : ℕ × LineFault) (o : Option Standing) → length bytes ≤ input_limit → fault_of bytes ≡ Some fault → standing_after AtStart (ended_lines bytes) ≡ o → told_within (bytes ++ byte ∷ []) ≡ told_within bytes
unfolding told_within
within_stays bytes byte fault None within e f = within_push bytes byte ∙ stopped_lines (ended_lines bytes) (ended_by (open_line bytes) byte ++ long_line (line_after (open_line bytes) byte)) (long_line (open_line bytes)) f
within_stays bytes byte fault (Some standing) within e f =
    let long = fault_or_long bytes fault standing within e f in
    let other = long_after (open_line bytes) byte long in
    within_push bytes byte ∙ ap (λ lines. told_from 1 AtStart (ended_lines bytes ++ lines)) other.1
    ∙ long_lines (ended_lines bytes) other.0 (open_line bytes) standing f other.2 long
    ∙ ap (λ lines. told_from 1 AtStart (ended_lines bytes ++ lines)) (sym (is_long (open_line bytes) long))

-- the end of the input tells nothing more behind a fault
whole_within : (bytes : List ℕ) (fault : ℕ × LineFault) (o : Option Standing) → length bytes ≤ input_limit → fault_of bytes ≡ Some fault → standing_after AtStart (ended_lines bytes) ≡ o → told_from 1 AtStart (ended_lines bytes ++ last_line (open_line bytes)) ≡ told_within bytes
unfolding told_within
whole_within bytes fault None within e f = stopped_lines (ended_lines bytes) (last_line (open_line bytes)) (long_line (open_line bytes)) f
whole_within bytes fault (Some standing) within e f =
    let long = fault_or_long bytes fault standing within e f in
    let ne : length (open_line bytes) ≡ 0 → ⊥ = λ z. omega (arith, z, long) in
    ap (λ lines. told_from 1 AtStart (ended_lines bytes ++ lines)) (last_one (open_line bytes) ne ∙ sym (is_long (open_line bytes) long))

past_stays : (bytes : List ℕ) (byte : ℕ) → input_limit < length bytes → told_of (bytes ++ byte ∷ []) ≡ told_of bytes
past_stays bytes byte past =
    let longer : input_limit < length (bytes ++ byte ∷ []) = (let l = length_push bytes byte in omega arith) in
    told_past_limit (bytes ++ byte ∷ []) longer
    ∙ ap (λ b. told_past b (told_within b)) (take-append-le input_limit bytes (byte ∷ []) (omega arith))
    ∙ sym (told_past_limit bytes past)

full_stays : (bytes : List ℕ) (byte : ℕ) (fault : ℕ × LineFault) → length bytes ≡ input_limit → fault_of bytes ≡ Some fault → told_of (bytes ++ byte ∷ []) ≡ told_of bytes
unfolding fault_of
full_stays bytes byte fault full e =
    let longer : input_limit < length (bytes ++ byte ∷ []) = (let l = length_push bytes byte in omega arith) in
    let same : told_of bytes ≡ told_within bytes = told_in_limit bytes (omega arith) in
    told_past_limit (bytes ++ byte ∷ []) longer
    ∙ ap (λ b. told_past b (told_within b)) (take_at bytes (byte ∷ []) input_limit full)
    ∙ ap (λ t. cond t (told_within bytes) (told_within bytes ++ (length (ended_lines bytes) + 1, Err InputTooLong) ∷ [])) (ap is_some (ap fault_in (sym same)) ∙ some_is (fault_in (told_of bytes)) fault e)
    ∙ sym same

-- behind a fault one more byte tells nothing
pub told_stays : (bytes : List ℕ) (byte : ℕ) (fault : ℕ × LineFault) → fault_of bytes ≡ Some fault → told_of (bytes ++ byte ∷ []) ≡ told_of bytes
told_stays bytes byte fault e = elim (cases_lt input_limit (length bytes)) [
  | inl past ↦ past_stays bytes byte past
  | inr within ↦ elim (cases_eq (length bytes) input_limit) [
    | inl full ↦ full_stays bytes byte fault full e
    | inr ne ↦ (let longer : length (bytes ++ byte ∷ []) ≤ input_limit = (let l = length_push bytes byte in omega arith) in
        told_in_limit (bytes ++ byte ∷ []) longer ∙ within_stays bytes byte fault (standing_after AtStart (ended_lines bytes)) within e refl ∙ sym (told_in_limit bytes within))
  ]
]

-- behind a fault the end of the input tells nothing
pub whole_stays : (bytes : List ℕ) (fault : ℕ × LineFault) → fault_of bytes ≡ Some fault → whole_told_of bytes ≡ told_of bytes
unfolding whole_told_of
whole_stays bytes fault e = elim (cases_lt input_limit (length bytes)) [
  | inl past ↦ ap (λ t. cond t (told_of bytes) (told_from 1 AtStart (ended_lines bytes ++ last_line (open_line bytes)))) (lt-ltb input_limit (length bytes) past)
  | inr within ↦ ap (λ t. cond t (told_of bytes) (told_from 1 AtStart (ended_lines bytes ++ last_line (open_line bytes)))) (le-ltb input_limit (length bytes) within)
      ∙ whole_within bytes fault (standing_after AtStart (ended_lines bytes)) within e refl ∙ sym (told_in_limit bytes within)
]

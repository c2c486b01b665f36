-- The lines of bytes stand when more come, and behind a fault nothing more is told.
use Rattle.std.proofs.Common.{◌≡◌, ℕ, ◌+◌, ◌<◌, ◌≤◌, cond, Option, Some, None, Ok, Err, List, [], ◌∷◌, ◌++◌, length, take, refl, sym, ◌∙◌, ap, subst, inl, inr, arith}
use Rattle.std.proofs.lemmas.Bool.{lt-ltb, le-ltb, eq-eqb, ne_eqb, cases_lt, cases_eq}
use Rattle.std.proofs.lemmas.List.{append_assoc, append-nil, length_push, take_at, take-append-le}
use Rattle.line_base.specs.Streams.{IsFrontOf}
use Rattle.line_base.proofs.Fronts.{IsFrontOf-trans}
use Rattle.line_base.specs.declared.faults.LineFault.{LineFault}
use Rattle.line_base.specs.declared.faults.LineFault.TheVariants.{LineTooLong, InputTooLong}
use Rattle.text_lines.specs.Lines.{ended_lines, open_line, without_cr}
use Rattle.text_lines.specs.Inputs.{Numbered, fault_in, unless_fault, input_limit, lines_from, long_line, last_line, lines_within, lines_past, lines_of, whole_lines_of, Stays}
use Rattle.text_lines.specs.Readers.{IsOpen}
use Rattle.text_lines.proofs.Cutting.{line_after, ended_by, ended_push, open_push}
use Rattle.text_lines.proofs.Telling.{not_both, unless_none, unless_some, lines_append, fault_behind}
use Rattle.text_lines.proofs.Streams.{lines_in_limit, lines_past_limit, no_fault_open, is_long, one_long, last_one, past_limit, too_long, goes_on, ends_line, ends_between, ends_within}

-- the lines of one more byte
within_push : (bytes : List ℕ) (byte : ℕ) → lines_within (bytes ++ byte ∷ []) ≡ lines_from 1 (ended_lines bytes ++ (ended_by (open_line bytes) byte ++ long_line (line_after (open_line bytes) byte)))
unfolding lines_within
within_push bytes byte =
    ap (λ lines. lines_from 1 (lines ++ long_line (open_line (bytes ++ byte ∷ [])))) (ended_push bytes byte)
    ∙ ap (λ line. lines_from 1 ((ended_lines bytes ++ ended_by (open_line bytes) byte) ++ long_line line)) (open_push bytes byte)
    ∙ ap (lines_from 1) (append_assoc (ended_lines bytes) (ended_by (open_line bytes) byte) (long_line (line_after (open_line bytes) byte)))

-- behind lines with a fault, further lines tell nothing
stopped_lines : (front more other : List (List ℕ)) (fault : ℕ × LineFault) → fault_in (lines_from 1 front) ≡ Some fault → lines_from 1 (front ++ more) ≡ lines_from 1 (front ++ other)
stopped_lines front more other fault e =
    lines_append 1 front more ∙ unless_some (lines_from 1 front) (lines_from (1 + length front) more) fault e
    ∙ sym (lines_append 1 front other ∙ unless_some (lines_from 1 front) (lines_from (1 + length front) other) fault e)

-- a line that is too long tells the same whatever it is
long_lines : (front : List (List ℕ)) (line other : List ℕ) → fault_in (lines_from 1 front) ≡ None → 512 < length line → 512 < length other → lines_from 1 (front ++ line ∷ []) ≡ lines_from 1 (front ++ other ∷ [])
long_lines front line other e long longer =
    lines_append 1 front (line ∷ []) ∙ unless_none (lines_from 1 front) (lines_from (1 + length front) (line ∷ [])) e
    ∙ ap (λ told. lines_from 1 front ++ told) (one_long (1 + length front) line long ∙ sym (one_long (1 + length front) other longer))
    ∙ sym (lines_append 1 front (other ∷ []) ∙ unless_none (lines_from 1 front) (lines_from (1 + length front) (other ∷ [])) e)

-- behind a line that is too long, each byte leaves one
long_after : (line : List ℕ) (byte : ℕ) → 512 < length line → (other : List ℕ) × (ended_by line byte ++ long_line (line_after line byte) ≡ other ∷ []) × (512 < length other)
long_after line byte long = elim (cases_eq byte 10) [
  | inl e ↦ (line, ap (λ t. cond t (line ∷ []) [] ++ long_line (cond t [] (line ++ byte ∷ []))) (eq-eqb byte 10 e), long)
  | inr ne ↦ (let longer : 512 < length (line ++ byte ∷ []) = (let l = length_push line byte in omega arith) in
      (line ++ byte ∷ [], ap (λ t. cond t (line ∷ []) [] ++ long_line (cond t [] (line ++ byte ∷ []))) (ne_eqb byte 10 ne) ∙ is_long (line ++ byte ∷ []) longer, longer))
]

-- a fault within the limit: a line that ended has it, or the unfinished line is too long
fault_or_long : (bytes : List ℕ) (fault : ℕ × LineFault) → length bytes ≤ input_limit → fault_in (lines_of bytes) ≡ Some fault → fault_in (lines_from 1 (ended_lines bytes)) ≡ None → 512 < length (open_line bytes)
fault_or_long bytes fault within e f = elim (cases_lt 512 (length (open_line bytes))) [
  | inl long ↦ long
  | inr short ↦ absurd (not_both (fault_in (lines_of bytes)) fault e (no_fault_open bytes (record { within = within; short = short; no_fault = f })))
]

within_stays : (bytes : List ℕ) (byte : ℕ) (fault : ℕ × LineFault) (o : Option (ℕ × LineFault)) → length bytes ≤ input_limit → fault_in (lines_of bytes) ≡ Some fault → fault_in (lines_from 1 (ended_lines bytes)) ≡ o → lines_within (bytes ++ byte ∷ []) ≡ lines_within bytes
unfolding lines_within
within_stays bytes byte fault (Some own) within e f = within_push bytes byte ∙ stopped_lines (ended_lines bytes) (ended_by (open_line bytes) byte ++ long_line (line_after (open_line bytes) byte)) (long_line (open_line bytes)) own f
within_stays bytes byte fault None within e f =
    let long = fault_or_long bytes fault within e f in
    let other = long_after (open_line bytes) byte long in
    within_push bytes byte ∙ ap (λ lines. lines_from 1 (ended_lines bytes ++ lines)) other.1
    ∙ long_lines (ended_lines bytes) other.0 (open_line bytes) f other.2 long
    ∙ ap (λ lines. lines_from 1 (ended_lines bytes ++ lines)) (sym (is_long (open_line bytes) long))

-- the end of the input tells nothing more behind a fault
whole_within : (bytes : List ℕ) (fault : ℕ × LineFault) (o : Option (ℕ × LineFault)) → length bytes ≤ input_limit → fault_in (lines_of bytes) ≡ Some fault → fault_in (lines_from 1 (ended_lines bytes)) ≡ o → lines_from 1 (ended_lines bytes ++ last_line (open_line bytes)) ≡ lines_within bytes
unfolding lines_within
whole_within bytes fault (Some own) within e f = stopped_lines (ended_lines bytes) (last_line (open_line bytes)) (long_line (open_line bytes)) own f
whole_within bytes fault None within e f =
    let long = fault_or_long bytes fault within e f in
    let ne : length (open_line bytes) ≡ 0 → ⊥ = λ z. omega (arith, z, long) in
    ap (λ lines. lines_from 1 (ended_lines bytes ++ lines)) (last_one (open_line bytes) ne ∙ sym (is_long (open_line bytes) long))

past_stays : (bytes : List ℕ) (byte : ℕ) → input_limit < length bytes → lines_of (bytes ++ byte ∷ []) ≡ lines_of bytes
past_stays bytes byte past =
    let longer : input_limit < length (bytes ++ byte ∷ []) = (let l = length_push bytes byte in omega arith) in
    lines_past_limit (bytes ++ byte ∷ []) longer
    ∙ ap (λ b. lines_past b) (take-append-le input_limit bytes (byte ∷ []) (omega arith))
    ∙ sym (lines_past_limit bytes past)

full_stays : (bytes : List ℕ) (byte : ℕ) (fault : ℕ × LineFault) → length bytes ≡ input_limit → fault_in (lines_of bytes) ≡ Some fault → lines_of (bytes ++ byte ∷ []) ≡ lines_of bytes
full_stays bytes byte fault full e =
    let longer : input_limit < length (bytes ++ byte ∷ []) = (let l = length_push bytes byte in omega arith) in
    let same : lines_of bytes ≡ lines_within bytes = lines_in_limit bytes (omega arith) in
    lines_past_limit (bytes ++ byte ∷ []) longer
    ∙ ap (λ b. lines_past b) (take_at bytes (byte ∷ []) input_limit full)
    ∙ unless_some (lines_within bytes) ((length (ended_lines bytes) + 1, Err InputTooLong) ∷ []) fault (ap fault_in (sym same) ∙ e)
    ∙ sym same

-- behind a fault one more byte tells nothing
pub lines_stay : (bytes : List ℕ) (byte : ℕ) (fault : ℕ × LineFault) → fault_in (lines_of bytes) ≡ Some fault → lines_of (bytes ++ byte ∷ []) ≡ lines_of bytes
lines_stay bytes byte fault e = elim (cases_lt input_limit (length bytes)) [
  | inl past ↦ past_stays bytes byte past
  | inr within ↦ elim (cases_eq (length bytes) input_limit) [
    | inl full ↦ full_stays bytes byte fault full e
    | inr ne ↦ (let longer : length (bytes ++ byte ∷ []) ≤ input_limit = (let l = length_push bytes byte in omega arith) in
        lines_in_limit (bytes ++ byte ∷ []) longer ∙ within_stays bytes byte fault (fault_in (lines_from 1 (ended_lines bytes))) within e refl ∙ sym (lines_in_limit bytes within))
  ]
]

-- behind a fault the end of the input tells nothing
pub whole_stays : (bytes : List ℕ) (fault : ℕ × LineFault) → fault_in (lines_of bytes) ≡ Some fault → whole_lines_of bytes ≡ lines_of bytes
unfolding whole_lines_of
whole_stays bytes fault e = elim (cases_lt input_limit (length bytes)) [
  | inl past ↦ ap (λ t. cond t (lines_of bytes) (lines_from 1 (ended_lines bytes ++ last_line (open_line bytes)))) (lt-ltb input_limit (length bytes) past)
  | inr within ↦ ap (λ t. cond t (lines_of bytes) (lines_from 1 (ended_lines bytes ++ last_line (open_line bytes)))) (le-ltb input_limit (length bytes) within)
      ∙ whole_within bytes fault (fault_in (lines_from 1 (ended_lines bytes))) within e refl ∙ sym (lines_in_limit bytes within)
]

-- ---- more bytes

pub same_front : {A : Type 0} (xs ys : List A) → ys ≡ xs → IsFrontOf xs ys
same_front xs ys e = record { rest = []; is = e ∙ sym (append-nil xs) }

-- a fault among the first of what is told
has_fault : {A : Type 0} (front more : List (Numbered A)) (o : Option (ℕ × LineFault)) → fault_in front ≡ o → fault_in (unless_fault front more) ≡ None → fault_in front ≡ None
has_fault front more None e f = e
has_fault front more (Some fault) e f = sym (ap fault_in (unless_some front more fault e)) ∙ f

-- a fault at the end of what is told
fault_last : (front : List (Numbered (List ℕ))) (number : ℕ) (fault : LineFault) → fault_in front ≡ None → fault_in (front ++ (number, Err fault) ∷ []) ≡ None → ⊥
fault_last front number fault e f = not_both (fault_in (front ++ (number, Err fault) ∷ [])) (number, fault) (fault_behind front ((number, Err fault) ∷ []) e) f

no_fault_within : (bytes : List ℕ) → fault_in (lines_of bytes) ≡ None → length bytes ≤ input_limit
no_fault_within bytes e = elim (cases_lt input_limit (length bytes)) [
  | inl past ↦ (let front = lines_within (take input_limit bytes) in
      let number = length (ended_lines (take input_limit bytes)) + 1 in
      let told = ap fault_in (sym (lines_past_limit bytes past)) ∙ e in
      let none = has_fault front ((number, Err InputTooLong) ∷ []) (fault_in front) refl told in
      absurd (fault_last front number InputTooLong none (sym (ap fault_in (unless_none front ((number, Err InputTooLong) ∷ []) none)) ∙ told)))
  | inr within ↦ within
]

-- bytes without a fault
pub open_without_fault : (bytes : List ℕ) → fault_in (lines_of bytes) ≡ None → IsOpen bytes
unfolding lines_within
open_without_fault bytes e =
    let within = no_fault_within bytes e in
    let front = lines_from 1 (ended_lines bytes) in
    let more = lines_from (1 + length (ended_lines bytes)) (long_line (open_line bytes)) in
    let told = sym (ap fault_in (lines_in_limit bytes within ∙ lines_append 1 (ended_lines bytes) (long_line (open_line bytes)))) ∙ e in
    let none = has_fault front more (fault_in front) refl told in
    elim (cases_lt 512 (length (open_line bytes))) [
      | inl long ↦ (let one = ap (lines_from (1 + length (ended_lines bytes))) (is_long (open_line bytes) long) ∙ one_long (1 + length (ended_lines bytes)) (open_line bytes) long in
          absurd (fault_last front (1 + length (ended_lines bytes)) LineTooLong none (sym (ap fault_in (unless_none front more none ∙ ap (λ m. front ++ m) one)) ∙ told)))
      | inr short ↦ record { within = within; short = short; no_fault = none }
    ]

open_front : (bytes : List ℕ) (byte : ℕ) → IsOpen bytes → IsFrontOf (lines_of bytes) (lines_of (bytes ++ byte ∷ []))
open_front bytes byte is_open = elim (cases_lt (length bytes) input_limit) [
  | inl room ↦ elim (cases_eq byte 10) [
    | inl lf ↦ record { rest = (1 + length (ended_lines bytes), Ok (without_cr (open_line bytes))) ∷ []; is = ap (λ b. lines_of (bytes ++ b ∷ [])) lf ∙ ends_line bytes is_open room }
    | inr other ↦ elim (cases_lt (length (open_line bytes)) 512) [
      | inl short ↦ same_front (lines_of bytes) (lines_of (bytes ++ byte ∷ [])) (goes_on bytes is_open byte room other short)
      | inr full ↦ record { rest = (1 + length (ended_lines bytes), Err LineTooLong) ∷ []; is = too_long bytes is_open byte room other full }
    ]
  ]
  | inr full ↦ record { rest = (length (ended_lines bytes) + 1, Err InputTooLong) ∷ []; is = past_limit bytes is_open byte (let within = is_open.within in omega arith) }
]

byte_front : (bytes : List ℕ) (byte : ℕ) (o : Option (ℕ × LineFault)) → fault_in (lines_of bytes) ≡ o → IsFrontOf (lines_of bytes) (lines_of (bytes ++ byte ∷ []))
byte_front bytes byte None e = open_front bytes byte (open_without_fault bytes e)
byte_front bytes byte (Some fault) e = same_front (lines_of bytes) (lines_of (bytes ++ byte ∷ [])) (lines_stay bytes byte fault e)

-- the lines stand when more bytes come
pub lines_front : (bytes more : List ℕ) → IsFrontOf (lines_of bytes) (lines_of (bytes ++ more))
lines_front bytes [] = same_front (lines_of bytes) (lines_of (bytes ++ [])) (ap lines_of (append-nil bytes))
lines_front bytes (byte ∷ more) =
    IsFrontOf-trans (byte_front bytes byte (fault_in (lines_of bytes)) refl)
    (subst (λ (all : List ℕ). IsFrontOf (lines_of (bytes ++ byte ∷ [])) (lines_of all)) (append_assoc bytes (byte ∷ []) more) (lines_front (bytes ++ byte ∷ []) more))

empty_list : (xs : List ℕ) → length xs ≡ 0 → xs ≡ []
empty_list [] e = refl
empty_list (x ∷ xs) e = absurd (omega arith)

whole_cases : (bytes : List ℕ) (o : Option (ℕ × LineFault)) → fault_in (lines_of bytes) ≡ o → IsFrontOf (lines_of bytes) (whole_lines_of bytes)
whole_cases bytes (Some fault) e = same_front (lines_of bytes) (whole_lines_of bytes) (whole_stays bytes fault e)
whole_cases bytes None e =
    let is_open = open_without_fault bytes e in
    elim (cases_eq (length (open_line bytes)) 0) [
      | inl empty ↦ same_front (lines_of bytes) (whole_lines_of bytes) (ends_between bytes is_open (empty_list (open_line bytes) empty))
      | inr some ↦ record { rest = (1 + length (ended_lines bytes), Ok (without_cr (open_line bytes))) ∷ []; is = ends_within bytes is_open some }
    ]

-- the lines stand at the end of the input
pub whole_front : (bytes : List ℕ) → IsFrontOf (lines_of bytes) (whole_lines_of bytes)
whole_front bytes = whole_cases bytes (fault_in (lines_of bytes)) refl

pub stays : (bytes more : List ℕ) → Stays bytes more
stays bytes more = record { when_more_come = lines_front bytes more; at_the_end = whole_front bytes }

-- no bytes have no lines
pub no_lines : lines_of [] ≡ []
unfolding lines_of lines_within lines_from ended_lines open_line input_limit
no_lines = refl

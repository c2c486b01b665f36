-- What one more byte tells, and the end of the input.
use Rattle.std.proofs.Common.{◌≡◌, ℕ, ◌+◌, ◌<◌, ◌≤◌, cond, None, Ok, Err, List, [], ◌∷◌, ◌++◌, length, take, refl, sym, ◌∙◌, ap, arith}
use Rattle.std.proofs.lemmas.Bool.{lt-ltb, le-ltb, ne_eqb}
use Rattle.std.proofs.lemmas.List.{append-nil, length_push, take_at}
use Rattle.line_base.specs.declared.faults.LineFault.TheVariants.{LineTooLong, InputTooLong}
use Rattle.text_lines.specs.Lines.{ended_lines, open_line, without_cr}
use Rattle.text_lines.specs.Inputs.{fault_in, input_limit, line_read, line_with, lines_from, long_line, last_line, lines_within, lines_past, lines_of, whole_lines_of, lines_begun, line_number_of, number_at}
use Rattle.text_lines.specs.Readers.{IsOpen}
use Rattle.text_lines.proofs.Cutting.{line_after, ended_by, ended_push, open_push}
use Rattle.text_lines.proofs.Telling.{unless_none, lines_append, fault_behind}

-- a line that isn't too long, and one that is
pub not_long : (line : List ℕ) → length line ≤ 512 → long_line line ≡ []
not_long line short = ap (λ t. cond t (line ∷ []) []) (le-ltb 512 (length line) short)

pub is_long : (line : List ℕ) → 512 < length line → long_line line ≡ line ∷ []
is_long line long = ap (λ t. cond t (line ∷ []) []) (lt-ltb 512 (length line) long)

pub long_read : (line : List ℕ) → 512 < length line → line_read line ≡ Err LineTooLong
unfolding line_read
long_read line long = ap (λ t. cond t (Err LineTooLong) (Ok (without_cr line))) (lt-ltb 512 (length line) long)

pub short_read : (line : List ℕ) → length line ≤ 512 → line_read line ≡ Ok (without_cr line)
unfolding line_read
short_read line short = ap (λ t. cond t (Err LineTooLong) (Ok (without_cr line))) (le-ltb 512 (length line) short)

pub last_one : (line : List ℕ) → (length line ≡ 0 → ⊥) → last_line line ≡ line ∷ []
last_one [] ne = absurd (ne refl)
last_one (byte ∷ bytes) ne = refl

-- one line
pub one_line : (number : ℕ) (line : List ℕ) → lines_from number (line ∷ []) ≡ line_with number (line_read line) []
unfolding lines_from
one_line number line = refl

pub one_short : (number : ℕ) (line : List ℕ) → length line ≤ 512 → lines_from number (line ∷ []) ≡ (number, Ok (without_cr line)) ∷ []
one_short number line short = one_line number line ∙ ap (λ r. line_with number r []) (short_read line short)

pub one_long : (number : ℕ) (line : List ℕ) → 512 < length line → lines_from number (line ∷ []) ≡ (number, Err LineTooLong) ∷ []
one_long number line long = one_line number line ∙ ap (λ r. line_with number r []) (long_read line long)

-- the lines within the limit and past it
pub lines_in_limit : (bytes : List ℕ) → length bytes ≤ input_limit → lines_of bytes ≡ lines_within bytes
unfolding lines_of
lines_in_limit bytes within = ap (λ t. cond t (lines_past (take input_limit bytes)) (lines_within bytes)) (le-ltb input_limit (length bytes) within)

pub lines_past_limit : (bytes : List ℕ) → input_limit < length bytes → lines_of bytes ≡ lines_past (take input_limit bytes)
unfolding lines_of
lines_past_limit bytes past = ap (λ t. cond t (lines_past (take input_limit bytes)) (lines_within bytes)) (lt-ltb input_limit (length bytes) past)

module _ (bytes : List ℕ) (is_open : IsOpen bytes) where
  open_within : lines_within bytes ≡ lines_from 1 (ended_lines bytes)
  unfolding lines_within
  open_within = ap (λ lines. lines_from 1 (ended_lines bytes ++ lines)) (not_long (open_line bytes) is_open.short) ∙ ap (lines_from 1) (append-nil (ended_lines bytes))

  pub lines_open : lines_of bytes ≡ lines_from 1 (ended_lines bytes)
  lines_open = lines_in_limit bytes is_open.within ∙ open_within

  pub no_fault_open : fault_in (lines_of bytes) ≡ None
  no_fault_open = ap fault_in lines_open ∙ is_open.no_fault

  pub number_open : lines_begun bytes ≡ line_number_of bytes
  unfolding line_number_of
  number_open = sym (ap (λ f. number_at f (lines_begun bytes)) no_fault_open)

  -- a byte past the limit
  pub past_limit : (byte : ℕ) → length bytes ≡ input_limit → lines_of (bytes ++ byte ∷ []) ≡ lines_of bytes ++ (length (ended_lines bytes) + 1, Err InputTooLong) ∷ []
  past_limit byte full =
      let longer : input_limit < length (bytes ++ byte ∷ []) = (let l = length_push bytes byte in omega arith) in
      let taken : take input_limit (bytes ++ byte ∷ []) ≡ bytes = take_at bytes (byte ∷ []) input_limit full in
      lines_past_limit (bytes ++ byte ∷ []) longer
      ∙ ap (λ b. lines_past b) taken
      ∙ unless_none (lines_within bytes) ((length (ended_lines bytes) + 1, Err InputTooLong) ∷ []) (ap fault_in (sym (lines_in_limit bytes is_open.within)) ∙ no_fault_open)
      ∙ ap (λ lines. lines ++ (length (ended_lines bytes) + 1, Err InputTooLong) ∷ []) (sym (lines_in_limit bytes is_open.within))

  -- the lines of one more byte
  lines_more : (byte : ℕ) → length bytes < input_limit → lines_of (bytes ++ byte ∷ []) ≡ lines_from 1 ((ended_lines bytes ++ ended_by (open_line bytes) byte) ++ long_line (line_after (open_line bytes) byte))
  unfolding lines_within
  lines_more byte room =
      let within : length (bytes ++ byte ∷ []) ≤ input_limit = (let l = length_push bytes byte in omega arith) in
      lines_in_limit (bytes ++ byte ∷ []) within
      ∙ ap (λ lines. lines_from 1 (lines ++ long_line (open_line (bytes ++ byte ∷ [])))) (ended_push bytes byte)
      ∙ ap (λ line. lines_from 1 ((ended_lines bytes ++ ended_by (open_line bytes) byte) ++ long_line line)) (open_push bytes byte)

  more_lines : (lines : List (List ℕ)) → lines_from 1 (ended_lines bytes ++ lines) ≡ lines_of bytes ++ lines_from (1 + length (ended_lines bytes)) lines
  more_lines lines =
      lines_append 1 (ended_lines bytes) lines
      ∙ unless_none (lines_from 1 (ended_lines bytes)) (lines_from (1 + length (ended_lines bytes)) lines) is_open.no_fault
      ∙ ap (λ told. told ++ lines_from (1 + length (ended_lines bytes)) lines) (sym lines_open)

  other_byte : (byte : ℕ) → (byte ≡ 10 → ⊥) → ((ended_lines bytes ++ ended_by (open_line bytes) byte) ++ long_line (line_after (open_line bytes) byte)) ≡ ended_lines bytes ++ long_line (open_line bytes ++ byte ∷ [])
  other_byte byte ne =
      ap (λ t. (ended_lines bytes ++ cond t (open_line bytes ∷ []) []) ++ long_line (cond t [] (open_line bytes ++ byte ∷ []))) (ne_eqb byte 10 ne)
      ∙ ap (λ lines. lines ++ long_line (open_line bytes ++ byte ∷ [])) (append-nil (ended_lines bytes))

  -- a byte too many in its line
  pub too_long : (byte : ℕ) → length bytes < input_limit → (byte ≡ 10 → ⊥) → 512 ≤ length (open_line bytes) → lines_of (bytes ++ byte ∷ []) ≡ lines_of bytes ++ (1 + length (ended_lines bytes), Err LineTooLong) ∷ []
  too_long byte room ne full =
      let line : List ℕ = open_line bytes ++ byte ∷ [] in
      let long : 512 < length line = (let l = length_push (open_line bytes) byte in omega arith) in
      lines_more byte room ∙ ap (lines_from 1) (other_byte byte ne) ∙ ap (λ lines. lines_from 1 (ended_lines bytes ++ lines)) (is_long line long)
      ∙ more_lines (line ∷ [])
      ∙ ap (λ told. lines_of bytes ++ told) (one_long (1 + length (ended_lines bytes)) line long)

  -- a byte within its line
  pub goes_on : (byte : ℕ) → length bytes < input_limit → (byte ≡ 10 → ⊥) → length (open_line bytes) < 512 → lines_of (bytes ++ byte ∷ []) ≡ lines_of bytes
  goes_on byte room ne short =
      let line : List ℕ = open_line bytes ++ byte ∷ [] in
      let fits : length line ≤ 512 = (let l = length_push (open_line bytes) byte in omega arith) in
      lines_more byte room ∙ ap (lines_from 1) (other_byte byte ne) ∙ ap (λ lines. lines_from 1 (ended_lines bytes ++ lines)) (not_long line fits)
      ∙ ap (lines_from 1) (append-nil (ended_lines bytes)) ∙ sym lines_open

  pub line_on : (byte : ℕ) → (byte ≡ 10 → ⊥) → open_line (bytes ++ byte ∷ []) ≡ open_line bytes ++ byte ∷ []
  line_on byte ne = open_push bytes byte ∙ ap (λ t. cond t [] (open_line bytes ++ byte ∷ [])) (ne_eqb byte 10 ne)

  pub lines_on : (byte : ℕ) → (byte ≡ 10 → ⊥) → ended_lines (bytes ++ byte ∷ []) ≡ ended_lines bytes
  lines_on byte ne = ended_push bytes byte ∙ ap (λ t. ended_lines bytes ++ cond t (open_line bytes ∷ []) []) (ne_eqb byte 10 ne) ∙ append-nil (ended_lines bytes)

  pub open_goes_on : (byte : ℕ) → length bytes < input_limit → (byte ≡ 10 → ⊥) → length (open_line bytes) < 512 → IsOpen (bytes ++ byte ∷ [])
  open_goes_on byte room ne short = record {
    within = (let l = length_push bytes byte in omega arith);
    short = (let l = length_push (open_line bytes) byte in let k = ap length (line_on byte ne) in omega arith);
    no_fault = ap (λ lines. fault_in (lines_from 1 lines)) (lines_on byte ne) ∙ is_open.no_fault;
  }

  -- an LF
  pub lf_lines : ended_lines (bytes ++ 10 ∷ []) ≡ ended_lines bytes ++ open_line bytes ∷ []
  lf_lines = ended_push bytes 10

  pub lf_open : open_line (bytes ++ 10 ∷ []) ≡ []
  lf_open = open_push bytes 10

  last_added : lines_from 1 (ended_lines bytes ++ open_line bytes ∷ []) ≡ lines_of bytes ++ (1 + length (ended_lines bytes), Ok (without_cr (open_line bytes))) ∷ []
  last_added = more_lines (open_line bytes ∷ []) ∙ ap (λ told. lines_of bytes ++ told) (one_short (1 + length (ended_lines bytes)) (open_line bytes) is_open.short)

  pub ends_line : length bytes < input_limit → lines_of (bytes ++ 10 ∷ []) ≡ lines_of bytes ++ (1 + length (ended_lines bytes), Ok (without_cr (open_line bytes))) ∷ []
  ends_line room = lines_more 10 room ∙ ap (lines_from 1) (append-nil (ended_lines bytes ++ open_line bytes ∷ [])) ∙ last_added

  pub open_behind : length bytes < input_limit → IsOpen (bytes ++ 10 ∷ [])
  open_behind room = record {
    within = (let l = length_push bytes 10 in omega arith);
    short = (let k = ap length lf_open in omega arith);
    no_fault = ap (λ lines. fault_in (lines_from 1 lines)) lf_lines ∙ ap fault_in last_added
        ∙ fault_behind (lines_of bytes) ((1 + length (ended_lines bytes), Ok (without_cr (open_line bytes))) ∷ []) no_fault_open;
  }

  -- the end of the input
  ends_input : whole_lines_of bytes ≡ lines_from 1 (ended_lines bytes ++ last_line (open_line bytes))
  unfolding whole_lines_of
  ends_input = ap (λ t. cond t (lines_of bytes) (lines_from 1 (ended_lines bytes ++ last_line (open_line bytes)))) (le-ltb input_limit (length bytes) is_open.within)

  pub ends_between : open_line bytes ≡ [] → whole_lines_of bytes ≡ lines_of bytes
  ends_between e = ends_input ∙ ap (λ line. lines_from 1 (ended_lines bytes ++ last_line line)) e ∙ ap (lines_from 1) (append-nil (ended_lines bytes)) ∙ sym lines_open

  pub ends_within : (length (open_line bytes) ≡ 0 → ⊥) → whole_lines_of bytes ≡ lines_of bytes ++ (1 + length (ended_lines bytes), Ok (without_cr (open_line bytes))) ∷ []
  ends_within ne = ends_input ∙ ap (λ lines. lines_from 1 (ended_lines bytes ++ lines)) (last_one (open_line bytes) ne) ∙ last_added

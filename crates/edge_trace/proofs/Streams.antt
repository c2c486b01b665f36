-- What one more byte tells.
use Rattle.std.proofs.Common.{◌≡◌, ℕ, ◌+◌, ◌<◌, ◌≤◌, cond, Some, None, Ok, Err, List, [], ◌∷◌, ◌++◌, length, take, is_some, refl, sym, ◌∙◌, ap, arith}
use Rattle.std.proofs.lemmas.Bool.{lt-ltb, le-ltb, ne_eqb}
use Rattle.std.proofs.lemmas.List.{append-nil, length_push, take_at}
use Rattle.line_base.specs.declared.faults.LineFault.TheVariants.{LineTooLong, InputTooLong}
use Rattle.text_lines.specs.Lines.{ended_lines, open_line, without_cr}
use Rattle.edge_trace.specs.EdgeLists.{Standing, AtStart, Read, line_read, content_read, told_with, told_from, after_with, standing_after}
use Rattle.edge_trace.specs.Limits.{told_within, told_past, told_of, whole_told_of, fault_in, fault_of, line_number_of}
use Rattle.text_lines.specs.Inputs.{input_limit, long_line, last_line, lines_begun, number_at}
use Rattle.edge_trace.specs.Readers.{IsOpen}
use Rattle.text_lines.proofs.Cutting.{line_after, ended_by, ended_push, open_push}
use Rattle.edge_trace.proofs.Telling.{told_on, standing_on, told_append, standing_append, no_fault_told}

-- a line that isn't too long
pub not_long : (line : List ℕ) → length line ≤ 512 → long_line line ≡ []
not_long line short = ap (λ t. cond t (line ∷ []) []) (le-ltb 512 (length line) short)

pub is_long : (line : List ℕ) → 512 < length line → long_line line ≡ line ∷ []
is_long line long = ap (λ t. cond t (line ∷ []) []) (lt-ltb 512 (length line) long)

pub long_read : (standing : Standing) (line : List ℕ) → 512 < length line → line_read standing line ≡ Err LineTooLong
unfolding line_read
long_read standing line long = ap (λ t. cond t (Err LineTooLong) (content_read standing (without_cr line))) (lt-ltb 512 (length line) long)

pub short_read : (standing : Standing) (line : List ℕ) → length line ≤ 512 → line_read standing line ≡ content_read standing (without_cr line)
unfolding line_read
short_read standing line short = ap (λ t. cond t (Err LineTooLong) (content_read standing (without_cr line))) (le-ltb 512 (length line) short)

pub last_one : (line : List ℕ) → (length line ≡ 0 → ⊥) → last_line line ≡ line ∷ []
last_one [] ne = absurd (ne refl)
last_one (byte ∷ bytes) ne = refl

-- what is told within the limit and past it
pub told_in_limit : (bytes : List ℕ) → length bytes ≤ input_limit → told_of bytes ≡ told_within bytes
unfolding told_of
told_in_limit bytes within = ap (λ t. cond t (told_past (take input_limit bytes) (told_within (take input_limit bytes))) (told_within bytes)) (le-ltb input_limit (length bytes) within)

module _ (bytes : List ℕ) (standing : Standing) (is_open : IsOpen bytes standing) where
  open_within : told_within bytes ≡ told_from 1 AtStart (ended_lines bytes)
  unfolding told_within
  open_within = ap (λ lines. told_from 1 AtStart (ended_lines bytes ++ lines)) (not_long (open_line bytes) is_open.short) ∙ ap (told_from 1 AtStart) (append-nil (ended_lines bytes))

  pub told_open : told_of bytes ≡ told_from 1 AtStart (ended_lines bytes)
  told_open = told_in_limit bytes is_open.within ∙ open_within

  pub no_fault_open : fault_of bytes ≡ None
  unfolding fault_of
  no_fault_open = ap fault_in told_open ∙ no_fault_told 1 AtStart (ended_lines bytes) standing is_open.standing_is

  pub number_open : lines_begun bytes ≡ line_number_of bytes
  unfolding line_number_of
  number_open = sym (ap (λ f. number_at f (lines_begun bytes)) no_fault_open)

  -- a byte past the limit
  pub past_limit : (byte : ℕ) → length bytes ≡ input_limit → told_of (bytes ++ byte ∷ []) ≡ told_of bytes ++ (length (ended_lines bytes) + 1, Err InputTooLong) ∷ []
  unfolding told_of
  past_limit byte full =
      let longer : input_limit < length (bytes ++ byte ∷ []) = (let l = length_push bytes byte in omega arith) in
      let taken : take input_limit (bytes ++ byte ∷ []) ≡ bytes = take_at bytes (byte ∷ []) input_limit full in
      ap (λ t. cond t (told_past (take input_limit (bytes ++ byte ∷ [])) (told_within (take input_limit (bytes ++ byte ∷ [])))) (told_within (bytes ++ byte ∷ []))) (lt-ltb input_limit (length (bytes ++ byte ∷ [])) longer)
      ∙ ap (λ b. told_past b (told_within b)) taken
      ∙ ap (λ t. cond t (told_within bytes) (told_within bytes ++ (length (ended_lines bytes) + 1, Err InputTooLong) ∷ []))
      (ap is_some (ap fault_in (sym (told_in_limit bytes is_open.within) ∙ told_open) ∙ no_fault_told 1 AtStart (ended_lines bytes) standing is_open.standing_is))
      ∙ ap (λ told. told ++ (length (ended_lines bytes) + 1, Err InputTooLong) ∷ []) (sym (told_in_limit bytes is_open.within))

  -- the lines of one more byte
  told_more : (byte : ℕ) → length bytes < input_limit → told_of (bytes ++ byte ∷ []) ≡ told_from 1 AtStart ((ended_lines bytes ++ ended_by (open_line bytes) byte) ++ long_line (line_after (open_line bytes) byte))
  unfolding told_within
  told_more byte room =
      let within : length (bytes ++ byte ∷ []) ≤ input_limit = (let l = length_push bytes byte in omega arith) in
      told_in_limit (bytes ++ byte ∷ []) within
      ∙ ap (λ lines. told_from 1 AtStart (lines ++ long_line (open_line (bytes ++ byte ∷ [])))) (ended_push bytes byte)
      ∙ ap (λ line. told_from 1 AtStart ((ended_lines bytes ++ ended_by (open_line bytes) byte) ++ long_line line)) (open_push bytes byte)

  more_told : (lines : List (List ℕ)) → told_from 1 AtStart (ended_lines bytes ++ lines) ≡ told_of bytes ++ told_from (1 + length (ended_lines bytes)) standing lines
  more_told lines =
      told_append 1 AtStart (ended_lines bytes) lines
      ∙ ap (λ s. told_from 1 AtStart (ended_lines bytes) ++ told_on (1 + length (ended_lines bytes)) s lines) is_open.standing_is
      ∙ ap (λ told. told ++ told_from (1 + length (ended_lines bytes)) standing lines) (sym told_open)

  one_line : (number : ℕ) (line : List ℕ) → told_from number standing (line ∷ []) ≡ told_with number (line_read standing line) (λ _. [])
  unfolding told_from
  one_line number line = refl

  other_byte : (byte : ℕ) → (byte ≡ 10 → ⊥) → ((ended_lines bytes ++ ended_by (open_line bytes) byte) ++ long_line (line_after (open_line bytes) byte)) ≡ ended_lines bytes ++ long_line (open_line bytes ++ byte ∷ [])
  other_byte byte ne =
      let t = ne_eqb byte 10 ne in
      ap (λ t. (ended_lines bytes ++ cond t (open_line bytes ∷ []) []) ++ long_line (cond t [] (open_line bytes ++ byte ∷ []))) t
      ∙ ap (λ lines. lines ++ long_line (open_line bytes ++ byte ∷ [])) (append-nil (ended_lines bytes))

  -- a byte too many in its line
  pub too_long : (byte : ℕ) → length bytes < input_limit → (byte ≡ 10 → ⊥) → 512 ≤ length (open_line bytes) → told_of (bytes ++ byte ∷ []) ≡ told_of bytes ++ (1 + length (ended_lines bytes), Err LineTooLong) ∷ []
  too_long byte room ne full =
      let line : List ℕ = open_line bytes ++ byte ∷ [] in
      let long : 512 < length line = (let l = length_push (open_line bytes) byte in omega arith) in
      told_more byte room ∙ ap (told_from 1 AtStart) (other_byte byte ne) ∙ ap (λ lines. told_from 1 AtStart (ended_lines bytes ++ lines)) (is_long line long)
      ∙ more_told (line ∷ [])
      ∙ ap (λ told. told_of bytes ++ told) (one_line (1 + length (ended_lines bytes)) line ∙ ap (λ r. told_with (1 + length (ended_lines bytes)) r (λ _. [])) (long_read standing line long))

  -- a byte within its line
  pub goes_on : (byte : ℕ) → length bytes < input_limit → (byte ≡ 10 → ⊥) → length (open_line bytes) < 512 → told_of (bytes ++ byte ∷ []) ≡ told_of bytes
  goes_on byte room ne short =
      let line : List ℕ = open_line bytes ++ byte ∷ [] in
      let fits : length line ≤ 512 = (let l = length_push (open_line bytes) byte in omega arith) in
      told_more byte room ∙ ap (told_from 1 AtStart) (other_byte byte ne) ∙ ap (λ lines. told_from 1 AtStart (ended_lines bytes ++ lines)) (not_long line fits)
      ∙ ap (told_from 1 AtStart) (append-nil (ended_lines bytes)) ∙ sym told_open

  pub open_goes_on : (byte : ℕ) → length bytes < input_limit → (byte ≡ 10 → ⊥) → length (open_line bytes) < 512 → IsOpen (bytes ++ byte ∷ []) standing
  open_goes_on byte room ne short =
      let t = ne_eqb byte 10 ne in
      let now : open_line (bytes ++ byte ∷ []) ≡ open_line bytes ++ byte ∷ [] = open_push bytes byte ∙ ap (λ t. cond t [] (open_line bytes ++ byte ∷ [])) t in
      let lines : ended_lines (bytes ++ byte ∷ []) ≡ ended_lines bytes = ended_push bytes byte ∙ ap (λ t. ended_lines bytes ++ cond t (open_line bytes ∷ []) []) t ∙ append-nil (ended_lines bytes) in
      record {
        within = (let l = length_push bytes byte in omega arith);
        short = (let l = length_push (open_line bytes) byte in let k = ap length now in omega arith);
        standing_is = ap (standing_after AtStart) lines ∙ is_open.standing_is;
      }

  -- an LF
  lf_lines : ended_lines (bytes ++ 10 ∷ []) ≡ ended_lines bytes ++ open_line bytes ∷ []
  lf_lines = ended_push bytes 10

  lf_open : open_line (bytes ++ 10 ∷ []) ≡ []
  lf_open = open_push bytes 10

  pub ends_line : length bytes < input_limit → told_of (bytes ++ 10 ∷ []) ≡ told_of bytes ++ told_with (1 + length (ended_lines bytes)) (content_read standing (without_cr (open_line bytes))) (λ _. [])
  ends_line room =
      told_more 10 room ∙ ap (told_from 1 AtStart) (append-nil (ended_lines bytes ++ open_line bytes ∷ []))
      ∙ more_told (open_line bytes ∷ [])
      ∙ ap (λ told. told_of bytes ++ told) (one_line (1 + length (ended_lines bytes)) (open_line bytes) ∙ ap (λ r. told_with (1 + length (ended_lines bytes)) r (λ _. [])) (short_read standing (open_line bytes) is_open.short))

  pub open_behind : (read : Read) → length bytes < input_limit → content_read standing (without_cr (open_line bytes)) ≡ Ok read → IsOpen (bytes ++ 10 ∷ []) read.standing
  unfolding standing_after
  open_behind read room e = record {
    within = (let l = length_push bytes 10 in omega arith);
    short = (let k = ap length lf_open in omega arith);
    standing_is = ap (standing_after AtStart) lf_lines ∙ standing_append AtStart (ended_lines bytes) (open_line bytes ∷ [])
        ∙ ap (λ s. standing_on s (open_line bytes ∷ [])) is_open.standing_is
        ∙ ap (λ r. after_with r (λ next. Some next)) (short_read standing (open_line bytes) is_open.short ∙ e);
  }

  -- the end of the input
  pub ends_input : whole_told_of bytes ≡ told_from 1 AtStart (ended_lines bytes ++ last_line (open_line bytes))
  unfolding whole_told_of
  ends_input = ap (λ t. cond t (told_of bytes) (told_from 1 AtStart (ended_lines bytes ++ last_line (open_line bytes)))) (le-ltb input_limit (length bytes) is_open.within)

  pub ends_between : open_line bytes ≡ [] → whole_told_of bytes ≡ told_of bytes
  ends_between e = ends_input ∙ ap (λ line. told_from 1 AtStart (ended_lines bytes ++ last_line line)) e ∙ ap (told_from 1 AtStart) (append-nil (ended_lines bytes)) ∙ sym told_open

  pub ends_within : (length (open_line bytes) ≡ 0 → ⊥) → whole_told_of bytes ≡ told_of bytes ++ told_with (1 + length (ended_lines bytes)) (content_read standing (without_cr (open_line bytes))) (λ _. [])
  ends_within ne =
      ends_input ∙ ap (λ lines. told_from 1 AtStart (ended_lines bytes ++ lines)) (last_one (open_line bytes) ne)
      ∙ more_told (open_line bytes ∷ [])
      ∙ ap (λ told. told_of bytes ++ told) (one_line (1 + length (ended_lines bytes)) (open_line bytes) ∙ ap (λ r. told_with (1 + length (ended_lines bytes)) r (λ _. [])) (short_read standing (open_line bytes) is_open.short))

-- The lines of an input, with the limits on a line and on the input; this project's own.
use Rattle.std.specs.Prelude.{ℕ, ◌+◌, ◌-◌, ◌^◌, nat_lt, is_some, Option, None, Some, Result, Ok, Err, List, [], ◌∷◌, ◌++◌, length, take, if◌then◌else◌}
use Rattle.line_base.specs.Streams.{IsFrontOf}
use Rattle.line_base.specs.declared.faults.LineFault.{LineFault}
use Rattle.line_base.specs.declared.faults.LineFault.TheVariants.{LineTooLong, InputTooLong}
use Rattle.text_lines.specs.Lines.{ended_lines, open_line, without_cr}

-- how many bytes of an input may stand in lines
unfoldable pub input_limit : ℕ
input_limit = 2 ^ 36 - 1

-- what is told of lines, each time with the number of the line
abbrev pub Numbered : Type 0 → Type 0
Numbered A = ℕ × Result A LineFault

-- the first fault among what is told, with the number of its line
abbrev pub fault_in : {A : Type 0} → List (Numbered A) → Option (ℕ × LineFault)
fault_in [] = None
fault_in ((number, Ok x) ∷ told) = fault_in told
fault_in ((number, Err fault) ∷ told) = Some (number, fault)

-- what is told, and then more, unless there was a fault
abbrev pub unless_fault : {A : Type 0} → List (Numbered A) → List (Numbered A) → List (Numbered A)
unless_fault told more = if is_some (fault_in told) then told else told ++ more

-- a line of at most 512 bytes, without the CR at its end
unfoldable pub line_read : List ℕ → Result (List ℕ) LineFault
line_read line = if nat_lt 512 (length line) then Err LineTooLong else Ok (without_cr line)

-- a line with its number, and then those behind it, unless it is too long
abbrev pub line_with : ℕ → Result (List ℕ) LineFault → List (Numbered (List ℕ)) → List (Numbered (List ℕ))
line_with number (Err fault) later = (number, Err fault) ∷ []
line_with number (Ok content) later = (number, Ok content) ∷ later

-- these lines, the first of which has this number, up to the first that is too long
unfoldable pub lines_from : ℕ → List (List ℕ) → List (Numbered (List ℕ))
lines_from number [] = []
lines_from number (line ∷ lines) = line_with number (line_read line) (lines_from (number + 1) lines)

-- an unfinished line that is too long already, of more than 512 bytes, counts as ended
abbrev pub long_line : List ℕ → List (List ℕ)
long_line line = if nat_lt 512 (length line) then line ∷ [] else []

-- an unfinished line counts as ended at the end of the input, where there is any
abbrev pub last_line : List ℕ → List (List ℕ)
last_line [] = []
last_line (byte ∷ bytes) = (byte ∷ bytes) ∷ []

-- the lines of so many bytes as may stand in lines
unfoldable pub lines_within : List ℕ → List (Numbered (List ℕ))
lines_within bytes = lines_from 1 (ended_lines bytes ++ long_line (open_line bytes))

-- the lines where a further byte follows that may stand in no line: InputTooLong, unless a line was too long
abbrev pub lines_past : List ℕ → List (Numbered (List ℕ))
lines_past bytes = unless_fault (lines_within bytes) ((length (ended_lines bytes) + 1, Err InputTooLong) ∷ [])

-- the lines that ended in these bytes, of which more may come, and the fault, if there is one
unfoldable pub lines_of : List ℕ → List (Numbered (List ℕ))
lines_of bytes = if nat_lt input_limit (length bytes) then lines_past (take input_limit bytes) else lines_within bytes

-- the same of these bytes and no more: an unfinished last line counts as ended
unfoldable pub whole_lines_of : List ℕ → List (Numbered (List ℕ))
whole_lines_of bytes = if nat_lt input_limit (length bytes) then lines_of bytes else lines_from 1 (ended_lines bytes ++ last_line (open_line bytes))

-- how many lines these bytes have begun
abbrev pub lines_begun : List ℕ → ℕ
lines_begun bytes = length (ended_lines bytes) + length (last_line (open_line bytes))

-- the number of the fault's line, or else this one
abbrev pub number_at : Option (ℕ × LineFault) → ℕ → ℕ
number_at None number = number
number_at (Some fault) number = fault.0

-- the number, from 1, of the line of the last byte, or of the fault; 0 before the first byte
unfoldable pub line_number_of : List ℕ → ℕ
line_number_of bytes = number_at (fault_in (lines_of bytes)) (lines_begun bytes)

-- the lines of these bytes stand at the front when more come, and at the end of the input
pub record Stays (bytes more : List ℕ) : Type 0 where
  pub when_more_come : IsFrontOf (lines_of bytes) (lines_of (bytes ++ more))
  pub at_the_end : IsFrontOf (lines_of bytes) (whole_lines_of bytes)

-- What the reader of lines stands for: the bytes that it was fed; this project's own.
use Rattle.std.specs.Prelude.{◌≡◌, ℕ, ◌+◌, ◌<◌, ◌≤◌, Bool, true, false, Option, None, Some, Result, Ok, Err, List, [], ◌∷◌, ◌++◌, length}
use Rattle.line_base.specs.declared.faults.LineFault.{LineFault}
use Rattle.text_lines.specs.Lines.{ended_lines, open_line, without_cr}
use Rattle.text_lines.specs.Inputs.{Numbered, fault_in, input_limit, lines_from, lines_of, lines_begun}
use Rattle.text_lines.specs.declared.reader.LineReader.{LineReader}

-- the number of the line that the reader began last
unfoldable pub number_in : LineReader → ℕ
number_in reader = reader.number

-- the line that the reader began last, without the CR at its end
unfoldable pub content_in : LineReader → List ℕ
content_in reader = without_cr reader.line

-- the lines that a call gave: none, the one that the reader began last, or a fault at it
abbrev pub lines_in : LineReader → Option (Result (Unit {0}) LineFault) → List (Numbered (List ℕ))
lines_in reader None = []
lines_in reader (Some (Ok ended)) = (number_in reader, Ok (content_in reader)) ∷ []
lines_in reader (Some (Err fault)) = (number_in reader, Err fault) ∷ []

-- the line that the end of the input gave, if there was one
abbrev pub last_in : LineReader → Bool → List (Numbered (List ℕ))
last_in reader false = []
last_in reader true = (number_in reader, Ok (content_in reader)) ∷ []

-- these bytes have no fault
pub record IsOpen (bytes : List ℕ) : Type 0 where
  pub within : length bytes ≤ input_limit
  pub short : length (open_line bytes) ≤ 512
  pub no_fault : fault_in (lines_from 1 (ended_lines bytes)) ≡ None

-- what the reader keeps of the line that goes on: nothing where it has no byte yet
abbrev pub KeepsLine : Bool → List ℕ → List ℕ → Type 0
KeepsLine true line open_bytes = open_bytes ≡ []
KeepsLine false line open_bytes = (line ≡ open_bytes) × (0 < length open_bytes)

-- the reader goes on behind these bytes, which have no fault
pub record GoesOn (reader : LineReader) (bytes : List ℕ) : Type 0 where
  pub is_open : IsOpen bytes
  pub goes_on : reader.closed ≡ false
  pub line_is : KeepsLine reader.fresh reader.line (open_line bytes)
  pub left_is : reader.left + length bytes ≡ input_limit
  pub number_is : reader.number ≡ lines_begun bytes
  pub few : reader.number ≤ length bytes

-- the reader goes on behind these bytes, and has begun the line of the next one
pub record IsReady (reader : LineReader) (bytes : List ℕ) : Type 0 where
  pub is_open : IsOpen bytes
  pub goes_on : reader.closed ≡ false
  pub is_begun : reader.fresh ≡ false
  pub line_is : reader.line ≡ open_line bytes
  pub left_is : reader.left + length bytes ≡ input_limit
  pub number_is : reader.number ≡ length (ended_lines bytes) + 1
  pub few : reader.number ≤ length bytes + 1

-- the reader has ended, at a fault or at the end of its input, at the line of this number
pub record HasEnded (reader : LineReader) (number : ℕ) : Type 0 where
  pub is_closed : reader.closed ≡ true
  pub number_is : number_in reader ≡ number

-- the reader has stopped at the fault of these bytes
pub record HasStopped (reader : LineReader) (bytes : List ℕ) : Type 0 where
  pub fault : ℕ × LineFault
  pub is : fault_in (lines_of bytes) ≡ Some fault
  pub at : HasEnded reader fault.0

-- the reader goes on, or has stopped
abbrev pub GoesOnOrStopped : LineReader → Bool → List ℕ → Type 0
GoesOnOrStopped reader true bytes = HasStopped reader bytes
GoesOnOrStopped reader false bytes = GoesOn reader bytes

-- the reader stands for these bytes: it was fed them, or others behind which the same lines follow
unfoldable pub StandsFor : LineReader → List ℕ → Type 0
StandsFor reader bytes = GoesOnOrStopped reader reader.closed bytes

-- the reader was fed one more byte: it stands for the bytes with it, and gave the lines that they have more
pub record Takes (reader : LineReader) (seen : List ℕ) (byte : ℕ) (result : Option (Result (Unit {0}) LineFault)) : Type 0 where
  pub stands : StandsFor reader (seen ++ byte ∷ [])
  pub grows : lines_of (seen ++ byte ∷ []) ≡ lines_of seen ++ lines_in reader result

-- What the reader of an edge list stands for: the bytes that it was fed; this project's own.
use Rattle.std.specs.Prelude.{◌≡◌, ℕ, ◌+◌, ◌^◌, ◌<◌, ◌≤◌, ◌⊎◌, min, slice_index, take, Option, None, Some, Result, Ok, Err, List, [], ◌∷◌, ◌++◌, length, map}
use Rattle.line_base.specs.declared.edge.Edge.{Edge}
use Rattle.line_base.specs.declared.faults.LineFault.{LineFault}
use Rattle.text_lines.specs.Lines.{ended_lines, open_line}
use Rattle.edge_trace.specs.EdgeLists.{Standing, AtStart, Read, told_with, standing_after}
use Rattle.edge_trace.specs.Limits.{fault_of, answers_of}
use Rattle.text_lines.specs.Inputs.{input_limit, last_line}
use Rattle.edge_trace.specs.Readings.{IsAt}
use Rattle.edge_trace.specs.declared.state.State.{State}
use Rattle.edge_trace.specs.declared.row.Row.{Row}
use Rattle.edge_trace.specs.declared.reader.EdgeReader.{EdgeReader}

-- the answers that a call gave: none, a row's edges or a fault
abbrev pub answers_in : Option (Result Row LineFault) → List (Result (List Edge) LineFault)
answers_in None = []
answers_in (Some (Ok row)) = Ok row.edges ∷ []
answers_in (Some (Err fault)) = Err fault ∷ []

-- the answers of a row that is this edge, if it is one
abbrev pub answers_with : Option Edge → List (Result (List Edge) LineFault)
answers_with None = []
answers_with (Some edge) = Ok (edge ∷ []) ∷ []

-- the answers of a row with these edges: none where it has no edge
abbrev pub answers_of_row : List Edge → List (Result (List Edge) LineFault)
answers_of_row [] = []
answers_of_row (edge ∷ edges) = Ok (edge ∷ edges) ∷ []

-- these bytes have no fault, and the list has come so far behind the lines that ended
pub record IsOpen (bytes : List ℕ) (standing : Standing) : Type 0 where
  pub within : length bytes ≤ input_limit
  pub short : length (open_line bytes) ≤ 512
  pub standing_is : standing_after AtStart (ended_lines bytes) ≡ Some standing

-- the number of the line of the reader's last byte
abbrev pub number_in : EdgeReader → ℕ
number_in reader = reader.ended + length (last_line reader.line)

-- the reader goes on behind these bytes, which have no fault
pub record GoesOn (reader : EdgeReader) (now : State) (bytes : List ℕ) : Type 0 where
  pub standing : Standing
  pub is_open : IsOpen bytes standing
  pub at : IsAt now reader.levels standing
  pub line_is : reader.line ≡ open_line bytes
  pub left_is : reader.left + length bytes ≡ input_limit + length (open_line bytes)
  pub room_is : reader.room ≡ min 512 reader.left
  pub ended_is : reader.ended ≡ length (ended_lines bytes)
  pub few : reader.ended ≤ length bytes

-- the reader has ended, at a fault or at the end of its input, at the line of this number
pub record HasEnded (reader : EdgeReader) (number : ℕ) : Type 0 where
  pub ended : reader.state ≡ None
  pub closed : reader.room ≡ 0
  pub number_is : number_in reader ≡ number
  pub small : reader.ended < 2 ^ 63

-- the reader has stopped at the fault of these bytes
pub record HasStopped (reader : EdgeReader) (bytes : List ℕ) : Type 0 where
  pub fault : ℕ × LineFault
  pub is : fault_of bytes ≡ Some fault
  pub at : HasEnded reader fault.0

-- the reader goes on, or has stopped
abbrev pub GoesOnOrStopped : EdgeReader → Option State → List ℕ → Type 0
GoesOnOrStopped reader None bytes = HasStopped reader bytes
GoesOnOrStopped reader (Some now) bytes = GoesOn reader now bytes

-- the reader stands for these bytes: it was fed them, or others behind which the same answers follow
unfoldable pub StandsFor : EdgeReader → List ℕ → Type 0
StandsFor reader bytes = GoesOnOrStopped reader reader.state bytes

-- the answers that a line gives
abbrev pub answers_of_read : Result Read LineFault → List (Result (List Edge) LineFault)
answers_of_read read = map (λ t. t.1) (told_with 0 read (λ _. []))

-- the reader is as far as the list behind this line, or has stopped at its fault
abbrev pub IsBehind : EdgeReader → Result Read LineFault → Type 0
IsBehind reader (Err fault) = (reader.state ≡ None) × (reader.room ≡ 0)
IsBehind reader (Ok read) = (next : State) × (reader.state ≡ Some next) × IsAt next reader.levels read.standing × (reader.room ≡ min 512 reader.left)

-- the reader has judged a line that gives this, and answers it
pub record EndsLine (reader : EdgeReader) (read : Result Read LineFault) (result : Option (Result Row LineFault)) : Type 0 where
  pub answered : answers_in result ≡ answers_of_read read
  pub behind : IsBehind reader read

-- the reader was fed one more byte: it stands for the bytes with it, and answered what they tell more
pub record Takes (reader : EdgeReader) (seen : List ℕ) (byte : ℕ) (result : Option (Result Row LineFault)) : Type 0 where
  pub stands : StandsFor reader (seen ++ byte ∷ [])
  pub grows : answers_of (seen ++ byte ∷ []) ≡ answers_of seen ++ answers_in result

-- the reader was fed bytes that end no line and are no fault: it stands for the bytes with them, which tell nothing more
pub record TakesRun (reader : EdgeReader) (seen run : List ℕ) : Type 0 where
  pub stands : StandsFor reader (seen ++ run)
  pub quiet : answers_of (seen ++ run) ≡ answers_of seen

-- a run of so many bytes of a block is as long as it may be: an LF stands behind it, or its line has 512 bytes, or the input has as many as may stand in lines
abbrev pub IsLongest : List ℕ → List ℕ → ℕ → Type 0
IsLongest seen block count =
    (slice_index block count ≡ 10) ⊎ (512 ≤ length (open_line (seen ++ take count block))) ⊎ (input_limit ≤ length seen + count)

-- What an edge list says whole: its rows and its fault, with the limits on a line and on the input; this project's own.
use Rattle.std.specs.Prelude.{ℕ, ◌+◌, nat_lt, is_some, Option, None, Some, Result, Ok, Err, List, [], ◌∷◌, ◌++◌, length, take, map, flat_map, filter_map, if◌then◌else◌}
use Rattle.std.specs.Result.{result_ok}
use Rattle.line_base.specs.declared.edge.Edge.{Edge}
use Rattle.line_base.specs.declared.faults.LineFault.{LineFault}
use Rattle.line_base.specs.declared.faults.LineFault.TheVariants.{InputTooLong}
use Rattle.text_lines.specs.Lines.{ended_lines, open_line}
use Rattle.text_lines.specs.Inputs.{input_limit, last_line, lines_begun, long_line, number_at}
use Rattle.edge_trace.specs.EdgeLists.{Told, AtStart, told_from}

-- what is told of the lines of so many bytes as may stand in lines
unfoldable pub told_within : List ℕ → List Told
told_within bytes = told_from 1 AtStart (ended_lines bytes ++ long_line (open_line bytes))

-- the first fault among what is told, with the number of its line
abbrev pub fault_in : List Told → Option (ℕ × LineFault)
fault_in [] = None
fault_in ((number, Ok row) ∷ told) = fault_in told
fault_in ((number, Err fault) ∷ told) = Some (number, fault)

-- what is told where a further byte follows that may stand in no line: InputTooLong, unless an earlier fault was told
abbrev pub told_past : List ℕ → List Told → List Told
told_past bytes told = if is_some (fault_in told) then told else told ++ (length (ended_lines bytes) + 1, Err InputTooLong) ∷ []

-- what is told of an edge list of these bytes, of which more may come
unfoldable pub told_of : List ℕ → List Told
told_of bytes = if nat_lt input_limit (length bytes) then told_past (take input_limit bytes) (told_within (take input_limit bytes)) else told_within bytes

-- what is told of an edge list of these bytes and no more
unfoldable pub whole_told_of : List ℕ → List Told
whole_told_of bytes = if nat_lt input_limit (length bytes) then told_of bytes else told_from 1 AtStart (ended_lines bytes ++ last_line (open_line bytes))

-- the rows with an edge, before the first fault
unfoldable pub rows_of : List ℕ → List (List Edge)
rows_of bytes = filter_map (λ t. result_ok t.1) (told_of bytes)

-- the edges, before the first fault
unfoldable pub edges_of : List ℕ → List Edge
edges_of bytes = flat_map (λ row. row) (rows_of bytes)

-- the first fault, with the number of its line
unfoldable pub fault_of : List ℕ → Option (ℕ × LineFault)
fault_of bytes = fault_in (told_of bytes)

-- the rows with an edge, and then the fault, if there is one
unfoldable pub answers_of : List ℕ → List (Result (List Edge) LineFault)
answers_of bytes = map (λ t. t.1) (told_of bytes)

-- the same of these bytes and no more: an unfinished last line counts as ended
unfoldable pub whole_rows_of : List ℕ → List (List Edge)
whole_rows_of bytes = filter_map (λ t. result_ok t.1) (whole_told_of bytes)

-- the edges of these bytes and no more
unfoldable pub whole_edges_of : List ℕ → List Edge
whole_edges_of bytes = flat_map (λ row. row) (whole_rows_of bytes)

-- the first fault of these bytes and no more, with the number of its line
unfoldable pub whole_fault_of : List ℕ → Option (ℕ × LineFault)
whole_fault_of bytes = fault_in (whole_told_of bytes)

-- the rows of these bytes and no more, and then the fault
unfoldable pub whole_answers_of : List ℕ → List (Result (List Edge) LineFault)
whole_answers_of bytes = map (λ t. t.1) (whole_told_of bytes)

-- the number, from 1, of the line of the last byte, or of the fault; 0 before the first byte
unfoldable pub line_number_of : List ℕ → ℕ
line_number_of bytes = number_at (fault_of bytes) (lines_begun bytes)

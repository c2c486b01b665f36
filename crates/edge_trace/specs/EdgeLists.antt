-- What the lines of an edge list say, one behind the other, up to the first fault; this project's own.
use Rattle.std.specs.Prelude.{ℕ, ◌+◌, ◌==◌, ◌&&◌, nat_le, nat_lt, Bool, true, false, not, Option, None, Some, Result, Ok, Err, ok_or, List, [], ◌∷◌, ◌++◌, length, filter, count_by, codes, if◌then◌else◌}
use Rattle.std.specs.List.{list_all}
use Rattle.line_base.specs.declared.edge.Edge.{Edge}
use Rattle.line_base.specs.declared.faults.LineFault.{LineFault}
use Rattle.line_base.specs.declared.faults.LineFault.TheVariants.{Field, Version, LineTooLong}
use Rattle.text_lines.specs.Lines.{without_cr}
use Rattle.line_base.specs.Texts as texts
use Rattle.line_base.specs.Texts.{after_front, before_end, number_in}
use Rattle.line_base.specs.Steps.{◌>>=◌}
use Rattle.edge_trace.specs.Rows.{Form, Narrow, Units, Wide, Stamp, row_in}

-- the line is empty or a comment
abbrev pub is_skipped : List ℕ → Bool
is_skipped [] = true
is_skipped (byte ∷ bytes) = byte == 35

-- a unit of 1 to 1,000,000 ns
abbrev pub in_unit_range : ℕ → Option ℕ
in_unit_range unit = if nat_le 1 unit && nat_le unit 1000000 then Some unit else None

-- the unit that stands behind `unit=`: a number, and `ns`
abbrev pub unit_before_ns : List ℕ → Option ℕ
unit_before_ns text = texts.◌>>=◌ (before_end (codes "ns") text) (λ digits. texts.◌>>=◌ (number_in digits) in_unit_range)

-- the unit in ns that stands behind `# version 2 `
unfoldable pub unit_in : List ℕ → Option ℕ
unit_in rest = texts.◌>>=◌ (after_front (codes "unit=") rest) unit_before_ns

-- the byte may stand in the name of a column: printable, and no double quote
abbrev pub is_name_byte : ℕ → Bool
is_name_byte byte = nat_le 32 byte && nat_le byte 126 && not (byte == 34)

-- the number of columns, 1 to 16, of what stands behind `Time [s]` in a wide header: a name behind each comma
unfoldable pub columns_in : List ℕ → Option ℕ
columns_in [] = None
columns_in (byte ∷ bytes) =
    if byte == 44 && list_all is_name_byte bytes && nat_le (1 + count_by (λ b. b == 44) bytes) 16 then Some (1 + count_by (λ b. b == 44) bytes) else None

-- how far a list has come behind some of its lines: at its start, before the line that decides its form (with the unit in ns, where it is of version 2), or behind that line (with the stamps of its rows and what they said of lines, latest first)
pub data Standing : Type 0 where
  AtStart : Standing
  Formless : Option ℕ → Standing
  InRows : Form → List Stamp → List Edge → Standing

-- what a line gives that has no fault: how far the list has come behind it, and the edges of its row
pub record Read : Type 0 where
  pub standing : Standing
  pub edges : List Edge

-- a line that gives no row
abbrev pub without_row : Standing → Result Read LineFault
without_row standing = Ok (record { standing = standing; edges = [] })

-- the level that these rows, latest first, said last of a line
abbrev pub level_before : ℕ → List Edge → Option Bool
level_before line [] = None
level_before line (row ∷ earlier) = if row.line == line then Some row.level else level_before line earlier

-- the level is another than the one before, or the first
abbrev pub is_new : Option Bool → Bool → Bool
is_new None level = true
is_new (Some true) level = not level
is_new (Some false) level = level

-- of what a row says of its lines, that which changes a level or opens a line
abbrev pub edges_among : List Edge → List Edge → List Edge
edges_among earlier said = filter (λ row. is_new (level_before row.line earlier) row.level) said

-- what a function gives of a found value, and else this
abbrev pub option_else : {A B : Type 0} → Option A → (A → B) → B → B
option_else None found other = other
option_else (Some x) found other = found x

-- what a row gives, behind rows with these stamps that said this
abbrev pub row_read : Form → List Stamp → List Edge → List ℕ → Result Read LineFault
row_read form stamps earlier content = do
  row ← row_in form stamps content
  Ok (record { standing = InRows form (row.stamp ∷ stamps) (row.said ++ earlier); edges = edges_among earlier row.said })

-- the form of narrow rows
abbrev pub narrow_form : Option ℕ → Form
narrow_form None = Narrow
narrow_form (Some unit) = Units unit

-- what a wide header gives, of which this stands behind `Time [s]`; there is none in a list of version 2
abbrev pub header_read : Option ℕ → List ℕ → Result Read LineFault
header_read (Some unit) names = Err Field
header_read None names = do
  columns ← ok_or (columns_in names) Field
  without_row (InRows (Wide columns) [] [])

-- what the line gives that may decide the form: a wide header where it begins with `Time [s]`, else a narrow row
abbrev pub forming_read : Option ℕ → List ℕ → Result Read LineFault
forming_read unit content = option_else (after_front (codes "Time [s]") content) (header_read unit) (row_read (narrow_form unit) [] [] content)

-- what a line gives where the form isn't decided yet
abbrev pub formless_read : Option ℕ → List ℕ → Result Read LineFault
formless_read unit content = if is_skipped content then without_row (Formless unit) else forming_read unit content

-- what line 1 gives where it begins with `# version 2 `, behind which this stands
abbrev pub version_read : List ℕ → Result Read LineFault
version_read rest = do
  unit ← ok_or (unit_in rest) Version
  without_row (Formless (Some unit))

-- what a line of at most 512 bytes gives, without the CR at its end
abbrev pub content_read : Standing → List ℕ → Result Read LineFault
content_read AtStart content = option_else (after_front (codes "# version 2 ") content) version_read (formless_read None content)
content_read (Formless unit) content = formless_read unit content
content_read (InRows form stamps earlier) content = if is_skipped content then without_row (InRows form stamps earlier) else row_read form stamps earlier content

-- what a line gives
unfoldable pub line_read : Standing → List ℕ → Result Read LineFault
line_read standing line = if nat_lt 512 (length line) then Err LineTooLong else content_read standing (without_cr line)

-- what is told of a list: a row's edges or the fault, each with the number of its line
abbrev pub Told : Type 0
Told = ℕ × Result (List Edge) LineFault

-- the answer that a row gives: none where it has no edge
abbrev pub told_row : ℕ → List Edge → List Told
told_row number [] = []
told_row number (edge ∷ edges) = (number, Ok (edge ∷ edges)) ∷ []

-- what is told of a line, and then of the lines behind it, unless it has a fault
abbrev pub told_with : ℕ → Result Read LineFault → (Standing → List Told) → List Told
told_with number (Err fault) later = (number, Err fault) ∷ []
told_with number (Ok read) later = told_row number read.edges ++ later read.standing

-- what is told of these lines, the first of which has this number
unfoldable pub told_from : ℕ → Standing → List (List ℕ) → List Told
told_from number standing [] = []
told_from number standing (line ∷ lines) = told_with number (line_read standing line) (λ next. told_from (number + 1) next lines)

-- how far a list goes on behind a line, unless the line has a fault
abbrev pub after_with : Result Read LineFault → (Standing → Option Standing) → Option Standing
after_with (Err fault) later = None
after_with (Ok read) later = later read.standing

-- how far a list has come behind these lines, if none has a fault
unfoldable pub standing_after : Standing → List (List ℕ) → Option Standing
standing_after standing [] = Some standing
standing_after standing (line ∷ lines) = after_with (line_read standing line) (λ next. standing_after next lines)

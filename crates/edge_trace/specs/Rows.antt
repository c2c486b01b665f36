-- What a row says, and the first fault that it has; this project's own.
use Rattle.std.specs.Prelude.{ℕ, ◌+◌, ◌*◌, ◌^◌, ◌==◌, nat_le, Bool, Option, None, Result, Ok, Err, ok_or, option_map, List, [], ◌∷◌, length, if◌then◌else◌}
use Rattle.line_base.specs.declared.edge.Edge.{Edge}
use Rattle.line_base.specs.declared.faults.LineFault.{LineFault}
use Rattle.line_base.specs.declared.faults.LineFault.TheVariants.{Field, Number, Line, Level, TimeBack, TooLarge}
use Rattle.line_base.specs.Texts.{number_in}
use Rattle.edge_trace.specs.Fields.{fields, seconds_in, level_in, levels_in}
use Rattle.line_base.specs.Steps.{◌>>=◌, check}

-- the form of a list's rows: narrow in ns, narrow in units of so many ns with steps, or wide with so many columns of levels
pub data Form : Type 0 where
  Narrow : Form
  Units : ℕ → Form
  Wide : ℕ → Form

-- the unit of a row's time, in ns
abbrev pub unit_of : Form → ℕ
unit_of Narrow = 1
unit_of (Units unit) = unit
unit_of (Wide columns) = 1

-- a row's time as it is written: so many units, or so many units since the row before
pub data Stamp : Type 0 where
  Absolute : ℕ → Stamp
  Step : ℕ → Stamp

-- the time in units of the latest of these rows, which are given by their stamps, latest first; 0 before the first row
unfoldable pub units_of : List Stamp → ℕ
units_of [] = 0
units_of (Absolute units ∷ earlier) = units
units_of (Step units ∷ earlier) = units + units_of earlier

-- the time in ns of the latest of these rows
abbrev pub time_of : Form → List Stamp → ℕ
time_of form stamps = unit_of form * units_of stamps

-- a number of units, or a step where a plus (0x2B) stands before it
abbrev pub steps_in : List ℕ → Option Stamp
steps_in [] = None
steps_in (byte ∷ bytes) = if byte == 43 then option_map Step (number_in bytes) else option_map Absolute (number_in (byte ∷ bytes))

-- the stamp that a row's first field spells
unfoldable pub stamp_in : Form → List ℕ → Option Stamp
stamp_in Narrow field = option_map Absolute (number_in field)
stamp_in (Units unit) field = steps_in field
stamp_in (Wide columns) field = option_map Absolute (seconds_in field)

-- the stamp of a row whose time in ns is at most 10^15
abbrev pub time_field : Form → (Stamp → ℕ) → List ℕ → Result Stamp LineFault
time_field form time_at field = do
  stamp ← ok_or (stamp_in form field) Number
  _ ← check (nat_le (time_at stamp) (10 ^ 15)) TooLarge
  Ok stamp

-- a line number, 0 to 15
abbrev pub line_field : List ℕ → Result ℕ LineFault
line_field field = do
  line ← ok_or (number_in field) Number
  _ ← check (nat_le line 15) Line
  Ok line

-- a row that was read: its stamp, and what it says of its lines, in order of their numbers
pub record Row : Type 0 where
  pub stamp : Stamp
  pub said : List Edge

-- what a wide row says of its lines from this one on: one level for each
abbrev pub said_from : ℕ → ℕ → List Bool → List Edge
said_from line time [] = []
said_from line time (level ∷ levels) = record { line = line; time = time; level = level } ∷ said_from (line + 1) time levels

-- a narrow row: time, line and level
unfoldable pub narrow_row : Form → (Stamp → ℕ) → ℕ → List (List ℕ) → Result Row LineFault
narrow_row form time_at before (time ∷ line ∷ level ∷ []) = do
  stamp ← time_field form time_at time
  number ← line_field line
  high ← ok_or (level_in level) Level
  _ ← check (nat_le before (time_at stamp)) TimeBack
  Ok (record { stamp = stamp; said = record { line = number; time = time_at stamp; level = high } ∷ [] })
narrow_row form time_at before _ = Err Field

-- a wide row: a time and one level for each column
unfoldable pub wide_row : ℕ → (Stamp → ℕ) → ℕ → List (List ℕ) → Result Row LineFault
wide_row columns time_at before [] = Err Field
wide_row columns time_at before (time ∷ levels) = do
  _ ← check (length levels == columns) Field
  stamp ← time_field (Wide columns) time_at time
  high ← ok_or (levels_in levels) Level
  _ ← check (nat_le before (time_at stamp)) TimeBack
  Ok (record { stamp = stamp; said = said_from 0 (time_at stamp) high })

-- the row on this line, where a stamp gives the row this time in ns and the row before has the time `before`
abbrev pub row_at : Form → (Stamp → ℕ) → ℕ → List ℕ → Result Row LineFault
row_at Narrow time_at before line = narrow_row Narrow time_at before (fields line)
row_at (Units unit) time_at before line = narrow_row (Units unit) time_at before (fields line)
row_at (Wide columns) time_at before line = wide_row columns time_at before (fields line)

-- the row on this line, behind rows with these stamps, latest first
abbrev pub row_in : Form → List Stamp → List ℕ → Result Row LineFault
row_in form stamps line = row_at form (λ stamp. time_of form (stamp ∷ stamps)) (time_of form stamps) line

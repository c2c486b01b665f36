-- What the reader keeps of the rows before: the form, the time of the last row, and a level for each line; this project's own.
use Rattle.std.specs.Prelude.{◌≡◌, ℕ, ◌+◌, ◌*◌, ◌≤◌, ◌^◌, ◌&&◌, Bool, true, Option, None, Some, Result, Ok, Err, ok_or, nat_le, List, [], slice_index_or}
use Rattle.line_base.specs.declared.edge.Edge.{Edge}
use Rattle.line_base.specs.declared.faults.LineFault.{LineFault}
use Rattle.line_base.specs.declared.faults.LineFault.TheVariants.{Number, TooLarge}
use Rattle.edge_trace.specs.Rows as row
use Rattle.line_base.specs.Steps.{◌>>=◌, check}
use Rattle.edge_trace.specs.Rows.{Stamp, Absolute, Step}
use Rattle.edge_trace.specs.EdgeLists.{level_before, Standing, AtStart, Formless, InRows, Read}
use Rattle.edge_trace.specs.declared.state.State.{State}
use Rattle.edge_trace.specs.declared.state.State.TheVariants as state
use Rattle.edge_trace.specs.declared.form.Form.{Form}
use Rattle.edge_trace.specs.declared.form.Form.TheVariants.{Narrow, Units, Wide}

-- the form of rows, as the definitions name it
abbrev pub form_of : Form → row.Form
form_of Narrow = row.Narrow
form_of (Units unit) = row.Units unit
form_of (Wide columns) = row.Wide columns

-- the unit is 1 to 1,000,000 ns, and there are 1 to 16 columns
abbrev pub IsForm : Form → Type 0
IsForm Narrow = Unit {0}
IsForm (Units unit) = (1 ≤ unit) × (unit ≤ 1000000)
IsForm (Wide columns) = (1 ≤ columns) × (columns ≤ 16)

-- a unit of a list of version 2 is 1 to 1,000,000 ns
abbrev pub IsUnit : Option ℕ → Type 0
IsUnit None = Unit {0}
IsUnit (Some unit) = (1 ≤ unit) × (unit ≤ 1000000)

-- what the reader has learnt of a list is in range: a unit of 1 to 1,000,000 ns, 1 to 16 columns, a time of at most 10^15 ns
abbrev pub is_in_range : Option State → Bool
is_in_range None = true
is_in_range (Some state.Start) = true
is_in_range (Some (state.Formless None)) = true
is_in_range (Some (state.Formless (Some unit))) = nat_le 1 unit && nat_le unit 1000000
is_in_range (Some (state.Rows Narrow time)) = nat_le time (10 ^ 15)
is_in_range (Some (state.Rows (Units unit) time)) = nat_le 1 unit && nat_le unit 1000000 && nat_le time (10 ^ 15)
is_in_range (Some (state.Rows (Wide columns) time)) = nat_le 1 columns && nat_le columns 16 && nat_le time (10 ^ 15)

-- the time in ns that a stamp gives a row in this unit, behind a row of this time
abbrev pub stamp_time : ℕ → ℕ → Stamp → ℕ
stamp_time unit before (Absolute units) = unit * units
stamp_time unit before (Step units) = before + unit * units

-- the time of so many units behind this time, or the first fault of a number that isn't there or is too large
abbrev pub time_behind : ℕ → ℕ → Option ℕ → Result ℕ LineFault
time_behind before unit count = do
  units ← ok_or count Number
  _ ← check (nat_le (before + unit * units) (10 ^ 15)) TooLarge
  Ok (before + unit * units)

-- what a good value is, seen by a function
abbrev pub seen_by : {A B : Type 0} → (A → B) → Result A LineFault → Result B LineFault
seen_by view (Ok x) = Ok (view x)
seen_by view (Err fault) = Err fault

-- a row was read, with this stamp's time and what it says of its lines
pub record IsStamped (time_at : Stamp → ℕ) (read : Result row.Row LineFault) (time : ℕ) (said : List Edge) : Type 0 where
  pub stamp : Stamp
  pub is : read ≡ Ok (record { stamp = stamp; said = said })
  pub time_is : time ≡ time_at stamp

-- these are the levels that the rows, latest first, said last of each line
unfoldable pub HasLevels : List (Option Bool) → List Edge → Type 0
HasLevels levels rows = (line : ℕ) → slice_index_or levels line None ≡ level_before line rows

-- the reader is among rows of this form, the last of which has this time
pub record IsInRows (form : Form) (time : ℕ) (levels : List (Option Bool)) (standing : Standing) : Type 0 where
  pub stamps : List Stamp
  pub rows : List Edge
  pub is : standing ≡ InRows (form_of form) stamps rows
  pub time_is : time ≡ row.time_of (form_of form) stamps
  pub in_range : time ≤ 10 ^ 15
  pub form_is : IsForm form
  pub levels_are : HasLevels levels rows

-- the reader is where no row was read yet
pub record IsBeforeRows (unit : Option ℕ) (levels : List (Option Bool)) (expected standing : Standing) : Type 0 where
  pub is : standing ≡ expected
  pub unit_is : IsUnit unit
  pub levels_are : HasLevels levels []

-- the reader is as far as the list
abbrev pub IsAt : State → List (Option Bool) → Standing → Type 0
IsAt state.Start levels standing = IsBeforeRows None levels AtStart standing
IsAt (state.Formless unit) levels standing = IsBeforeRows unit levels (Formless unit) standing
IsAt (state.Rows form time) levels standing = IsInRows form time levels standing

-- the reader is as far as the list behind the line that was read, and gives its edges
pub record HasRead (now : State) (levels : List (Option Bool)) (edges : List Edge) (read : Result Read LineFault) : Type 0 where
  pub next : Read
  pub is : read ≡ Ok next
  pub at : IsAt now levels next.standing
  pub edges_are : edges ≡ next.edges

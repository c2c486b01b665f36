-- Rows whose fields are digits alone; this project's own.
use Rattle.std.specs.Prelude.{◌≡◌, ℕ, ◌<◌, ◌≤◌, Some, Ok, List, [], ◌∷◌, length, take, slice_index}
use Rattle.line_base.specs.declared.edge.Edge.{Edge}
use Rattle.line_base.specs.Texts.{cut_at, number_in}
use Rattle.edge_trace.specs.Fields.{fields, without_blanks, level_in}
use Rattle.edge_trace.specs.Rows.{Form, unit_of, narrow_row}
use Rattle.edge_trace.specs.Readings.{stamp_time, time_behind, IsStamped}

-- a text begins with this number, without blanks, and such a byte, behind which this stands
pub record BeginsWithNumber (mark : ℕ) (text : List ℕ) (number : ℕ) (rest : List ℕ) : Type 0 where
  pub front : List ℕ
  pub cut : (front, Some rest) ≡ cut_at mark text
  pub spelled : number_in front ≡ Some number
  pub no_blanks : without_blanks front ≡ front

-- the three fields of a line spell the time, in ns, the line and the level of this edge
pub record SpellsEdge (content : List ℕ) (edge : Edge) : Type 0 where
  pub time : List ℕ
  pub line : List ℕ
  pub level : List ℕ
  pub parts : fields content ≡ time ∷ line ∷ level ∷ []
  pub time_is : number_in time ≡ Some edge.time
  pub line_is : number_in line ≡ Some edge.line
  pub level_is : level_in level ≡ Some edge.level

-- no byte is below a plus, as an LF, a CR, a blank and a number sign are
abbrev pub IsHigh : List ℕ → Type 0
IsHigh [] = Unit {0}
IsHigh (byte ∷ bytes) = (43 ≤ byte) × IsHigh bytes

-- a text begins with a line of so many bytes, none of them low, and an LF
pub record IsLineFront (text : List ℕ) (count : ℕ) : Type 0 where
  pub within : count < length text
  pub ends : slice_index text count ≡ 10
  pub some : 0 < count
  pub high : IsHigh (take count text)

-- a text begins with a line of so many bytes that spell this edge
pub record IsPlainFront (text : List ℕ) (edge : Edge) (count : ℕ) : Type 0 where
  pub front : IsLineFront text count
  pub spells : SpellsEdge (take count text) edge

-- a text begins with a line of so many bytes, which is a narrow row of this form with this edge, behind a row of a time of `before` ns
pub record IsRowFront (form : Form) (before : ℕ) (text : List ℕ) (edge : Edge) (count : ℕ) : Type 0 where
  pub front : IsLineFront text count
  pub row : IsStamped (stamp_time (unit_of form) before) (narrow_row form (stamp_time (unit_of form) before) before (fields (take count text))) edge.time (edge ∷ [])

-- a row of a time of `before` ns stands before this edge, whose line and level were written with so many units of so many ns behind a start, in ns
pub record IsInUnits (start unit before : ℕ) (written edge : Edge) : Type 0 where
  pub time_is : Ok edge.time ≡ time_behind start unit (Some written.time)
  pub line_is : edge.line ≡ written.line
  pub level_is : edge.level ≡ written.level
  pub later : before ≤ edge.time

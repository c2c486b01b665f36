-- Wide rows whose fields have no blanks; this project's own.
use Rattle.std.specs.Prelude.{◌≡◌, ℕ, ◌+◌, ◌*◌, ◌<◌, Bool, false, true, Some, List, length, take, slice_index}
use Rattle.line_base.specs.Texts.{cut_at}
use Rattle.edge_trace.specs.Fields.{fields, without_blanks, seconds_in, levels_in}
use Rattle.edge_trace.specs.Rows.{said_from, wide_row}
use Rattle.edge_trace.specs.Readings.{stamp_time, IsStamped}
use Rattle.edge_trace.specs.PlainRows.{IsHigh, IsLineFront}

-- a text begins with seconds, without blanks, that are this time in ns, and a comma, behind which this stands
pub record BeginsWithSeconds (text : List ℕ) (time : ℕ) (rest : List ℕ) : Type 0 where
  pub front : List ℕ
  pub cut : (front, Some rest) ≡ cut_at 44 text
  pub spelled : seconds_in front ≡ Some time
  pub no_blanks : without_blanks front ≡ front
  pub high : IsHigh front

-- the byte of a level
abbrev pub level_byte : Bool → ℕ
level_byte false = 48
level_byte true = 49

-- a text spells these levels
pub record SpellsLevels (text : List ℕ) (levels : List Bool) : Type 0 where
  pub counted : length (fields text) ≡ length levels
  pub spelled : levels_in (fields text) ≡ Some levels
  pub high : IsHigh text

-- a text begins with these levels, one byte each: one and so many others, with a comma between two and an LF behind the last
pub record BeginsWithLevels (text : List ℕ) (others : ℕ) (levels : List Bool) : Type 0 where
  pub within : 2 * others + 1 < length text
  pub ends : slice_index text (2 * others + 1) ≡ 10
  pub counted : length levels ≡ others + 1
  pub spells : SpellsLevels (take (2 * others + 1) text) levels

-- a text begins with a line of so many bytes, which is a wide row of this time with these levels, behind a row of a time of `before` ns
pub record IsWideFront (columns before : ℕ) (text : List ℕ) (time : ℕ) (levels : List Bool) (count : ℕ) : Type 0 where
  pub front : IsLineFront text count
  pub row : IsStamped (stamp_time 1 before) (wide_row columns (stamp_time 1 before) before (fields (take count text))) time (said_from 0 time levels)

-- How the edges of a row are kept, which are at one time; this project's own.
use Rattle.std.specs.Prelude.{◌≡◌, ℕ, zero, suc, ◌+◌, ◌*◌, ◌/◌, ◌%◌, ◌^◌, ◌<◌, Bool, true, false, Option, None, Some, List, [], ◌∷◌}
use Rattle.line_base.specs.declared.edge.Edge.{Edge}

-- the edges at this time of the lines from this one on, each of which has its new level here, or no edge
unfoldable pub edges_from : ℕ → ℕ → List (Option Bool) → List Edge
edges_from line time [] = []
edges_from line time (None ∷ levels) = edges_from (line + 1) time levels
edges_from line time (Some level ∷ levels) = record { line = line; time = time; level = level } ∷ edges_from (line + 1) time levels

-- what a digit says of a line: it has no edge, or this is its new level
abbrev pub level_told : ℕ → Option Bool
level_told zero = None
level_told (suc zero) = Some false
level_told (suc (suc digit)) = Some true

-- what a number says of so many lines, by one digit in base 4 for each, the lowest for the first line
unfoldable pub levels_told : ℕ → ℕ → List (Option Bool)
levels_told zero number = []
levels_told (suc lines) number = level_told (number % 4) ∷ levels_told lines (number / 4)

-- the digit of a level: 1 for low, 2 for high
abbrev pub digit_for : Bool → ℕ
digit_for false = 1
digit_for true = 2

-- the number that keeps the levels of these edges, by their digits in base 4, that of line 0 lowest
unfoldable pub levels_kept : List Edge → ℕ
levels_kept [] = 0
levels_kept (edge ∷ edges) = digit_for edge.level * 4 ^ edge.line + levels_kept edges

-- the time that is kept of these edges, or 0 where there are none
unfoldable pub time_kept : List Edge → ℕ
time_kept [] = 0
time_kept (edge ∷ edges) = edge.time

-- the time and the number are those that are kept of the edges which they tell
pub record IsKept (time number : ℕ) : Type 0 where
  pub time_is : time_kept (edges_from 0 time (levels_told 16 number)) ≡ time
  pub number_is : levels_kept (edges_from 0 time (levels_told 16 number)) ≡ number

-- these edges are of lines below this one, at this time
unfoldable pub AreBelow : ℕ → ℕ → List Edge → Type 0
AreBelow line time [] = Unit {0}
AreBelow line time (edge ∷ edges) = (edge.line < line) × (edge.time ≡ time) × AreBelow line time edges

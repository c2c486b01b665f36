-- Which edges may follow one another; this project's own.
use Rattle.std.specs.Prelude.{ℕ, ◌^◌, ◌≤◌, Bool, Option, List, [], ◌∷◌}
use Rattle.line_base.specs.declared.edge.Edge.{Edge}
use Rattle.line_base.specs.Orderly.{Alternates, levels_with}

-- an edge may be the next behind this time and these levels of the lines: on one of 16 lines, no earlier, at most 10^15 ns, and of the other level on its line
pub record IsLaterEdge (time : ℕ) (levels : ℕ → Option Bool) (edge : Edge) : Type 0 where
  pub on_a_line : edge.line ≤ 15
  pub not_earlier : time ≤ edge.time
  pub in_range : edge.time ≤ 10 ^ 15
  pub alternates : Alternates (levels edge.line) edge.level

-- the edges may follow behind this time and these levels of the lines: times don't go back, and levels alternate on each line
unfoldable pub AreOrdered : ℕ → (ℕ → Option Bool) → List Edge → Type 0
AreOrdered time levels [] = Unit {0}
AreOrdered time levels (edge ∷ edges) = IsLaterEdge time levels edge × AreOrdered edge.time (levels_with levels edge.line edge.level) edges

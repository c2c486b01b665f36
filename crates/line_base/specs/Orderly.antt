-- Which lists of items a channel's receiver may be handed; this project's own.
use Rattle.std.specs.Prelude.{◌≡◌, ◌≢◌, ℕ, ◌+◌, ◌^◌, ◌≤◌, ◌==◌, Bool, Option, None, Some, List, [], ◌∷◌, Contains, if◌then◌else◌}
use Rattle.line_base.specs.declared.edge.Edge.{Edge}
use Rattle.line_base.specs.declared.edge.Item.{Item}
use Rattle.line_base.specs.declared.edge.Item.TheVariants as item

-- an edge of this level may follow on its line: any level where it opens the line, else the other one
abbrev pub Alternates : Option Bool → Bool → Type 0
Alternates None level = Unit {0}
Alternates (Some before) level = before ≢ level

-- the levels of the lines, after an edge of this line to this level
abbrev pub levels_with : (ℕ → Option Bool) → ℕ → Bool → ℕ → Option Bool
levels_with levels line level other = if other == line then Some level else levels other

-- an edge may be the next: on one of the lines, with a number below 2^40, no earlier than the time before, at most 10^15 ns, and of the other level on its line
pub record IsNextEdge (lines : List ℕ) (number time : ℕ) (levels : ℕ → Option Bool) (edge : Edge) : Type 0 where
  pub on_a_line : Contains lines edge.line
  pub numbered : number + 1 ≤ 2 ^ 40
  pub not_earlier : time ≤ edge.time
  pub in_range : edge.time ≤ 10 ^ 15
  pub alternates : Alternates (levels edge.line) edge.level

-- a gap may be the next: it begins at the number of the next edge, has at least one edge, and numbers stay below 2^40
pub record IsNextGap (number first count : ℕ) : Type 0 where
  pub begins_here : first ≡ number
  pub not_empty : 1 ≤ count
  pub numbered : number + count ≤ 2 ^ 40

-- these items may follow where so many edges came before, the last at this time, with these levels on the lines
unfoldable pub IsOrderlyFrom : List ℕ → ℕ → ℕ → (ℕ → Option Bool) → List Item → Type 0
IsOrderlyFrom lines number time levels [] = Unit {0}
IsOrderlyFrom lines number time levels (item.Edge edge ∷ items) =
    IsNextEdge lines number time levels edge × IsOrderlyFrom lines (number + 1) edge.time (levels_with levels edge.line edge.level) items
IsOrderlyFrom lines number time levels (item.Gap first count ∷ items) =
    IsNextGap number first count × IsOrderlyFrom lines (number + count) time (λ _. None) items
IsOrderlyFrom lines number time levels (item.End ∷ items) = items ≡ []
IsOrderlyFrom lines number time levels (item.Cut ∷ items) = items ≡ []

-- the items are orderly for the lines: times don't go back, levels alternate, numbers run on over gaps, and an end is the last
unfoldable pub IsOrderly : List ℕ → List Item → Type 0
IsOrderly lines items = IsOrderlyFrom lines 0 0 (λ _. None) items

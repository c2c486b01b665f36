-- Edges of which runs were lost, and gaps in their place; this project's own.
use Rattle.std.specs.Prelude.{ℕ, ◌+◌, ◌-◌, ◌≤◌, List, [], ◌∷◌, ◌++◌, length, map, take, drop}
use Rattle.line_base.specs.declared.edge.Edge.{Edge}
use Rattle.line_base.specs.declared.edge.Item.{Item}
use Rattle.line_base.specs.declared.edge.Item.TheVariants as item

-- a run of lost edges: the number of its first one, and how many there are
pub record LostRun : Type 0 where
  pub first : ℕ
  pub count : ℕ

-- the edges from this number on, with one gap in the place of each run of lost ones
unfoldable pub thinned_from : ℕ → List Edge → List LostRun → List Item
thinned_from number edges [] = map item.Edge edges
thinned_from number edges (run ∷ runs) =
    map item.Edge (take (run.first - number) edges)
    ++ item.Gap run.first run.count ∷ thinned_from (run.first + run.count) (drop (run.first - number + run.count) edges) runs

-- the edges, with one gap in the place of each run of lost ones
abbrev pub thinned : List Edge → List LostRun → List Item
thinned edges runs = thinned_from 0 edges runs

-- these runs may be lost of edges with the numbers from this one to below that one: none is empty, each begins at or behind the end of the one before, and the last ends within
unfoldable pub AreLostFrom : ℕ → ℕ → List LostRun → Type 0
AreLostFrom number end [] = number ≤ end
AreLostFrom number end (run ∷ runs) = (number ≤ run.first) × (1 ≤ run.count) × AreLostFrom (run.first + run.count) end runs

-- these runs may be lost of these edges
abbrev pub AreLost : List Edge → List LostRun → Type 0
AreLost edges runs = AreLostFrom 0 (length edges) runs

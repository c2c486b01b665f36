-- The edges of a PSI5 data line, each with what the interval before it counts as in half-bits.
use Rattle.std.specs.Prelude.{ℕ, ◌-◌, Bool, List, [], ◌∷◌}
use Rattle.line_base.specs.Edges.{NumberedEdge}
use Rattle.link_math.specs.declared.manchester.Halves.{Halves}
use Rattle.link_math.specs.Manchester.{halves_in}

-- an edge that isn't an opening: its number, the level after it, and what the interval from the edge before it counts as
pub record Change : Type 0 where
  pub number : ℕ
  pub level : Bool
  pub interval : Halves

-- the change that an edge is, at this nominal bit time, where the edge before it was at this time (both in ns)
abbrev pub change_at : ℕ → ℕ → NumberedEdge → Change
change_at bit before e = record { number = e.number; level = e.edge.level; interval = halves_in (e.edge.time - before) bit }

-- the changes that these edges are, at this nominal bit time, where the edge before them was at this time (both in ns)
unfoldable pub changes_after : ℕ → ℕ → List NumberedEdge → List Change
changes_after bit before [] = []
changes_after bit before (e ∷ edges) = change_at bit before e ∷ changes_after bit e.edge.time edges

-- the changes of a line's edges, at this nominal bit time in ns: the first edge is an opening, and none
unfoldable pub changes_of : ℕ → List NumberedEdge → List Change
changes_of bit [] = []
changes_of bit (opening ∷ edges) = changes_after bit opening.edge.time edges

-- The text of edges: a narrow row for each; this project's own.
use Rattle.std.specs.Prelude.{ℕ, ◌^◌, ◌<◌, ◌≤◌, List, [], ◌∷◌, ◌++◌, flat_map}
use Rattle.line_base.specs.declared.edge.Edge.{Edge}
use Rattle.edge_trace.specs.Texts.{narrow_text}

-- the row of an edge, with the LF (0x0A) that ends it
abbrev pub row_of : Edge → List ℕ
row_of edge = narrow_text edge ++ 10 ∷ []

-- the rows of edges, in their order
unfoldable pub rows_of : List Edge → List ℕ
rows_of edges = flat_map row_of edges

-- an edge that a row can tell: on a line 0 to 15, and at most at 10^15 ns
pub record IsTellable (edge : Edge) : Type 0 where
  pub line : edge.line < 16
  pub time : edge.time ≤ 10 ^ 15

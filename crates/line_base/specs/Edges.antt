-- The edges of a channel, counted; this project's own.
use Rattle.std.specs.Prelude.{ℕ}
use Rattle.line_base.specs.declared.edge.Edge.{Edge}

-- an edge, with its number in the channel
pub record NumberedEdge : Type 0 where
  pub number : ℕ
  pub edge : Edge

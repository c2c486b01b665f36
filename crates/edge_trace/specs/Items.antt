-- What a channel is handed of a list of edges; this project's own.
use Rattle.std.specs.Prelude.{ℕ, ◌==◌, Bool, List, map, filter}
use Rattle.std.specs.List.{list_any}
use Rattle.line_base.specs.declared.edge.Edge.{Edge}
use Rattle.line_base.specs.declared.edge.Item.{Item}
use Rattle.line_base.specs.declared.edge.Item.TheVariants as item

-- the line is one of these
abbrev pub is_one_of : List ℕ → ℕ → Bool
is_one_of lines line = list_any (λ other. line == other) lines

-- the items of a channel on these lines: the edges of its lines, in order
unfoldable pub items_on : List ℕ → List Edge → List Item
items_on lines edges = map item.Edge (filter (λ edge. is_one_of lines edge.line) edges)

-- Which edges of a channel's items are read together: those that no gap parts; this project's own.
use Rattle.std.specs.Prelude.{ℕ, ◌+◌, List, [], ◌∷◌, ◌++◌}
use Rattle.line_base.specs.Edges.{NumberedEdge}
use Rattle.line_base.specs.declared.edge.Item.{Item}
use Rattle.line_base.specs.declared.edge.Item.TheVariants as item

-- the stretches of the last edges since a gap and of these items, which come after so many edges: a gap ends one and begins the next, and nothing is read behind an end
unfoldable pub stretches_from : ℕ → List NumberedEdge → List Item → List (List NumberedEdge)
stretches_from number stretch [] = stretch ∷ []
stretches_from number stretch (item.Edge edge ∷ items) = stretches_from (number + 1) (stretch ++ record { number = number; edge = edge } ∷ []) items
stretches_from number stretch (item.Gap first count ∷ items) = stretch ∷ stretches_from (number + count) [] items
stretches_from number stretch (item.End ∷ items) = stretch ∷ []
stretches_from number stretch (item.Cut ∷ items) = stretch ∷ []

-- the stretches of a channel's items: the edges, each with its number, from the start or a gap to the next gap or an end
unfoldable pub stretches_of : List Item → List (List NumberedEdge)
stretches_of items = stretches_from 0 [] items

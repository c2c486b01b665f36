-- Which edges of a channel's items are still open: those since the last gap; this project's own.
use Rattle.std.specs.Prelude.{ℕ, ◌+◌, List, [], ◌∷◌, ◌++◌, Option, None, Some}
use Rattle.line_base.specs.Edges.{NumberedEdge}
use Rattle.line_base.specs.declared.edge.Item.{Item}
use Rattle.line_base.specs.declared.edge.Item.TheVariants as item
use Rattle.receiver_core.specs.declared.report.Report.{Report}
use Rattle.receiver_core.specs.declared.setup.ChannelSetup.{ChannelSetup}
use Rattle.receiver_core.specs.Channels.{reports_from}

-- the open edges after one item more, which comes after so many edges: a gap leaves none, and after an end nothing is open
abbrev pub open_with : ℕ → Option (List NumberedEdge) → Item → Option (List NumberedEdge)
open_with number None next = None
open_with number (Some stretch) (item.Edge edge) = Some (stretch ++ record { number = number; edge = edge } ∷ [])
open_with number (Some stretch) (item.Gap first count) = Some []
open_with number (Some stretch) item.End = None
open_with number (Some stretch) item.Cut = None

-- the open edges after these items, which come after so many edges and these open ones
unfoldable pub open_from : ℕ → List NumberedEdge → List Item → Option (List NumberedEdge)
open_from number stretch [] = Some stretch
open_from number stretch (item.Edge edge ∷ items) = open_from (number + 1) (stretch ++ record { number = number; edge = edge } ∷ []) items
open_from number stretch (item.Gap first count ∷ items) = open_from (number + count) [] items
open_from number stretch (item.End ∷ items) = None
open_from number stretch (item.Cut ∷ items) = None

-- the edges of the items since the last gap, each with its number; after an end nothing is open
unfoldable pub open_stretch : List Item → Option (List NumberedEdge)
open_stretch items = open_from 0 [] items

-- the reports of the open edges and of these items, which come after so many edges; none after an end
abbrev pub resumed : ChannelSetup → ℕ → Option (List NumberedEdge) → List Item → List Report
resumed setup number None items = []
resumed setup number (Some stretch) items = reports_from setup number stretch items

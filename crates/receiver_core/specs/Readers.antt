-- Which items a channel's receiver stands for, and which it may be handed; this project's own.
use Rattle.std.specs.Prelude.{◌≡◌, ℕ, ◌+◌, ◌^◌, ◌<◌, ◌≤◌, List, Option, None, Some, length}
use Rattle.line_base.specs.Edges.{NumberedEdge}
use Rattle.line_base.specs.declared.edge.Item.{Item}
use Rattle.line_base.specs.declared.edge.Item.TheVariants as item
use Rattle.receiver_core.specs.declared.setup.ChannelSetup.{ChannelSetup}
use Rattle.receiver_core.specs.declared.setup.ChannelSetup.TheVariants.{Sent, Psi5, Spc, Tooth}
use Rattle.receiver_core.specs.declared.receiver.Link.{Link}
use Rattle.receiver_core.specs.declared.receiver.Link.TheVariants as link
use Rattle.receiver_core.specs.declared.receiver.Receiver.{Receiver}
use Rattle.receiver_core.specs.SentStretches.{StandsForStretch}
use Rattle.receiver_core.specs.Psi5Stretches.{StandsForBursts}
use Rattle.receiver_core.specs.SpcReports.{StandsForAnswers}
use Rattle.receiver_core.specs.ToothReports.{StandsForRises}
use Rattle.line_base.specs.Items.{edges_counted}
use Rattle.receiver_core.specs.OpenStretches.{open_stretch}

-- the link has this setup and stands for these edges; where there are none, it has ended
abbrev pub LinkStandsFor : ChannelSetup → Link → Option (List NumberedEdge) → Type 0
LinkStandsFor (Sent line setup layout serial) (link.Sent channel) (Some stretch) = StandsForStretch setup layout serial channel stretch
LinkStandsFor (Psi5 line setup slots init) (link.Psi5 channel) (Some stretch) = StandsForBursts setup slots init channel stretch
LinkStandsFor (Spc line setup) (link.Spc channel) (Some stretch) = StandsForAnswers setup channel stretch
LinkStandsFor (Tooth line setup) (link.Tooth channel) (Some stretch) = StandsForRises setup channel stretch
LinkStandsFor setup link.Ended None = Unit {0}
LinkStandsFor _ _ _ = ⊥

-- how many edges are open, none after an end
abbrev pub open_count : Option (List NumberedEdge) → ℕ
open_count None = 0
open_count (Some stretch) = length stretch

-- the receiver has this setup and stands for these items: its link stands for the edges since the last gap, and the number of its next edge is the number of edges, with those that were lost, which is at most 2^60
pub record StandsFor (setup : ChannelSetup) (receiver : Receiver) (items : List Item) : Type 0 where
  pub numbered : receiver.number ≡ edges_counted items
  pub few : receiver.number ≤ 2 ^ 60
  pub reads : LinkStandsFor setup receiver.link (open_stretch items)

-- a reader may be handed this item after so many edges: an edge at a time of at most 10^15 ns, and numbers of edges that stay below 2^60
abbrev pub IsTakeable : ℕ → Item → Type 0
IsTakeable number (item.Edge edge) = (edge.time ≤ 10 ^ 15) × (number < 2 ^ 60)
IsTakeable number (item.Gap first count) = number + count ≤ 2 ^ 60
IsTakeable number item.End = Unit {0}
IsTakeable number item.Cut = Unit {0}

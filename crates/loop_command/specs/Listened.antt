-- Which edges a loop's receivers have got so far; this project's own.
use Rattle.std.specs.Prelude.{◌≡◌, ℕ, ◌+◌, ◌*◌, ◌<◌, ◌≤◌, ◌⊎◌, ◌^◌, List, [], ◌∷◌, ◌++◌, length, map}
use Rattle.std.specs.List.{range_with_len}
use Rattle.line_base.specs.Thinned.{LostRun, thinned}
use Rattle.line_base.specs.declared.edge.Edge.{Edge}
use Rattle.line_base.specs.declared.edge.Item.{Item}
use Rattle.line_base.specs.declared.edge.Item.TheVariants as item
use Rattle.receiver_core.specs.declared.setup.ChannelSetup.{ChannelSetup}
use Rattle.line_base.specs.Items.{edges_counted}
use Rattle.receiver_core.specs.CountedReceivers.{HasTaken}
use Rattle.receiver_core.specs.declared.counted_receiver.CountedReceiver.{CountedReceiver}
use Rattle.loop_command.specs.declared.gaps.GapListener.{GapListener}
use Rattle.loop_command.specs.declared.listeners.Listeners.{Listeners}
use Rattle.loop_command.specs.Loops.{last_time}

-- the receiver is of this setup, and has got these items
pub record HasGot (receiver : CountedReceiver) (setup : ChannelSetup) (items : List Item) : Type 0 where
  pub is_of : receiver.setup ≡ setup
  pub taken : HasTaken receiver items

-- a whole lost run, of 50 edges from 1,000 times its number on
abbrev pub whole_run : ℕ → LostRun
whole_run number = record { first = 1000 * number; count = 50 }

-- the first so many whole lost runs
abbrev pub whole_runs : ℕ → List LostRun
whole_runs count = map whole_run (range_with_len 1 count)

-- these items were made of the edges: so many lost runs are whole, and what is lost of the next one is still open
pub record IsThinnedTo (edges : List Edge) (items : List Item) : Type 0 where
  pub whole : ℕ
  pub kept : List Edge
  pub lost : List Edge
  pub parts : edges ≡ kept ++ lost
  pub are : items ≡ thinned kept (whole_runs whole)
  pub behind : (whole ≡ 0) ⊎ (1000 * whole + 50 ≤ length kept)
  pub before : length kept ≤ 1000 * (whole + 1)
  pub few : length lost < 50
  pub opened : (length lost ≡ 0) ⊎ (length kept ≡ 1000 * (whole + 1))
  pub counted : edges_counted items ≡ length kept
  pub short : length items ≤ length kept

-- the receiver has got these edges with gaps
pub record HasGotThinned (gaps : GapListener) (setup : ChannelSetup) (edges : List Edge) : Type 0 where
  pub items : List Item
  pub made : IsThinnedTo edges items
  pub got : HasGot gaps.receiver setup items
  pub counted : gaps.edges ≡ length edges

-- each of these edges is at a time of at most 10^15 ns
abbrev pub AreInRange : List Edge → Type 0
AreInRange [] = Unit {0}
AreInRange (edge ∷ edges) = (edge.time ≤ 10 ^ 15) × AreInRange edges

-- both receivers have got these edges
pub record HaveGot (listeners : Listeners) (setup : ChannelSetup) (edges : List Edge) : Type 0 where
  pub all : HasGot listeners.all setup (map item.Edge edges)
  pub thinned : HasGotThinned listeners.gaps setup edges
  pub last : listeners.last ≡ last_time edges

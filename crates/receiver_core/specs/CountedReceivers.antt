-- Which items a receiver has taken whose reports are counted; this project's own.
use Rattle.std.specs.Prelude.{◌≡◌, ◌*◌, ◌≤◌, List, length}
use Rattle.line_base.specs.declared.edge.Item.{Item}
use Rattle.receiver_core.specs.declared.counted_receiver.CountedReceiver.{CountedReceiver}
use Rattle.receiver_core.specs.Channels.{so_far}
use Rattle.receiver_core.specs.Readers.{StandsFor}
use Rattle.receiver_core.specs.Tallies.{counted_in, tally_of}

-- the receiver stands for these items, and their reports are counted, at most eight of an item
pub record HasTaken (counted : CountedReceiver) (items : List Item) : Type 0 where
  pub reads : StandsFor counted.setup counted.receiver items
  pub counted_are : counted.tally ≡ tally_of (so_far counted.setup items)
  pub few : counted_in counted.tally ≤ 8 * length items

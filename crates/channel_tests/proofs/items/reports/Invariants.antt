-- The receiver stands for the items that were handed to it, and the number is that of their edges.
use Rattle.std.proofs.Common.{◌≡◌, take}
use Rattle.line_base.specs.Items.{edges_counted}
use Rattle.receiver_core.specs.Readers.{StandsFor}
use Rattle.channel_tests.proofs.items.reports.Given as goal

abbrev pub invariant-loop-item : goal.invariant-loop-item
invariant-loop-item l = StandsFor l.fn.setup l.receiver (take l.item-index l.items) × (l.number ≡ edges_counted (take l.item-index l.items))

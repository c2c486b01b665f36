-- Both get the end.
use Rattle.std.proofs.Common.{map}
use Rattle.line_base.specs.declared.edge.Item.TheVariants as item
use Rattle.loop_command.proofs.ThinnedListeners.{counts-final}
use Rattle.loop_command.proofs.listeners.Listeners.take_end.Goals as goal

pub returns-clause-all : goal.returns-clause-all
returns-clause-all c = λ setup edges before. counts-final c.hear.new.receiver setup (map item.Edge edges) (c.hear.ensures setup (map item.Edge edges) before.all)

pub returns-clause-thinned : goal.returns-clause-thinned
returns-clause-thinned c = λ setup edges before. c.take_end.ensures.counted setup edges before.thinned

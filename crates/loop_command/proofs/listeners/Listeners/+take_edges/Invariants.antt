use Rattle.std.proofs.Common.{length}
use Rattle.loop_command.proofs.listeners.Listeners.+take_edges.Given as goal

abbrev pub decreases-take_edges : goal.decreases-take_edges
decreases-take_edges l = length l.more.now

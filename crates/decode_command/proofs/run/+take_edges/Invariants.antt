use Rattle.std.proofs.Common.{length}
use Rattle.decode_command.proofs.run.+take_edges.Given as goal

abbrev pub decreases-take_edges : goal.decreases-take_edges
decreases-take_edges g l = length l.others

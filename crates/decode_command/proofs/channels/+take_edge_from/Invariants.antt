use Rattle.std.proofs.Common.{length}
use Rattle.decode_command.proofs.channels.+take_edge_from.Given as goal

abbrev pub decreases-take_edge_from : goal.decreases-take_edge_from
decreases-take_edge_from g l = length l.channels.now

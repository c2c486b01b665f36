use Rattle.std.proofs.Common.{length}
use Rattle.decode_command.proofs.channels.+take_end.Given as goal

abbrev pub decreases-take_end : goal.decreases-take_end
decreases-take_end g l = length l.channels.now

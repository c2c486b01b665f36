use Rattle.std.proofs.Common.{length}
use Rattle.decode_command.proofs.Taking.{MadeSoFar}
use Rattle.decode_command.proofs.channels.channels_of.Given as goal

abbrev pub invariant-setups : goal.invariant-setups
invariant-setups l = MadeSoFar l.setups l.rest l.channels.items

abbrev pub decreases-setups : goal.decreases-setups
decreases-setups l = length l.rest

use Rattle.std.proofs.Common.{length}
use Rattle.decode_command.proofs.Passing.{PassedSoFar}
use Rattle.decode_command.proofs.channels.passed_over.Given as goal

abbrev pub invariant-channels : goal.invariant-channels
invariant-channels l = PassedSoFar l.channels l.line l.count l.rest

abbrev pub decreases-channels : goal.decreases-channels
decreases-channels l = length l.rest

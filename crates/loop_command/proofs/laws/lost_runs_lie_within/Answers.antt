-- Lost runs lie within.
use Rattle.std.proofs.Common.{length}
use Rattle.loop_command.proofs.LostEdges.{lost_runs-lost, run-lost, runs-alone}
use Rattle.loop_command.proofs.laws.lost_runs_lie_within.Goals as goal

pub returns-clause-within : goal.returns-clause-within
returns-clause-within c = λ edges. lost_runs-lost (length edges)

pub returns-clause-each : goal.returns-clause-each
returns-clause-each c = run-lost

pub returns-clause-alone : goal.returns-clause-alone
returns-clause-alone c = runs-alone

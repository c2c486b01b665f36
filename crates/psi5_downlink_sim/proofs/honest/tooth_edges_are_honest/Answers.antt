-- The law is two lemmas.
use Rattle.psi5_downlink_sim.proofs.ToothRuns.{run-honest, run-orderly}
use Rattle.psi5_downlink_sim.proofs.honest.tooth_edges_are_honest.Goals as goal

pub returns-clause-honest : goal.returns-clause-honest
returns-clause-honest c = run-honest

pub returns-clause-orderly : goal.returns-clause-orderly
returns-clause-orderly c = run-orderly

-- The law is two lemmas.
use Rattle.psi5_sim.proofs.Psi5Runs.{run-honest, run-orderly}
use Rattle.psi5_sim.proofs.honest.psi5_edges_are_honest.Goals as goal

pub returns-clause-honest : goal.returns-clause-honest
returns-clause-honest c = run-honest

pub returns-clause-orderly : goal.returns-clause-orderly
returns-clause-orderly c = run-orderly

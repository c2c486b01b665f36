-- The law is two lemmas.
use Rattle.sensor_sim.proofs.HonestRuns.{run-honest, run-orderly}
use Rattle.sensor_sim.proofs.honest.simulated_edges_are_honest.Goals as goal

pub returns-clause-honest : goal.returns-clause-honest
returns-clause-honest c = run-honest

pub returns-clause-orderly : goal.returns-clause-orderly
returns-clause-orderly c = run-orderly

-- What is played is what a simulator has run.
use Rattle.sensor_sim.specs.Sims.{started_by}
use Rattle.sensor_sim.specs.Played.{accepted, played, wobble_of}
use Rattle.sensor_sim.proofs.HonestRuns.{run-honest, run-orderly}
use Rattle.sensor_sim.proofs.PlayedMessages.{played-all, played-before, played-run}
use Rattle.sensor_sim.proofs.played.played_edges_are_honest.Goals as goal

pub returns-clause-run : goal.returns-clause-run
returns-clause-run c = λ setup seed messages. played-run (started_by setup) (wobble_of seed) messages

pub returns-clause-all : goal.returns-clause-all
returns-clause-all c = λ setup seed messages none. played-all 0 (started_by setup) (wobble_of seed) messages none

pub returns-clause-before : goal.returns-clause-before
returns-clause-before c = λ setup seed index fault messages some. played-before index fault (started_by setup) (wobble_of seed) messages some

pub returns-clause-honest : goal.returns-clause-honest
returns-clause-honest c = λ setup seed messages is_accepted no_fault.
    let ran = played-run (started_by setup) (wobble_of seed) messages in
    run-honest setup ran.0 (accepted setup seed messages) (played setup seed messages) is_accepted no_fault ran.1

pub returns-clause-orderly : goal.returns-clause-orderly
returns-clause-orderly c = λ setup seed messages is_accepted no_fault.
    let ran = played-run (started_by setup) (wobble_of seed) messages in
    run-orderly setup ran.0 (accepted setup seed messages) (played setup seed messages) is_accepted no_fault ran.1

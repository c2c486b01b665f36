-- By the simulator of the link.
use Rattle.spc_sim.specs.SpcSims.{spc_next, started}
use Rattle.spc_sim.specs.SpcStates.{SpcState}
use Rattle.sensor_sim.specs.declared.sim.Sim.TheVariants as sim
use Rattle.sensor_sim.proofs.HonestRuns.{spc-sends}
use Rattle.sensor_sim.proofs.LinkRuns.{link-run, link-sent}
use Rattle.sensor_sim.proofs.SpcCalls.{spc-call, whole-trace}
use Rattle.sensor_sim.proofs.transactions.transactions_keep_quiet.Goals as goal

pub returns-clause-whole : goal.returns-clause-whole
returns-clause-whole c = λ line s state messages edges accepted run.
    let by = link-run SpcState sim.Spc spc_next spc-sends (started line s) state messages edges run in
    whole-trace line s accepted.0 accepted.1 by.0 messages edges by.2

pub returns-clause-quiet : goal.returns-clause-quiet
returns-clause-quiet c = λ line s state behind messages edges more m g later accepted run same.
    let by = link-run SpcState sim.Spc spc_next spc-sends (started line s) state messages edges run in
    let sent = link-sent SpcState sim.Spc spc_next spc-sends state behind by.0 m g more later by.1 same in
    (spc-call line s accepted.0 accepted.1 by.0 messages edges by.2 m g more sent.0 later sent.1).0

pub returns-clause-rise : goal.returns-clause-rise
returns-clause-rise c = λ line s state behind messages edges more m g later accepted run same.
    let by = link-run SpcState sim.Spc spc_next spc-sends (started line s) state messages edges run in
    let sent = link-sent SpcState sim.Spc spc_next spc-sends state behind by.0 m g more later by.1 same in
    (spc-call line s accepted.0 accepted.1 by.0 messages edges by.2 m g more sent.0 later sent.1).1

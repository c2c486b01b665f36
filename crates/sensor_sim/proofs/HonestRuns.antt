-- What a channel's simulator has sent is honest and orderly, by its link.
--     run-honest, run-orderly
use Rattle.std.proofs.Common.{◌≡◌, None, List, map, refl}
use Rattle.line_base.specs.declared.edge.Edge.{Edge}
use Rattle.line_base.specs.declared.edge.Item.TheVariants as item
use Rattle.line_base.specs.Orderly.{IsOrderly}
use Rattle.receiver_core.specs.declared.message.Message.{Message}
use Rattle.receiver_core.specs.declared.setup.ChannelSetup.{ChannelSetup}
use Rattle.receiver_core.specs.declared.setup.ChannelSetup.TheVariants.{Sent, Psi5, Spc, Tooth}
use Rattle.receiver_core.specs.Setups.{setup_fault_of}
use Rattle.receiver_core.specs.Traces.{IsHonest}
use Rattle.sim_base.specs.Runs.{HasRun}
use Rattle.sent_sim.specs.SentSims as sent
use Rattle.sent_sim.specs.SentStates.{SentState}
use Rattle.sent_sim.proofs.SentRuns as sent_runs
use Rattle.psi5_sim.specs.Psi5Sims as psi5
use Rattle.psi5_sim.specs.Psi5States.{Psi5State}
use Rattle.psi5_sim.proofs.Psi5Runs as psi5_runs
use Rattle.spc_sim.specs.SpcSims as spc
use Rattle.spc_sim.specs.SpcStates.{SpcState}
use Rattle.spc_sim.proofs.SpcRuns as spc_runs
use Rattle.psi5_downlink_sim.specs.ToothSims as tooth
use Rattle.psi5_downlink_sim.specs.ToothStates.{ToothState}
use Rattle.psi5_downlink_sim.proofs.ToothRuns as tooth_runs
use Rattle.sensor_sim.specs.declared.sim.Sim.TheVariants as sim
use Rattle.sensor_sim.specs.Sims.{IsAccepted, SimState, lines_of, sim_next, started_by}
use Rattle.sensor_sim.proofs.LinkRuns.{LinkSends, link-run}

-- ---- by which link a channel sends
pub sent-sends : LinkSends SentState sim.Sent sent.sent_next
unfolding sim_next
sent-sends state m g = refl

pub psi5-sends : LinkSends Psi5State sim.Psi5 psi5.psi5_next
unfolding sim_next
psi5-sends state m g = refl

pub spc-sends : LinkSends SpcState sim.Spc spc.spc_next
unfolding sim_next
spc-sends state m g = refl

pub tooth-sends : LinkSends ToothState sim.Tooth tooth.tooth_next
unfolding sim_next
tooth-sends state m g = refl

-- ---- so its edges are honest and orderly
pub run-honest : (setup : ChannelSetup) (state : SimState) (messages : List Message) (edges : List Edge) → IsAccepted setup → setup_fault_of setup ≡ None → HasRun SimState sim_next (started_by setup) state messages edges → IsHonest setup messages edges
run-honest (Sent line s layout serial) state messages edges accepted no_fault run =
    let by = link-run SentState sim.Sent sent.sent_next sent-sends (sent.started line s serial) state messages edges run in
    sent_runs.run-honest line s serial by.0 messages edges accepted by.2
run-honest (Psi5 line s slots init) state messages edges accepted no_fault run =
    let by = link-run Psi5State sim.Psi5 psi5.psi5_next psi5-sends (psi5.started line s slots) state messages edges run in
    psi5_runs.run-honest line s slots init by.0 messages edges accepted.0 accepted.1 no_fault by.2
run-honest (Spc line s) state messages edges accepted no_fault run =
    let by = link-run SpcState sim.Spc spc.spc_next spc-sends (spc.started line s) state messages edges run in
    spc_runs.run-honest line s by.0 messages edges accepted.0 accepted.1 by.2
run-honest (Tooth line s) state messages edges accepted no_fault run =
    let by = link-run ToothState sim.Tooth tooth.tooth_next tooth-sends (tooth.started line s) state messages edges run in
    tooth_runs.run-honest line s by.0 messages edges accepted by.2

pub run-orderly : (setup : ChannelSetup) (state : SimState) (messages : List Message) (edges : List Edge) → IsAccepted setup → setup_fault_of setup ≡ None → HasRun SimState sim_next (started_by setup) state messages edges → IsOrderly (lines_of setup) (map item.Edge edges)
run-orderly (Sent line s layout serial) state messages edges accepted no_fault run =
    let by = link-run SentState sim.Sent sent.sent_next sent-sends (sent.started line s serial) state messages edges run in
    sent_runs.run-orderly line s serial by.0 messages edges accepted by.2
run-orderly (Psi5 line s slots init) state messages edges accepted no_fault run =
    let by = link-run Psi5State sim.Psi5 psi5.psi5_next psi5-sends (psi5.started line s slots) state messages edges run in
    psi5_runs.run-orderly line s slots init by.0 messages edges accepted.0 accepted.1 no_fault by.2
run-orderly (Spc line s) state messages edges accepted no_fault run =
    let by = link-run SpcState sim.Spc spc.spc_next spc-sends (spc.started line s) state messages edges run in
    spc_runs.run-orderly line s by.0 messages edges accepted.0 accepted.1 by.2
run-orderly (Tooth line s) state messages edges accepted no_fault run =
    let by = link-run ToothState sim.Tooth tooth.tooth_next tooth-sends (tooth.started line s) state messages edges run in
    tooth_runs.run-orderly line s by.0 messages edges accepted by.2

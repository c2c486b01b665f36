-- A script's bursts are all heard.
--     run-said         all bursts that a simulator has sent are told
--     script-heard     and so those of a script
use Rattle.std.proofs.Common.{◌≡◌, ℕ, Option, None, Some, List, [], map, flat_map, refl, sym, subst, inl, inr}
use Rattle.rand_pcg.specs.Lcg.{Lcg}
use Rattle.line_base.specs.declared.edge.Edge.{Edge}
use Rattle.line_base.specs.Edges.{NumberedEdge}
use Rattle.psi5_frame.specs.Setup.{Settings, fault_of}
use Rattle.psi5_tolerance.specs.Lines.{SyncWindows}
use Rattle.psi5_tolerance.specs.FromFirst.{HeardFrame, bursts_in, from_first as frames_heard, heard_from, heard_of, said}
use Rattle.receiver_core.specs.declared.message.Message.{Message}
use Rattle.receiver_core.specs.declared.setup.ChannelSetup.TheVariants.{Psi5}
use Rattle.receiver_core.specs.declared.setup.SyncSlots.{SyncSlots}
use Rattle.receiver_core.specs.Psi5Reports.{burst_reports}
use Rattle.receiver_core.specs.Psi5Traces.{psi5_message_in, told_frame, windows_of}
use Rattle.receiver_core.specs.Setups.{setup_fault_of}
use Rattle.receiver_core.specs.Traces.{numbered}
use Rattle.sim_base.specs.Runs.{HasRun}
use Rattle.psi5_sim.specs.Psi5Sims as psi5
use Rattle.psi5_sim.specs.Psi5States.{AreAccepted, Psi5State}
use Rattle.psi5_sim.proofs.Psi5Runs.{run-honest}
use Rattle.psi5_sim.proofs.Psi5Setups.{channel-accepted}
use Rattle.sensor_sim.specs.declared.sim.Sim.TheVariants as sim
use Rattle.sensor_sim.specs.Sims.{IsAccepted, SimState, sim_next, started_by}
use Rattle.sensor_sim.proofs.HonestRuns.{psi5-sends}
use Rattle.sensor_sim.proofs.LinkRuns.{link-run}
use Rattle.sensor_script.specs.Scripts.{script_from}
use Rattle.scripts_heard.specs.AllGood.{AllGood}
use Rattle.sensor_script.specs.Counted.{counted_of, first_messages, script_messages}
use Rattle.scripts_heard.specs.Heard.{AreHeard}
use Rattle.scripts_heard.proofs.FirstEdges.{HasBegun, run-begins}
use Rattle.scripts_heard.proofs.ToldBursts.{channel-said}
use Rattle.scripts_heard.proofs.SlotReports.{read-channel}
use Rattle.scripts_heard.proofs.ScriptBursts.{BusHolds, FreeHolds, bus-goes, free-goes, no-codes, script-good, some-windows}

-- of no message no frame is heard
none-said : (s : Settings) (sync : Option SyncWindows) (edges : List NumberedEdge) → map said (frames_heard s sync [] edges) ≡ []
unfolding heard_of heard_from
none-said s sync edges = refl

module _ (line : ℕ) (s : Settings) (slots : Option SyncSlots) (init : Option ℕ) (accepted : fault_of s.bit s.parts s.jitter ≡ None) (slots_accepted : AreAccepted slots) (no_fault : setup_fault_of (Psi5 line s slots init) ≡ None) where
  -- all bursts of these messages are told of these edges
  abbrev AreSaid : List Message → List Edge → Type 0
  AreSaid messages edges = map said (frames_heard s (windows_of slots) (flat_map psi5_message_in messages) (numbered 0 edges)) ≡ bursts_in (flat_map psi5_message_in messages)

  -- by whether something was sent
  begun-said : (state : Psi5State) (messages : List Message) (edges : List Edge) → HasRun Psi5State psi5.psi5_next (psi5.started line s slots) state messages edges → HasBegun line s slots state messages edges → AreSaid messages edges
  begun-said state messages edges run (inl none) = subst (λ (l : List Message). AreSaid l edges) (sym none.1) (none-said s (windows_of slots) (numbered 0 edges))
  begun-said state messages edges run (inr begins) =
      channel-said line s slots messages edges (run-honest line s slots init state messages edges accepted slots_accepted no_fault run) (channel-accepted line s slots init slots_accepted no_fault).1 begins

  -- all bursts that a simulator has sent are told
  pub run-said : (state : SimState) (messages : List Message) (edges : List Edge) → HasRun SimState sim_next (started_by (Psi5 line s slots init)) state messages edges → AreSaid messages edges
  run-said state messages edges run =
      let by = link-run Psi5State sim.Psi5 psi5.psi5_next psi5-sends (psi5.started line s slots) state messages edges run in
      begun-said by.0 messages edges by.2 (run-begins line s slots accepted by.0 messages edges by.2)

-- a script's bursts are good, wherever they are told
script-reports : (line : ℕ) (s : Settings) (slots : Option SyncSlots) (init : Option ℕ) → AreAccepted slots → setup_fault_of (Psi5 line s slots init) ≡ None → (first : Lcg) (count : ℕ) (frames : List HeardFrame)
    → map said frames ≡ bursts_in (flat_map psi5_message_in (script_messages (script_from (Psi5 line s slots init) first) count))
    → AllGood (burst_reports s init [] (map told_frame frames)) (counted_of (script_messages (script_from (Psi5 line s slots init) first) count))
script-reports line s None init slots_accepted no_fault first count frames says =
    let read = read-channel line s None init no_fault in
    script-good s init read (FreeHolds line s init) (free-goes line s init read) count (script_from (Psi5 line s None init) first) [] frames (record { setup_is = refl; follows = no-codes init 0 }) says
script-reports line s (Some slots) init slots_accepted no_fault first count frames says =
    let read = read-channel line s (Some slots) init no_fault in
    let some = some-windows s slots.setup.windows (channel-accepted line s (Some slots) init slots_accepted no_fault).0 in
    script-good s init read (BusHolds line s slots init) (bus-goes line s slots init read some) count (script_from (Psi5 line s (Some slots) init) first) [] frames (record { setup_is = refl; stands = λ number below. no-codes init number }) says

-- the messages of a script are all heard
pub script-heard : (line : ℕ) (s : Settings) (slots : Option SyncSlots) (init : Option ℕ) → IsAccepted (Psi5 line s slots init) → setup_fault_of (Psi5 line s slots init) ≡ None → AreHeard (Psi5 line s slots init)
script-heard line s slots init accepted no_fault first count state edges run =
    let messages = first_messages (Psi5 line s slots init) first count in
    script-reports line s slots init accepted.1 no_fault first count (frames_heard s (windows_of slots) (flat_map psi5_message_in messages) (numbered 0 edges)) (run-said line s slots init accepted.0 accepted.1 no_fault state messages edges run)

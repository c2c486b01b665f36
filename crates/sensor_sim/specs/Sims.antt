-- What becomes of a message that a channel's simulator is handed: what its link makes of it; this project's own.
use Rattle.std.specs.Prelude.{◌≡◌, ℕ, None, List, [], ◌∷◌}
use Rattle.rand_pcg.specs.Lcg.{Lcg}
use Rattle.sent_frame.specs.Setup as frame
use Rattle.spc_link.specs.Setup as spc_link
use Rattle.psi5_frame.specs.Setup as psi5_frame
use Rattle.psi5_downlink.specs.Setup as downlink
use Rattle.receiver_core.specs.declared.message.Message.{Message}
use Rattle.receiver_core.specs.declared.setup.ChannelSetup.{ChannelSetup}
use Rattle.receiver_core.specs.declared.setup.ChannelSetup.TheVariants.{Sent as SentSetup, Psi5 as Psi5Setup, Spc as SpcSetup, Tooth as ToothSetup}
use Rattle.sim_base.specs.Outcomes.{Outcome, Sent, Refused}
use Rattle.sent_sim.specs.SentSims as sent
use Rattle.psi5_sim.specs.Psi5Sims as psi5
use Rattle.psi5_sim.specs.Psi5States as psi5_states
use Rattle.spc_sim.specs.SpcSims as spc
use Rattle.psi5_downlink_sim.specs.ToothSims as tooth
use Rattle.sensor_sim.specs.declared.sim.Sim.{Sim}
use Rattle.sensor_sim.specs.declared.sim.Sim.TheVariants as sim

-- what a channel's simulator has come to, by its link
abbrev pub SimState : Type 0
SimState = Sim

-- a simulator of this setup that has sent nothing
abbrev pub started_by : ChannelSetup → SimState
started_by (SentSetup line s layout serial) = sim.Sent (sent.started line s serial)
started_by (Psi5Setup line s slots init) = sim.Psi5 (psi5.started line s slots)
started_by (SpcSetup line s) = sim.Spc (spc.started line s)
started_by (ToothSetup line s) = sim.Tooth (tooth.started line s)

-- what becomes of a message by a link is what becomes of it, with the link's simulator as the channel's
abbrev pub outcome_by : {A : Type 0} → (A → SimState) → Outcome A → Outcome SimState
outcome_by link (Sent edges state g) = Sent edges (link state) g
outcome_by link (Refused fault state g) = Refused fault (link state) g

-- what becomes of a message: what the link makes of it
unfoldable pub sim_next : SimState → Message → Lcg → Outcome SimState
sim_next (sim.Sent state) m g = outcome_by sim.Sent (sent.sent_next state m g)
sim_next (sim.Psi5 state) m g = outcome_by sim.Psi5 (psi5.psi5_next state m g)
sim_next (sim.Spc state) m g = outcome_by sim.Spc (spc.spc_next state m g)
sim_next (sim.Tooth state) m g = outcome_by sim.Tooth (tooth.tooth_next state m g)

-- the lines of a channel
abbrev pub lines_of : ChannelSetup → List ℕ
lines_of (SentSetup line s layout serial) = line ∷ []
lines_of (Psi5Setup line s slots init) = psi5_states.lines_of line slots
lines_of (SpcSetup line s) = line ∷ []
lines_of (ToothSetup line s) = line ∷ []

-- the link of a channel is set up with what is accepted
abbrev pub IsAccepted : ChannelSetup → Type 0
IsAccepted (SentSetup line s layout serial) = frame.fault_of s.tick s.jitter s.nibbles ≡ None
IsAccepted (Psi5Setup line s slots init) = (psi5_frame.fault_of s.bit s.parts s.jitter ≡ None) × psi5_states.AreAccepted slots
IsAccepted (SpcSetup line s) = (spc_link.fault_of s.sent s.windows s.delay s.quiet ≡ None) × (frame.fault_of s.sent.tick s.sent.jitter s.sent.nibbles ≡ None)
IsAccepted (ToothSetup line s) = downlink.fault_of s.period s.jitter ≡ None

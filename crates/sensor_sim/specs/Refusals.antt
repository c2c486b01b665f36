-- What a message leaves that is refused; this project's own.
use Rattle.std.specs.Prelude.{◌≡◌}
use Rattle.rand_pcg.specs.Lcg.{Lcg}
use Rattle.receiver_core.specs.declared.message.Message.{Message}
use Rattle.receiver_core.specs.declared.message.Message.TheVariants as message
use Rattle.sim_base.specs.declared.sim_fault.SimFault.{SimFault}
use Rattle.sim_base.specs.declared.sim_fault.SimFault.TheVariants as fault
use Rattle.sim_base.specs.Outcomes.{Outcome, Sent, Refused}
use Rattle.sim_base.specs.Wobbles.{behind_word}
use Rattle.sent_sim.specs.SentSims.{past_frame}
use Rattle.sent_sim.specs.SentStates.{SentState}
use Rattle.spc_sim.specs.SpcSims.{past_answer, past_trigger}
use Rattle.spc_sim.specs.SpcStates.{SpcState}
use Rattle.psi5_downlink_sim.specs.ToothSims.{past_words}
use Rattle.sensor_sim.specs.Sims.{SimState}
use Rattle.sensor_sim.specs.declared.sim.Sim.TheVariants as sim

-- the generator behind the words of a SENT message other than those of its timed edges: those of a frame
abbrev pub past_sent : SentState → Message → Lcg → Lcg
past_sent state (message.Frame frame) g = past_frame state.setup g
past_sent state other g = g

-- the same of PSI5: two words of a burst, for its half-bit and its start
abbrev pub past_psi5 : Message → Lcg → Lcg
past_psi5 (message.Burst slot payload) g = behind_word (behind_word g)
past_psi5 other g = g

-- the same of SPC: those of a trigger, and of its answer
abbrev pub past_spc : SpcState → Message → Lcg → Lcg
past_spc state (message.Answer code frame) g = past_answer state.setup (past_trigger g)
past_spc state (message.Silent code) g = past_trigger g
past_spc state other g = g

-- the same of the tooth gap: those of a period and a gap
abbrev pub past_tooth : Message → Lcg → Lcg
past_tooth (message.Down down) g = past_words g
past_tooth other g = g

-- the generator behind the words of a message other than those of its timed edges
abbrev pub past_own_words : SimState → Message → Lcg → Lcg
past_own_words (sim.Sent state) m g = past_sent state m g
past_own_words (sim.Psi5 state) m g = past_psi5 m g
past_own_words (sim.Spc state) m g = past_spc state m g
past_own_words (sim.Tooth state) m g = past_tooth m g

-- a message that is refused for this draws no word, but one that comes too late draws those words
abbrev pub HasDrawn : SimFault → Lcg → Lcg → Lcg → Type 0
HasDrawn fault.Kind g own later = later ≡ g
HasDrawn fault.Range g own later = later ≡ g
HasDrawn fault.Order g own later = later ≡ g
HasDrawn fault.Late g own later = later ≡ own

-- where a message is refused, the simulator is as it was, and such words are drawn
abbrev pub ChangesNothing : {A : Type 0} → A → Lcg → Lcg → Outcome A → Type 0
ChangesNothing state g own (Sent edges behind later) = Unit {0}
ChangesNothing state g own (Refused fault behind later) = (behind ≡ state) × HasDrawn fault g own later

-- By the channel's link.
use Rattle.receiver_core.specs.declared.message.Message.{Message}
use Rattle.rand_pcg.specs.Lcg.{Lcg}
use Rattle.sent_sim.specs.SentSims as sent
use Rattle.psi5_sim.specs.Psi5Sims as psi5
use Rattle.spc_sim.specs.SpcSims as spc
use Rattle.psi5_downlink_sim.specs.ToothSims as tooth
use Rattle.sensor_sim.specs.declared.sim.Sim.TheVariants as sim
use Rattle.sensor_sim.specs.Sims.{SimState, sim_next}
use Rattle.sensor_sim.specs.Refusals.{ChangesNothing, past_own_words, past_psi5, past_sent, past_spc, past_tooth}
use Rattle.sensor_sim.proofs.RefusedMessages.{changes-by, changes-psi5, changes-sent, changes-spc, changes-tooth}
use Rattle.sensor_sim.proofs.refusals.refused_messages_change_nothing.Goals as goal

changes : (state : SimState) (m : Message) (g : Lcg) → ChangesNothing state g (past_own_words state m g) (sim_next state m g)
unfolding sim_next
changes (sim.Sent state) m g = changes-by sim.Sent state g (past_sent state m g) (sent.sent_next state m g) (changes-sent state m g)
changes (sim.Psi5 state) m g = changes-by sim.Psi5 state g (past_psi5 m g) (psi5.psi5_next state m g) (changes-psi5 state m g)
changes (sim.Spc state) m g = changes-by sim.Spc state g (past_spc state m g) (spc.spc_next state m g) (changes-spc state m g)
changes (sim.Tooth state) m g = changes-by sim.Tooth state g (past_tooth m g) (tooth.tooth_next state m g) (changes-tooth state m g)

pub returns : goal.returns
returns c = changes

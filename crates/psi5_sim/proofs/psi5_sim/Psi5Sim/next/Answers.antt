-- Each message by what it is.
use Rattle.std.proofs.Common.{◌∙◌}
use Rattle.psi5_sim.proofs.Psi5Outcomes.{burst-is, refuses-other, sync-is}
use Rattle.psi5_sim.proofs.psi5_sim.Psi5Sim.next.Goals as goal

pub returns-in-Sync : goal.returns-in-Sync
returns-in-Sync c = c.sync_pulse.ensures ∙ sync-is c.args.self.now c.args.wobble.now c.args.message.now c.in-Sync.is

pub returns-in-Burst : goal.returns-in-Burst
returns-in-Burst c = c.burst.ensures ∙ burst-is c.args.self.now c.args.wobble.now c.args.message.now c.in-Burst.slot c.in-Burst.payload c.in-Burst.is

pub returns-in_default : goal.returns-in_default
returns-in_default c = refuses-other c.args.self.now c.args.wobble.now c.args.message.now c.in_default.not-Sync c.in_default.not-Burst

-- The start is that of the definition.
use Rattle.std.proofs.Common.{◌-◌, ap, ap₂, ◌∙◌}
use Rattle.sim_base.specs.Wobbles.{word}
use Rattle.psi5_slots.specs.Meanings.{window_at}
use Rattle.psi5_sim.specs.Psi5Sims.{rise_in, start_of}
use Rattle.psi5_sim.specs.Psi5States.{Psi5State}
use Rattle.psi5_sim.proofs.Psi5Outcomes.{start-answers, start-free}
use Rattle.psi5_sim.proofs.psi5_sim.Psi5Sim.start.Goals as goal

pub returns-in-None-clause-value : goal.returns-in-None-clause-value
returns-in-None-clause-value c =
    c.free_start.ensures.value
    ∙ start-free c.self.inside.setup c.self.inside.slots (record { frame_end = c.self.inside.frame_end; sync = c.self.inside.sync; slot = c.self.inside.slot }) c.args.slot c.args.half (word c.args.wobble.now) c.in-None.is
    ∙ ap (λ (s : Psi5State). start_of s.setup s.slots s.before c.args.slot c.args.half (word c.args.wobble.now)) c.self.view_is

pub returns-in-Some-clause-value : goal.returns-in-Some-clause-value
returns-in-Some-clause-value c =
    ap (λ n. n - c.args.half) (c.draw_rise.ensures.value
    ∙ ap₂ (λ n t. rise_in c.self.inside.setup.jitter (window_at c.in-Some.slots.setup.windows n) t (word c.args.wobble.now)) c.unwrap_or-slot.ensures c.unwrap_or-sync.ensures)
    ∙ start-answers c.self.inside.setup c.self.inside.slots c.in-Some.slots (record { frame_end = c.self.inside.frame_end; sync = c.self.inside.sync; slot = c.self.inside.slot }) c.args.slot c.args.half (word c.args.wobble.now) c.in-Some.is
    ∙ ap (λ (s : Psi5State). start_of s.setup s.slots s.before c.args.slot c.args.half (word c.args.wobble.now)) c.self.view_is

-- Each message by what it is.
use Rattle.std.proofs.Common.{ap, sym, ◌∙◌}
use Rattle.psi5_downlink_sim.specs.ToothSims.{fits_down}
use Rattle.psi5_downlink_sim.specs.ToothStates.{ToothState}
use Rattle.psi5_downlink_sim.proofs.ToothOutcomes.{refuses-down, refuses-other, sends-down}
use Rattle.psi5_downlink_sim.proofs.tooth_sim.ToothSim.next.Goals as goal

pub returns-then-not-fits_down : goal.returns-then-not-fits_down
returns-then-not-fits_down c =
    let tested = c.fits_down.ensures ∙ ap (λ f. fits_down f c.in-Down.down) (c.form.ensures.value ∙ ap (λ (s : ToothState). s.setup.form) c.self.view_is) in
    refuses-down c.args.self.now c.args.wobble.now c.args.message.now c.in-Down.down c.in-Down.is (sym tested ∙ c.if-not-fits_down.true)

pub returns-else-not-fits_down : goal.returns-else-not-fits_down
returns-else-not-fits_down c =
    let tested = c.fits_down.ensures ∙ ap (λ f. fits_down f c.in-Down.down) (c.form.ensures.value ∙ ap (λ (s : ToothState). s.setup.form) c.self.view_is) in
    c.send.ensures ∙ sends-down c.args.self.now c.args.wobble.now c.args.message.now c.in-Down.down c.in-Down.is (sym tested ∙ c.if-not-fits_down.false)

pub returns-in_default : goal.returns-in_default
returns-in_default c = refuses-other c.args.self.now c.args.wobble.now c.args.message.now c.in_default.not-Down

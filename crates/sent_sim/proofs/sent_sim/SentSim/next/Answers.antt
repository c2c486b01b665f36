-- Each message by what it is.
use Rattle.std.proofs.Common.{◌≡◌, ap, subst, sym, ◌∙◌}
use Rattle.sent_serial.specs.SentStatuses.{statuses_sent}
use Rattle.sim_base.specs.declared.sim_fault.SimFault.TheVariants as fault
use Rattle.sim_base.specs.Outcomes.{Refused}
use Rattle.sent_sim.specs.SentSims.{are_enhanced, are_short, fits_frame, sent_next}
use Rattle.sent_sim.proofs.SentOutcomes.{begins-enhanced, begins-short, refuses-enhanced, refuses-frame, refuses-id, refuses-other, refuses-short, refuses-values, sends-frame}
use Rattle.sent_sim.proofs.sent_sim.SentSim.next.Goals as goal

pub returns-then-not-fits_frame : goal.returns-then-not-fits_frame
returns-then-not-fits_frame c =
    subst (λ s. Refused fault.Range s c.args.wobble.now ≡ sent_next s c.args.message.now c.args.wobble.now) c.self.view_is
    (refuses-frame _ c.args.wobble.now c.args.message.now c.in-Frame.frame c.in-Frame.is (sym c.fits_frame.ensures ∙ c.if-not-fits_frame.true))

pub returns-then-not-are_short : goal.returns-then-not-are_short
returns-then-not-are_short c =
    subst (λ s. Refused fault.Kind s c.args.wobble.now ≡ sent_next s c.args.message.now c.args.wobble.now) c.self-in-Short.view_is
    (refuses-short _ c.args.wobble.now c.args.message.now c.in-Short.id c.in-Short.value c.in-Short.is (sym c.are_short.ensures ∙ c.if-not-are_short.true))

pub returns-then-not-fits_short : goal.returns-then-not-fits_short
returns-then-not-fits_short c =
    subst (λ s. Refused fault.Range s c.args.wobble.now ≡ sent_next s c.args.message.now c.args.wobble.now) c.self-in-Short.view_is
    (refuses-id _ c.args.wobble.now c.args.message.now c.in-Short.id c.in-Short.value c.in-Short.is (sym c.are_short.ensures ∙ c.if-not-are_short.false) (sym c.fits_short.ensures ∙ c.if-not-fits_short.true))

pub returns-then-not-are_enhanced : goal.returns-then-not-are_enhanced
returns-then-not-are_enhanced c =
    subst (λ s. Refused fault.Kind s c.args.wobble.now ≡ sent_next s c.args.message.now c.args.wobble.now) c.self-in-Enhanced.view_is
    (refuses-enhanced _ c.args.wobble.now c.args.message.now c.in-Enhanced.id c.in-Enhanced.value c.in-Enhanced.wide c.in-Enhanced.is (sym c.are_enhanced.ensures ∙ c.if-not-are_enhanced.true))

pub returns-then-not-fits_enhanced : goal.returns-then-not-fits_enhanced
returns-then-not-fits_enhanced c =
    subst (λ s. Refused fault.Range s c.args.wobble.now ≡ sent_next s c.args.message.now c.args.wobble.now) c.self-in-Enhanced.view_is
    (refuses-values _ c.args.wobble.now c.args.message.now c.in-Enhanced.id c.in-Enhanced.value c.in-Enhanced.wide c.in-Enhanced.is (sym c.are_enhanced.ensures ∙ c.if-not-are_enhanced.false)
    (sym c.fits_enhanced.ensures ∙ c.if-not-fits_enhanced.true))

pub returns-else-not-fits_frame : goal.returns-else-not-fits_frame
returns-else-not-fits_frame c =
    c.send.ensures ∙ sends-frame c.args.self.now c.args.wobble.now c.args.message.now c.in-Frame.frame c.in-Frame.is
    (ap (λ s. fits_frame s.setup s.serial c.in-Frame.frame) (sym c.self.view_is) ∙ sym c.fits_frame.ensures ∙ c.if-not-fits_frame.false)

pub returns-else-not-fits_short : goal.returns-else-not-fits_short
unfolding statuses_sent
returns-else-not-fits_short c =
    c.begin.ensures c.args.wobble.now
    ∙ begins-short c.args.self.now c.args.wobble.now c.args.message.now c.in-Short.id c.in-Short.value _ c.in-Short.is
    (ap (λ s. are_short s.serial) (sym c.self-in-Short.view_is) ∙ sym c.are_short.ensures ∙ c.if-not-are_short.false) (sym c.fits_short.ensures ∙ c.if-not-fits_short.false) c.short_bits.ensures.statuses

pub returns-else-not-fits_enhanced : goal.returns-else-not-fits_enhanced
unfolding statuses_sent
returns-else-not-fits_enhanced c =
    c.begin-in-Enhanced.ensures c.args.wobble.now
    ∙ begins-enhanced c.args.self.now c.args.wobble.now c.args.message.now c.in-Enhanced.id c.in-Enhanced.value c.in-Enhanced.wide _ c.in-Enhanced.is
    (ap (λ s. are_enhanced s.serial) (sym c.self-in-Enhanced.view_is) ∙ sym c.are_enhanced.ensures ∙ c.if-not-are_enhanced.false)
    (sym c.fits_enhanced.ensures ∙ c.if-not-fits_enhanced.false) c.enhanced_bits.ensures.statuses

pub returns-in_default : goal.returns-in_default
returns-in_default c = refuses-other c.args.self.now c.args.wobble.now c.args.message.now c.in_default.not-Frame c.in_default.not-Short c.in_default.not-Enhanced

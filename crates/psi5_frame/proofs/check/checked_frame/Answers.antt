-- The check is wrong, or right.
use Rattle.std.proofs.Common.{◌≡◌, sym, ◌∙◌, ap, take, drop}
use Rattle.psi5_frame.specs.Frames.{check_number, payload_of}
use Rattle.psi5_frame.specs.Setup.{payload_width}
use Rattle.psi5_frame.specs.declared.burst.Burst.TheVariants.{Good}
use Rattle.psi5_frame.proofs.Judged.{checked-bad, checked-good}
use Rattle.psi5_frame.proofs.check.checked_frame.Goals as goal

pub returns-then-high_number-check_of : goal.returns-then-high_number-check_of
returns-then-high_number-check_of c =
    let s = c.args.setup.now in
    let at : c.from.result ≡ payload_width s.parts = c.from.ensures ∙ c.payload_width.ensures.value in
    sym (checked-bad s c.args.place c.high_number.result c.check_of.result c.args.bits.now c.split_at.result.0.now c.split_at.result.1.now c.high_number.ensures.value
    (c.check_of.ensures.value ∙ ap (λ k. check_number k c.split_at.result.0.now) c.check.ensures.value)
    (c.split_at.ensures.front ∙ ap (λ n. take n c.args.bits.now) at) (c.split_at.ensures.back ∙ ap (λ n. drop n c.args.bits.now) at) c.if-high_number-check_of.true)

pub returns : goal.returns
returns c =
    let s = c.args.setup.now in
    let at : c.from.result ≡ payload_width s.parts = c.from.ensures ∙ c.payload_width.ensures.value in
    ap (Good c.args.place) (c.payload.ensures ∙ ap (λ p. payload_of p c.args.bits.now) c.parts.ensures.value)
    ∙ sym (checked-good s c.args.place c.high_number.result c.check_of.result c.args.bits.now c.split_at.result.0.now c.split_at.result.1.now c.high_number.ensures.value
    (c.check_of.ensures.value ∙ ap (λ k. check_number k c.split_at.result.0.now) c.check.ensures.value)
    (c.split_at.ensures.front ∙ ap (λ n. take n c.args.bits.now) at) (c.split_at.ensures.back ∙ ap (λ n. drop n c.args.bits.now) at) c.if-high_number-check_of.false)

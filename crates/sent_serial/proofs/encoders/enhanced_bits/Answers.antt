-- A wide message, and any other.
use Rattle.std.proofs.Common.{[], ◌∷◌, ◌+◌, ◌*◌, ◌/◌, ◌%◌, sym, ap, ap₂, ◌∙◌}
use Rattle.sent_serial.specs.declared.step.SerialStep.TheVariants.{Enhanced}
use Rattle.sent_serial.specs.SentStatuses.{enhanced_statuses}
use Rattle.sent_serial.proofs.EncodedStatuses.{narrow-encoded, wide-encoded}
use Rattle.sent_serial.proofs.SentMessages.{narrow-said, wide-said}
use Rattle.sent_serial.proofs.encoders.enhanced_bits.Goals as goal

pub returns-then-wide-clause-read_alone : goal.returns-then-wide-clause-read_alone
returns-then-wide-clause-read_alone c =
    wide-said c.message.result c.args.id c.args.value _ _ (rw c.if-wide.true at c.requires) c.ranges.value.fits
    (ap₂ (λ i v. 1024 + 64 * i + 2 * (v / 4096)) c.from-id.ensures c.from-value.ensures) (ap (λ v. v % 4096) c.from-value.ensures) c.message.ensures.message
    ∙ ap (λ wide. Enhanced c.args.id c.args.value wide ∷ []) (sym c.if-wide.true)

pub returns-else-wide-clause-read_alone : goal.returns-else-wide-clause-read_alone
returns-else-wide-clause-read_alone c =
    narrow-said c.message-else-wide.result c.args.id c.args.value _ _ c.ranges.id.fits (rw c.if-wide.false at c.requires)
    (ap (λ i. 64 * (i / 16) + 2 * (i % 16)) c.from-id.ensures) c.from-value.ensures c.message-else-wide.ensures.message
    ∙ ap (λ wide. Enhanced c.args.id c.args.value wide ∷ []) (sym c.if-wide.false)

pub returns-then-wide-clause-statuses : goal.returns-then-wide-clause-statuses
returns-then-wide-clause-statuses c =
    c.message.ensures.statuses
    ∙ wide-encoded c.args.id c.args.value _ _ (rw c.if-wide.true at c.requires) c.ranges.value.fits
    (ap₂ (λ i v. 1024 + 64 * i + 2 * (v / 4096)) c.from-id.ensures c.from-value.ensures) (ap (λ v. v % 4096) c.from-value.ensures)
    ∙ ap (enhanced_statuses c.args.id c.args.value) (sym c.if-wide.true)

pub returns-else-wide-clause-statuses : goal.returns-else-wide-clause-statuses
returns-else-wide-clause-statuses c =
    c.message-else-wide.ensures.statuses
    ∙ narrow-encoded c.args.id c.args.value _ _ c.ranges.id.fits (ap (λ i. 64 * (i / 16) + 2 * (i % 16)) c.from-id.ensures) c.from-value.ensures
    ∙ ap (enhanced_statuses c.args.id c.args.value) (sym c.if-wide.false)

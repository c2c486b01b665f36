-- The CRC is right, or wrong.
use Rattle.std.proofs.Common.{ap, ◌∙◌}
use Rattle.link_math.specs.Checks.{crc6_of}
use Rattle.sent_serial.proofs.EnhancedMessages.{message-bad, message-good}
use Rattle.sent_serial.proofs.enhanced.message_of.Goals as goal

pub returns-then-check-crc6 : goal.returns-then-check-crc6
returns-then-check-crc6 c = λ statuses has.
    message-good statuses c.args.values c.args.starts c.crc6.result c.content_of.result has (c.crc6.ensures.value ∙ ap crc6_of c.checked.ensures) c.if-check-crc6.true (c.content_of.ensures statuses has)

pub returns-else-check-crc6 : goal.returns-else-check-crc6
returns-else-check-crc6 c = λ statuses has.
    message-bad statuses c.args.values c.args.starts c.crc6.result has (c.crc6.ensures.value ∙ ap crc6_of c.checked.ensures) c.if-check-crc6.false

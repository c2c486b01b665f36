-- The CRC is right, or wrong.
use Rattle.sent_serial.proofs.ShortMessages.{message-bad, message-good}
use Rattle.sent_serial.proofs.short.message_of.Goals as goal

pub returns-then-check-check_of : goal.returns-then-check-check_of
returns-then-check-check_of c = message-good c.args.bits c.check_of.result c.ranges.bits.fits c.check_of.ensures.value c.if-check-check_of.true

pub returns-else-check-check_of : goal.returns-else-check-check_of
returns-else-check-check_of c = message-bad c.args.bits c.check_of.result c.ranges.bits.fits c.check_of.ensures.value c.if-check-check_of.false

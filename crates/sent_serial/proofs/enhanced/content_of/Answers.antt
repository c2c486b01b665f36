-- The form bit is set, or clear.
use Rattle.sent_serial.proofs.EnhancedMessages.{content-narrow, content-wide}
use Rattle.sent_serial.proofs.enhanced.content_of.Goals as goal

pub returns-then-wide : goal.returns-then-wide
returns-then-wide c = λ statuses has. content-wide statuses c.args.values c.args.starts c.from.result has c.from.ensures c.if-wide.true

pub returns-else-wide : goal.returns-else-wide
returns-else-wide c = λ statuses has. content-narrow statuses c.args.values c.args.starts has c.if-wide.false

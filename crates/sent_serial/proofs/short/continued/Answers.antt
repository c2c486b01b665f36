-- The sixteenth frame, or one before it.
use Rattle.sent_serial.proofs.ShortLeads.{lead-ends, lead-more}
use Rattle.sent_serial.proofs.short.continued.Goals as goal

pub returns-then-taken-eq-FRAMES-clause-leads : goal.returns-then-taken-eq-FRAMES-clause-leads
returns-then-taken-eq-FRAMES-clause-leads c =
    lead-ends c.args.taken c.args.bits c.args.status c.from.result c.has_value.result c.message_of.result c.if-taken-eq-FRAMES.true c.requires.clear c.from.ensures c.has_value.ensures c.message_of.ensures

pub returns-else-taken-eq-FRAMES-clause-leads : goal.returns-else-taken-eq-FRAMES-clause-leads
returns-else-taken-eq-FRAMES-clause-leads c =
    lead-more c.args.taken c.args.bits c.args.status c.from.result c.has_value.result c.requires.clear c.from.ensures c.has_value.ensures

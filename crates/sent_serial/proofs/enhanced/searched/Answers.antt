-- A run that grows, or ends.
use Rattle.std.proofs.Common.{sym, ◌∙◌}
use Rattle.sent_serial.proofs.EnhancedLeads.{lead-begun, lead-broken, lead-longer, lead-seven}
use Rattle.sent_serial.proofs.enhanced.searched.Goals as goal

pub returns-then-run-lt-RUN-clause-leads : goal.returns-then-run-lt-RUN-clause-leads
returns-then-run-lt-RUN-clause-leads c =
    lead-longer c.args.run c.args.bits c.args.status c.from.result c.has_value.result (sym c.has_start.ensures ∙ c.if-has_start.true) c.from.ensures c.has_value.ensures

pub returns-then-has_start-clause-leads : goal.returns-then-has_start-clause-leads
returns-then-has_start-clause-leads c =
    lead-seven c.args.run c.args.bits c.args.status c.from.result c.has_value.result c.if-run-lt-RUN.false c.requires.valid.few (sym c.has_start.ensures ∙ c.if-has_start.true) c.from.ensures c.has_value.ensures

pub returns-then-run-lt-RUN-2-clause-leads : goal.returns-then-run-lt-RUN-2-clause-leads
returns-then-run-lt-RUN-2-clause-leads c =
    lead-broken c.args.run c.args.bits c.args.status c.if-run-lt-RUN-2.true (sym c.has_start.ensures ∙ c.if-has_start.false)

pub returns-clause-leads : goal.returns-clause-leads
returns-clause-leads c =
    rw c.from-2.ensures (lead-begun c.args.run c.args.bits c.args.status c.from.result c.has_value.result c.if-run-lt-RUN-2.false c.requires.valid.few (sym c.has_start.ensures ∙ c.if-has_start.false) c.from.ensures c.has_value.ensures)

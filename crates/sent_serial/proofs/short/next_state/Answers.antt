-- A status outside a message, or one that begins a message anew.
use Rattle.std.proofs.Common.{sym, ◌∙◌}
use Rattle.sent_serial.proofs.ShortLeads.{lead-begun, lead-restart, lead-skipped}
use Rattle.sent_serial.proofs.short.next_state.Goals as goal

pub returns-in-Outside-clause-leads : goal.returns-in-Outside-clause-leads
returns-in-Outside-clause-leads c =
    rw c.in-Outside.is (lead-begun c.args.status c.from.result c.has_value.result (sym c.has_start-starts.ensures ∙ c.if-starts.true) c.from.ensures c.has_value.ensures)

pub returns-in-Outside-2-clause-leads : goal.returns-in-Outside-2-clause-leads
returns-in-Outside-2-clause-leads c = rw c.in-Outside.is (lead-skipped c.args.status (sym c.has_start-starts.ensures ∙ c.if-starts.false))

pub returns-in-Within-clause-leads : goal.returns-in-Within-clause-leads
returns-in-Within-clause-leads c =
    let valid = rw c.in-Within.is at c.requires.valid in
    rw c.in-Within.is (lead-restart c.in-Within.taken c.in-Within.bits c.args.status c.from.result c.has_value.result valid.few (sym c.has_start-starts.ensures ∙ c.if-starts-2.true) c.from.ensures c.has_value.ensures)

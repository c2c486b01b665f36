-- Frame 13, frame 18, or another.
use Rattle.std.proofs.Common.{sym, ◌∙◌}
use Rattle.sent_serial.proofs.EnhancedLeads.{clear_where, lead-13, lead-18, lead-more, lead-whole}
use Rattle.sent_serial.proofs.enhanced.continued.Goals as goal

pub returns-then-taken-eq-BEFORE_13-clause-leads : goal.returns-then-taken-eq-BEFORE_13-clause-leads
returns-then-taken-eq-BEFORE_13-clause-leads c =
    let set = sym c.has_start-start.ensures ∙ c.if-start.true in
    lead-13 c.args.taken c.args.values c.args.starts c.args.status c.begun.result c.if-taken-eq-BEFORE_13.true set (c.begun.ensures.agrees set)

pub returns-then-taken-eq-BEFORE_18-clause-leads : goal.returns-then-taken-eq-BEFORE_18-clause-leads
returns-then-taken-eq-BEFORE_18-clause-leads c =
    let set = sym c.has_start-start.ensures ∙ c.if-start-2.true in
    lead-18 c.args.taken c.args.values c.args.starts c.args.status c.begun-then-taken-eq-BEFORE_18.result c.if-taken-eq-BEFORE_18.true set (c.begun-then-taken-eq-BEFORE_18.ensures.agrees set)

pub returns-then-taken-eq-BEFORE_18-2-clause-leads : goal.returns-then-taken-eq-BEFORE_18-2-clause-leads
returns-then-taken-eq-BEFORE_18-2-clause-leads c =
    let clear = clear_where c.args.taken 17 c.has_start-start.result _ c.else-start-2.either c.has_start-start.ensures c.if-taken-eq-BEFORE_18-2.true in
    lead-whole c.args.taken c.args.values c.args.starts c.args.status c.from.result c.from-2.result c.has_value.result c.has_start-start.result c.message_of.result c.if-taken-eq-BEFORE_18-2.true clear
    c.from.ensures c.has_value.ensures c.from-2.ensures c.has_start-start.ensures c.message_of.ensures

pub returns-clause-leads : goal.returns-clause-leads
returns-clause-leads c =
    lead-more c.args.taken c.args.values c.args.starts c.args.status c.from.result c.from-2.result c.has_value.result c.has_start-start.result c.requires.valid.some
    (clear_where c.args.taken 12 c.has_start-start.result _ c.else-start.either c.has_start-start.ensures)
    c.from.ensures c.has_value.ensures c.from-2.ensures c.has_start-start.ensures

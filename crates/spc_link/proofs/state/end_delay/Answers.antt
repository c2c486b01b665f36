-- The next trigger, the answer, or neither.
use Rattle.std.proofs.Common.{sym, ap, ◌∙◌}
use Rattle.spc_link.specs.Reading.{lasts}
use Rattle.spc_link.proofs.EdgeLeads.{lead-answer, lead-late, lead-silent}
use Rattle.spc_link.proofs.state.end_delay.Goals as goal

pub returns-then-is_after_quiet-clause-leads : goal.returns-then-is_after_quiet-clause-leads
returns-then-is_after_quiet-clause-leads c =
    lead-silent c.args.setup.now c.args.place c.args.rise c.args.code (record { number = c.args.number; edge = c.args.edge }) (sym c.is_after_quiet.ensures ∙ c.if-is_after_quiet.true)

pub returns-then-is_in_delay-clause-leads : goal.returns-then-is_in_delay-clause-leads
returns-then-is_in_delay-clause-leads c =
    let s = c.args.setup.now in
    lead-answer s c.args.place c.args.rise c.args.code (record { number = c.args.number; edge = c.args.edge }) (sym c.is_after_quiet.ensures ∙ c.if-is_after_quiet.false)
    (ap (lasts s.sent.tick s.delay) (sym c.saturating_sub.ensures) ∙ sym c.is_in_delay.ensures ∙ c.if-is_in_delay.true)

pub returns-clause-leads : goal.returns-clause-leads
returns-clause-leads c =
    let s = c.args.setup.now in
    lead-late s c.args.place c.args.rise c.args.code (record { number = c.args.number; edge = c.args.edge }) (sym c.is_after_quiet.ensures ∙ c.if-is_after_quiet.false)
    (ap (lasts s.sent.tick s.delay) (sym c.saturating_sub.ensures) ∙ sym c.is_in_delay.ensures ∙ c.if-is_in_delay.false)

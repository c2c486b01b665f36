-- A trigger's width is in a window, or in none.
use Rattle.std.proofs.Common.{sym, ap, ◌∙◌}
use Rattle.spc_link.specs.Reading.{code_of}
use Rattle.spc_link.proofs.EdgeLeads.{lead-code, lead-width}
use Rattle.spc_link.proofs.state.end_trigger.Goals as goal

pub returns-in-Some-clause-leads : goal.returns-in-Some-clause-leads
returns-in-Some-clause-leads c =
    lead-code c.args.setup.now c.args.fall c.in-Some.code (record { number = c.args.number; edge = c.args.edge }) (ap (code_of c.args.setup.now) (sym c.saturating_sub.ensures) ∙ sym c.code_of.ensures ∙ c.in-Some.is)

pub returns-in-None-clause-leads : goal.returns-in-None-clause-leads
returns-in-None-clause-leads c =
    lead-width c.args.setup.now c.args.fall (record { number = c.args.number; edge = c.args.edge }) (ap (code_of c.args.setup.now) (sym c.saturating_sub.ensures) ∙ sym c.code_of.ensures ∙ c.in-None.is)

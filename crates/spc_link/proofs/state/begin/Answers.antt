-- A fall after quiet, or another edge.
use Rattle.std.proofs.Common.{sym, ap, ◌∙◌}
use Rattle.spc_link.specs.Reading.{is_after_quiet}
use Rattle.spc_link.proofs.EdgeLeads.{begin-idle, begin-low}
use Rattle.spc_link.proofs.state.begin.Goals as goal

pub returns-then-is_after_quiet-clause-leads : goal.returns-then-is_after_quiet-clause-leads
returns-then-is_after_quiet-clause-leads c = λ last number there.
    begin-low c.args.setup.now last (record { number = number; edge = c.args.edge })
    (ap (λ t. is_after_quiet c.args.setup.now t c.args.edge) there ∙ sym c.is_after_quiet.ensures ∙ c.if-is_after_quiet.true)

pub returns-else-is_after_quiet-clause-leads : goal.returns-else-is_after_quiet-clause-leads
returns-else-is_after_quiet-clause-leads c = λ last number there.
    begin-idle c.args.setup.now last (record { number = number; edge = c.args.edge })
    (ap (λ t. is_after_quiet c.args.setup.now t c.args.edge) there ∙ sym c.is_after_quiet.ensures ∙ c.if-is_after_quiet.false)

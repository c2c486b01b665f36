use Rattle.std.proofs.Common.{sym, ◌∙◌}
use Rattle.std.proofs.lemmas.Bool.{eqb-true, eqb-false}
use Rattle.line_base.proofs.Numbers.{number_none, number_some}
use Rattle.line_base.proofs.text.number_of.Goals as goal

pub returns-then-is_empty-clause-value : goal.returns-then-is_empty-clause-value
returns-then-is_empty-clause-value c = number_none c.args.field.now (eqb-true _ _ (sym c.if-is_empty.ensures))

pub returns-clause-value : goal.returns-clause-value
returns-clause-value c = c.digits_after.ensures.value ∙ number_some c.args.field.now (eqb-false _ _ (sym c.if-is_empty.ensures))

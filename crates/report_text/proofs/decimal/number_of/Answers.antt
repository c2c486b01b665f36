use Rattle.std.proofs.Common.{sym, ◌∙◌}
use Rattle.report_text.proofs.Decimals.{value_ranged}
use Rattle.report_text.proofs.decimal.number_of.Goals as goal

pub returns : goal.returns
returns c = c.ok_or-2.ensures.value ∙ value_ranged c.args.field.now c.in_ok-ok_or.field-0 _ (sym c.in_ok-ok_or.ensures.ok_part ∙ c.number_of.ensures.value) (sym c.has_leading_zero.ensures ∙ c.if-has_leading_zero.false) c.value_of.ensures

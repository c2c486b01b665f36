use Rattle.std.proofs.Common.{sym, ◌∙◌}
use Rattle.message_lines.proofs.Decimals.{no_decimal, leading_zero, small_read}
use Rattle.message_lines.proofs.fields.small_of.Goals as goal

pub returns-then-has_leading_zero : goal.returns-then-has_leading_zero
returns-then-has_leading_zero c = leading_zero c.args.field.now c.in-Some.number c.in-Some.ensures.value (sym c.has_leading_zero.ensures ∙ c.if-has_leading_zero.true)

pub returns : goal.returns
returns c = small_read c.args.field.now c.in-Some.number _ c.in-Some.ensures.value (sym c.has_leading_zero.ensures ∙ c.if-has_leading_zero.false) c.min.ensures

pub returns-in_default : goal.returns-in_default
returns-in_default c = no_decimal c.args.field.now c.in_default.ensures.value

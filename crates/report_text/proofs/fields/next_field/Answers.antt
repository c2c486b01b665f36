use Rattle.std.proofs.Common.{sym}
use Rattle.std.proofs.lemmas.Bool.{eqb-true, eqb-false}
use Rattle.report_text.proofs.Cutting.{left_empty, left_field}
use Rattle.report_text.proofs.fields.next_field.Goals as goal

pub returns-then-is_empty : goal.returns-then-is_empty
returns-then-is_empty c = left_empty c.args.rest c.cut.result.1 c.in_ok-text.text _ c.in_ok-text.ensures.ok_part c.cut.ensures (eqb-true _ _ (sym c.if-is_empty.ensures))

pub returns : goal.returns
returns c = left_field c.args.rest c.cut.result.1 c.in_ok-text.text _ c.in_ok-text.ensures.ok_part c.cut.ensures (eqb-false _ _ (sym c.if-is_empty.ensures))

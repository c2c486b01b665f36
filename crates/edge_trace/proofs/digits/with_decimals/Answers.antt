use Rattle.std.proofs.Common.{Some, sym, ◌∙◌, arith}
use Rattle.std.proofs.lemmas.Bool.{eqb-true, eqb-false}
use Rattle.line_base.proofs.Numbers.{not_a_number, a_number, digits_none, digits_some}
use Rattle.edge_trace.proofs.Seconds.{no_whole, no_decimals, empty_decimals, long_decimals, both_parts}
use Rattle.edge_trace.proofs.digits.with_decimals.Goals as goal
use Rattle.edge_trace.proofs.digits.with_decimals.Goals.{then-is_empty-via-then-is_empty, then-is_empty-via-else-is_empty+then-decimals-gt9}

pub returns-then-is_empty : goal.returns-then-is_empty
returns-then-is_empty c = elim c.then-is_empty.branch [
  | then-is_empty-via-then-is_empty w ↦ empty_decimals c.args.whole.now c.args.decimals.now (eqb-true _ _ (sym w.if-is_empty.ensures))
  | then-is_empty-via-else-is_empty+then-decimals-gt9 w ↦ long_decimals c.args.whole.now c.args.decimals.now (omega arith)
]

pub returns-in_err-seconds : goal.returns-in_err-seconds
returns-in_err-seconds c = c.from_residual.ensures ∙ no_whole c.args.whole.now (Some c.args.decimals.now) (not_a_number _ c.in_err-seconds.ensures.value)

pub returns-in_err-number : goal.returns-in_err-number
returns-in_err-number c =
    c.from_residual-in_err-number.ensures
    ∙ no_decimals c.args.whole.now c.args.decimals.now (digits_none _ _ c.in_err-number.ensures.value (eqb-false _ _ (sym c.if-is_empty.ensures)))

pub returns : goal.returns
returns c =
    let whole = a_number c.args.whole.now c.in_ok-seconds.seconds c.in_ok-seconds.ensures.value in
    let decimals = digits_some c.in_ok-seconds.seconds c.args.decimals.now c.in_ok-number.number c.in_ok-number.ensures.value (eqb-false _ _ (sym c.if-is_empty.ensures)) in
    both_parts c.args.whole.now c.args.decimals.now c.in_ok-seconds.seconds c.in_ok-number.number _ whole.0 decimals.0 (omega arith) whole.1 decimals.1 c.zeros_after.ensures.value

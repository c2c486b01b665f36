use Rattle.std.proofs.Common.{arith, sym, ◌∙◌}
use Rattle.std.proofs.lemmas.Bool.{eqb-true, eqb-false}
use Rattle.std.proofs.lemmas.List.{length-set}
use Rattle.std.proofs.lemmas.Result.{err_from_is_err_and}
use Rattle.report_text.proofs.Reading.{one_kept, bad_nibble, data_kept, no_digits, many_digits}
use Rattle.report_text.proofs.hex.data_of.Goals as goal
use Rattle.report_text.proofs.hex.data_of.Goals.{then-is_empty-via-then-is_empty, then-is_empty-via-else-is_empty+then-field-gt6}

pub returns-then-is_empty : goal.returns-then-is_empty
returns-then-is_empty c = elim c.then-is_empty.branch [
  | then-is_empty-via-then-is_empty w ↦ no_digits c.args.field.now (eqb-true _ _ (sym w.if-is_empty.ensures))
  | then-is_empty-via-else-is_empty+then-field-gt6 w ↦ many_digits c.args.field.now (omega arith)
]

pub returns-in_err-cells : goal.returns-in_err-cells
returns-in_err-cells c =
    let p = err_from_is_err_and c.from_residual.result c.from_residual.ensures.1 in
    rw (p.1, p.2) (bad_nibble c.args.field.now c.loop-i.cells c.loop-i.i _ (omega arith) (omega arith) c.loop-i.invariant (omega arith) c.in_err-cells.ensures.value)

pub loop-i-preserved : goal.loop-i-preserved
loop-i-preserved c = one_kept c.args.field.now c.loop-i.cells c.loop-i.i c.in_ok-cells.field-0 c.loop-i.invariant (omega arith) (omega arith) c.in_ok-cells.ensures.value (length-set c.loop-i.cells c.loop-i.i c.in_ok-cells.field-0)

pub returns : goal.returns
returns c =
    let some = eqb-false _ _ (sym c.if-is_empty.ensures) in
    c.ok_or.ensures.value ∙ data_kept c.args.field.now c.loop-i.cells c.loop-i.i c.new.result c.loop-i.invariant (omega arith) (omega arith) (omega (arith, some)) (omega arith) c.new.ensures.values c.new.ensures.accepted

use Rattle.std.proofs.Common.{arith}
use Rattle.std.proofs.lemmas.Result.{err_from_is_err_and}
use Rattle.report_text.proofs.Reading.{has_room, one_more, bad_digit, all_read, other_width}
use Rattle.report_text.proofs.hex.number_of.Goals as goal

pub returns-then-field-width-clause-value : goal.returns-then-field-width-clause-value
returns-then-field-width-clause-value c = other_width c.args.width c.args.field.now c.if-field-width.true

pub overflow_mul-number : goal.overflow_mul-number
overflow_mul-number c = omega (arith, has_room c.args.field.now c.loop-digit.number c.loop-digit.digit-index c.loop-digit.invariant (omega arith) (omega arith))

pub returns-in_err-nibble_of-clause-value : goal.returns-in_err-nibble_of-clause-value
returns-in_err-nibble_of-clause-value c =
    let p = err_from_is_err_and c.from_residual.result c.from_residual.ensures.1 in
    rw (p.1, p.2) (bad_digit c.args.width c.args.field.now c.loop-digit.number c.loop-digit.digit-index _ c.if-field-width.false c.loop-digit.invariant (omega arith) c.in_err-nibble_of.ensures.value)

pub loop-digit-preserved : goal.loop-digit-preserved
loop-digit-preserved c = rw c.from.ensures (one_more c.args.field.now c.loop-digit.number c.loop-digit.digit-index c.in_ok-nibble_of.field-0 c.loop-digit.invariant (omega arith) c.in_ok-nibble_of.ensures.value (omega (arith, c.in_ok-nibble_of.ensures.below)))

pub returns-clause-value : goal.returns-clause-value
returns-clause-value c = all_read c.args.width c.args.field.now c.loop-digit.number c.loop-digit.digit-index c.if-field-width.false c.loop-digit.invariant (omega arith)

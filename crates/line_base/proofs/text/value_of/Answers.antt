use Rattle.std.proofs.Common.{◌≡◌, ◌+◌, ◌-◌, ◌*◌, get_or, ◌∙◌, arith}
use Rattle.line_base.proofs.WholeNumbers.{one_more, too_large, all_digits}
use Rattle.line_base.proofs.text.value_of.Goals as goal

pub returns-in_err-checked_mul : goal.returns-in_err-checked_mul
returns-in_err-checked_mul c = rw c.from_residual.ensures (λ below. too_large c.args.digits.now c.loop-digit.number c.loop-digit.digit-index c.loop-digit.invariant (omega arith) (omega (arith, c.in_err-checked_mul.ensures)) below)

pub returns-in_err-number : goal.returns-in_err-number
returns-in_err-number c = rw c.from_residual-in_err-number.ensures (λ below. too_large c.args.digits.now c.loop-digit.number c.loop-digit.digit-index c.loop-digit.invariant (omega arith) (omega (arith, c.in_err-number.ensures, c.in_ok-checked_mul.ensures, c.from-value.ensures, c.saturating_sub.ensures)) below)

pub returns : goal.returns
returns c = all_digits c.args.digits.now c.loop-digit.number c.loop-digit.digit-index c.loop-digit.invariant (omega arith)

pub loop-digit-preserved : goal.loop-digit-preserved
loop-digit-preserved c =
    let digit : c.from-value.result ≡ get_or c.args.digits.now c.loop-digit.digit-index 0 - 48 = c.from-value.ensures ∙ c.saturating_sub.ensures in
    let product = c.in_ok-checked_mul.ensures in
    let sum = c.in_ok-number.ensures in
    let whole : c.in_ok-number.number ≡ c.loop-digit.number * 10 + (get_or c.args.digits.now c.loop-digit.digit-index 0 - 48) = omega (arith, product, sum) in
    rw whole (one_more c.args.digits.now c.loop-digit.number c.loop-digit.digit-index c.loop-digit.invariant (omega arith) (omega (arith, sum)))

use Rattle.std.proofs.Common.{arith}
use Rattle.line_base.proofs.Numbers.{one_more}
use Rattle.line_base.proofs.text.digits_after.Goals as goal

pub loop-digit-preserved : goal.loop-digit-preserved
loop-digit-preserved c = rw (c.min-number.ensures, c.from.ensures) (one_more _ _ _ _ c.loop-digit.invariant (omega arith) (omega arith) (omega arith))

use Rattle.std.proofs.Common.{drop}
use Rattle.line_base.proofs.Numbers.{DigitsSoFar}
use Rattle.line_base.proofs.text.digits_after.Given as goal

abbrev pub invariant-loop-digit : goal.invariant-loop-digit
invariant-loop-digit l = DigitsSoFar l.before l.digits l.number (drop l.digit-index l.digits)

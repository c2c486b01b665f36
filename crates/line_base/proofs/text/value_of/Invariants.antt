use Rattle.std.proofs.Common.{drop}
use Rattle.line_base.proofs.WholeNumbers.{WholeSoFar}
use Rattle.line_base.proofs.text.value_of.Given as goal

abbrev pub invariant-loop-digit : goal.invariant-loop-digit
invariant-loop-digit l = WholeSoFar l.digits l.number (drop l.digit-index l.digits)

use Rattle.line_base.proofs.Cuts.{CutSoFar}
use Rattle.line_base.proofs.text.cut.Given as goal

abbrev pub invariant-loop-i : goal.invariant-loop-i
invariant-loop-i l = CutSoFar l.mark l.text l.i

use Rattle.edge_trace.proofs.PlainRows.{NumberSoFar}
use Rattle.edge_trace.proofs.plain.number_before.Given as goal

abbrev pub invariant-loop-i : goal.invariant-loop-i
invariant-loop-i l = NumberSoFar l.mark l.text l.i l.number

use Rattle.edge_trace.proofs.WideRows.{KeptSoFar}
use Rattle.edge_trace.proofs.levels.keep_levels.Given as goal

abbrev pub invariant-loop-line : goal.invariant-loop-line
invariant-loop-line l = KeptSoFar l.fn.levels l.levels l.time l.row l.edges l.line

use Rattle.edge_trace.proofs.WideFronts.{LevelsBefore}
use Rattle.edge_trace.proofs.wide_fronts.levels_front.Given as goal

abbrev pub invariant-loop-i : goal.invariant-loop-i
invariant-loop-i l = LevelsBefore l.text l.i l.levels.items

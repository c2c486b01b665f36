-- The edges that are left are those from this line on.
use Rattle.std.proofs.Common.{◌≡◌, ◌-◌}
use Rattle.edge_trace.proofs.LeftEdges.{left_from}
use Rattle.edge_trace.proofs.edges_left.EdgesLeft.take.Given as goal

abbrev pub invariant-empty : goal.invariant-empty
invariant-empty l = l.fn.self ≡ left_from l.line l.time l.levels

abbrev pub decreases-empty : goal.decreases-empty
decreases-empty l = 16 - l.line

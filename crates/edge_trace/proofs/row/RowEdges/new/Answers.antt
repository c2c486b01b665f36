use Rattle.edge_trace.proofs.ToldLevels.{none_told, nothing_kept}
use Rattle.edge_trace.proofs.row.RowEdges.new.Goals as goal

pub invariant_of-result : goal.invariant_of-result
invariant_of-result c = nothing_kept

pub returns : goal.returns
returns c = none_told 0 0 16

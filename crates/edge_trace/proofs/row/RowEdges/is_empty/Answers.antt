use Rattle.std.proofs.Common.{◌==◌, List, length, ap, ◌∙◌, arith}
use Rattle.line_base.specs.declared.edge.Edge.{Edge}
use Rattle.edge_trace.proofs.ToldLevels.{empty_row, few_told, count_of_row}
use Rattle.edge_trace.proofs.row.RowEdges.is_empty.Goals as goal

pub returns-clause-value : goal.returns-clause-value
returns-clause-value c =
    empty_row c.self.inside.time c.self.inside.levels (omega arith) ∙ ap (λ (es : List Edge). length es == 0) c.self.view_is

pub returns-clause-few : goal.returns-clause-few
returns-clause-few c =
    let e = ap length c.self.view_is in
    omega (arith, e, few_told 16 c.self.inside.levels, count_of_row c.self.inside.time c.self.inside.levels)

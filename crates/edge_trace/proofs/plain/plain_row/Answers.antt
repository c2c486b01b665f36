use Rattle.edge_trace.proofs.PlainRows.{plain_edge}
use Rattle.edge_trace.proofs.plain.plain_row.Goals as goal

pub returns-clause-spelled : goal.returns-clause-spelled
returns-clause-spelled c = plain_edge _ _ _ _ _ _ c.in_ok-time.ensures.begins c.in_ok-line.ensures.begins c.in_ok-level.ensures

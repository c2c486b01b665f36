use Rattle.simulate_command.proofs.WrittenRows.{RowsSoFar}
use Rattle.simulate_command.proofs.rows.rows_of.Given as goal

abbrev pub invariant-loop-edge : goal.invariant-loop-edge
invariant-loop-edge l = RowsSoFar l.edges l.edge-index l.rows.items

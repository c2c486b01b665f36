use Rattle.std.proofs.Common.{sym}
use Rattle.edge_trace.proofs.WideRows.{none_kept, one_more_told, one_more_same}
use Rattle.edge_trace.proofs.levels.keep_levels.Goals as goal
use Rattle.edge_trace.proofs.levels.keep_levels.Goals.{then-changes, else-changes}

pub loop-line-init : goal.loop-line-init
loop-line-init c = none_kept c.args.levels.now c.args.time c.args.row.now c.args.edges.now c.told-levels c.requires.empty

pub loop-line-preserved : goal.loop-line-preserved
loop-line-preserved c = elim c.if-changes.branch [
  | then-changes w ↦ rw (w.edges-is, w.push.ensures) (one_more_told _ _ _ _ _ _ c.loop-line.invariant c.loop-line-test.true c.requires.few (sym w.if-changes.ensures))
  | else-changes w ↦ rw w.edges-is (one_more_same _ _ _ _ _ _ c.loop-line.invariant c.loop-line-test.true c.requires.few (sym w.if-changes.ensures))
]

-- The run is closed, and then the end is got.
use Rattle.std.proofs.Common.{length, arith}
use Rattle.line_base.specs.Thinned.{thinned}
use Rattle.loop_command.specs.LostRuns.{lost_runs}
use Rattle.loop_command.proofs.LostEdges.{lost-short}
use Rattle.loop_command.proofs.ThinnedListeners.{counts-final}
use Rattle.loop_command.proofs.gaps.GapListener.take_end.Goals as goal

pub hear-requires : goal.hear-requires
hear-requires c =
    let setup = c.requires.0 in
    let edges = c.requires.1 in
    (setup, thinned edges (lost_runs (length edges)), c.close_run.ensures.got setup edges c.requires.2, tt, omega (arith, lost-short edges, c.requires.3))

pub returns-clause-counted : goal.returns-clause-counted
returns-clause-counted c = λ setup edges before.
    counts-final c.hear.new.receiver setup (thinned edges (lost_runs (length edges))) (c.hear.ensures setup (thinned edges (lost_runs (length edges))) (c.close_run.ensures.got setup edges before))

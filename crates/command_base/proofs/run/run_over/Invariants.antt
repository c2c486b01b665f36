use Rattle.std.proofs.Common.{◌≡◌, [], None}
use Rattle.command_base.specs.Tasks.{Task, IsSteady}
use Rattle.command_base.proofs.Pulls.{PulledSoFar}
use Rattle.command_base.proofs.run.run_over.Given as goal

abbrev pub invariant-loop-pull : goal.invariant-loop-pull
invariant-loop-pull g l =
    (task : Task) → IsSteady task → task.fault [] ≡ None → g.R.TaskRun.has_put task l.fn.run []
    → PulledSoFar task (g.R.TaskRun.has_put task l.run) l._pull (g.S.Source.left l.fn.source) (g.S.Source.left l.source) (g.K.Sink.got l.fn.out) (g.K.Sink.got l.out)
    (g.S.Source.faults l.fn.source) (g.S.Source.faults l.source) (g.K.Sink.faults l.fn.out) (g.K.Sink.faults l.out)

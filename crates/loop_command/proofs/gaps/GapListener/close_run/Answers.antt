-- A run is open, or none is.
use Rattle.std.proofs.Common.{true, false, sym, ◌∙◌, arith}
use Rattle.loop_command.proofs.ThinnedListeners.{got-closed, got-open, never-both}
use Rattle.loop_command.proofs.gaps.GapListener.close_run.Goals as goal
use Rattle.loop_command.proofs.gaps.GapListener.close_run.Goals.{else-is_lost-via-then-is_lost+else-open-gt0, else-is_lost-via-else-is_lost}

pub returns-then-open-gt0-clause-got : goal.returns-then-open-gt0-clause-got
returns-then-open-gt0-clause-got c = λ setup edges before.
    got-open c.args.self.now setup edges before c.hear.new.receiver (sym c.is_lost.ensures ∙ c.if-is_lost.true) c.if-open-gt0.true c.hear.ensures

pub returns-else-is_lost-clause-got : goal.returns-else-is_lost-clause-got
returns-else-is_lost-clause-got c = λ setup edges before.
    elim c.else-is_lost.branch [
      | else-is_lost-via-then-is_lost+else-open-gt0 w ↦ got-closed c.args.self.now setup edges before true (sym c.is_lost.ensures ∙ w.if-is_lost.true) (λ e. omega (arith, w.if-open-gt0.false))
      | else-is_lost-via-else-is_lost w ↦ got-closed c.args.self.now setup edges before false (sym c.is_lost.ensures ∙ w.if-is_lost.false) (λ e. never-both e)
    ]

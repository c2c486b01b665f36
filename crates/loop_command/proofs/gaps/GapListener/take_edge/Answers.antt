-- The edge is kept, or it is lost, and a run may be whole by it.
use Rattle.std.proofs.Common.{sym, ◌∙◌}
use Rattle.loop_command.proofs.ThinnedListeners.{got-kept, got-lost, got-whole}
use Rattle.loop_command.proofs.gaps.GapListener.take_edge.Goals as goal

pub returns-then-not-is_lost : goal.returns-then-not-is_lost
returns-then-not-is_lost c = λ setup edges before. got-kept c.args.self.now setup edges before c.hear.new.receiver c.args.edge (sym c.is_lost.ensures ∙ c.if-not-is_lost.true) c.hear.ensures

pub returns-then-number : goal.returns-then-number
returns-then-number c = λ setup edges before.
    got-whole c.args.self.now setup edges before c.hear-then-number.new.receiver c.args.edge (sym c.is_lost.ensures ∙ c.if-not-is_lost.false) c.if-number.true c.hear-then-number.ensures

pub returns-else-number : goal.returns-else-number
returns-else-number c = λ setup edges before. got-lost c.args.self.now setup edges before c.args.edge (sym c.is_lost.ensures ∙ c.if-not-is_lost.false) c.if-number.false

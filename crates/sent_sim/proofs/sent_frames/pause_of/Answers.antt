-- A pause draws one word.
use Rattle.std.proofs.Common.{ap, sym, ◌∙◌}
use Rattle.std.specs.Prelude.{if◌then◌else◌}
use Rattle.sim_base.specs.Wobbles.{past}
use Rattle.sent_sim.proofs.sent_frames.pause_of.Goals as goal

pub returns-then-pause-clause-next : goal.returns-then-pause-clause-next
unfolding past
returns-then-pause-clause-next c = c.pause_ticks.ensures.next ∙ ap (λ b. past (if b then 1 else 0) c.args.wobble.now) (sym c.if-pause.true ∙ c.pause.ensures)

pub returns-else-pause-clause-next : goal.returns-else-pause-clause-next
unfolding past
returns-else-pause-clause-next c = ap (λ b. past (if b then 1 else 0) c.args.wobble.now) (sym c.if-pause.false ∙ c.pause.ensures)

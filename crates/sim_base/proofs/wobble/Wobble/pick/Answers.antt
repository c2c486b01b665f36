-- The word and the generator behind it are the step's.
use Rattle.std.proofs.Common.{ap, ◌∙◌, ◌%◌}
use Rattle.sim_base.specs.Wobbles.{behind_word, word}
use Rattle.sim_base.proofs.wobble.Wobble.pick.Goals as goal

pub returns-clause-value : goal.returns-clause-value
unfolding word
returns-clause-value c = ap (λ w. w % c.args.n) (c.from.ensures ∙ ap (λ p. p.0) c.next_word.ensures ∙ ap word c.self.view_is)

pub returns-clause-next : goal.returns-clause-next
unfolding behind_word
returns-clause-next c = ap (λ p. p.1) c.next_word.ensures ∙ ap behind_word c.self.view_is

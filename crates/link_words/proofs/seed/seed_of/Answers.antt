use Rattle.link_words.proofs.Seeds.{no_seed, a_seed}
use Rattle.link_words.proofs.seed.seed_of.Goals as goal

pub returns-in_err-number_of : goal.returns-in_err-number_of
returns-in_err-number_of c = rw c.from_residual.ensures (no_seed c.args.text.now c.in_err-number_of.ensures.value)

pub returns : goal.returns
returns c = a_seed c.args.text.now _ _ c.in_ok-number_of.ensures.value c.value_of.ensures

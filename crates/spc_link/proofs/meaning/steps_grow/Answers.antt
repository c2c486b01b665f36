-- The laws are lemmas.
use Rattle.spc_link.proofs.Prefixes.{ends-front, reading-front}
use Rattle.spc_link.proofs.meaning.steps_grow.Goals as goal

pub returns-clause-so_far : goal.returns-clause-so_far
returns-clause-so_far c = λ setup edges more. reading-front setup edges more

pub returns-clause-at_end : goal.returns-clause-at_end
returns-clause-at_end c = λ setup edges more. ends-front setup edges more

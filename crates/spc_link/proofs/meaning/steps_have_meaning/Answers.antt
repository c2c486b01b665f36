-- The laws are lemmas.
use Rattle.spc_link.proofs.Meanings.{ends-mean, reports-mean}
use Rattle.spc_link.proofs.meaning.steps_have_meaning.Goals as goal

pub returns-clause-so_far : goal.returns-clause-so_far
returns-clause-so_far c = λ setup edges. reports-mean setup edges

pub returns-clause-at_end : goal.returns-clause-at_end
returns-clause-at_end c = λ setup edges. ends-mean setup edges

-- The law is a lemma.
use Rattle.spc_tolerance.proofs.HeardTrains.{read_honest}
use Rattle.spc_tolerance.proofs.honest.honest_answers_are_read.Goals as goal

pub returns : goal.returns
returns c = read_honest

-- The law is two lemmas.
use Rattle.scripts_accepted.proofs.LineMessages.{line-of}
use Rattle.scripts_accepted.proofs.ReadMessages.{read-of}
use Rattle.scripts_accepted.proofs.read.read_messages_are_of_the_setup.Goals as goal

pub returns-clause-fitting : goal.returns-clause-fitting
returns-clause-fitting c = read-of

pub returns-clause-lines : goal.returns-clause-lines
returns-clause-lines c = line-of

-- The law is two lemmas.
use Rattle.message_lines.proofs.Telling.{answers_same, told_stays, fault_stays}
use Rattle.message_lines.proofs.list_laws.faults_stay.Goals as goal
use Rattle.std.proofs.Common.{◌++◌}

pub returns-clause-answers : goal.returns-clause-answers
returns-clause-answers c = λ setup bytes more number fault e. answers_same setup bytes (bytes ++ more) (told_stays setup bytes more (number, fault) e)

pub returns-clause-fault : goal.returns-clause-fault
returns-clause-fault c = λ setup bytes more number fault e. fault_stays setup bytes more (number, fault) e

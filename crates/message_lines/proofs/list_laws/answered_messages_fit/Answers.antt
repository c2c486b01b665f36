-- The law is two lemmas.
use Rattle.message_lines.proofs.Fitting.{answers_fit, whole_answers_fit}
use Rattle.message_lines.proofs.list_laws.answered_messages_fit.Goals as goal

pub returns-clause-so_far : goal.returns-clause-so_far
returns-clause-so_far c = answers_fit

pub returns-clause-whole : goal.returns-clause-whole
returns-clause-whole c = whole_answers_fit

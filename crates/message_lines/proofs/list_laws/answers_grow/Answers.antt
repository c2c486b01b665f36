-- The law is two lemmas.
use Rattle.message_lines.proofs.Telling as told
use Rattle.message_lines.proofs.list_laws.answers_grow.Goals as goal

pub returns-clause-when_more_come : goal.returns-clause-when_more_come
returns-clause-when_more_come c = told.answers_grow

pub returns-clause-at_the_end : goal.returns-clause-at_the_end
returns-clause-at_the_end c = told.whole_answers_grow

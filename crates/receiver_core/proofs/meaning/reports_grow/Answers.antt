-- The law is two lemmas.
use Rattle.receiver_core.proofs.ReportFronts.{final-front, so_far-front}
use Rattle.receiver_core.proofs.meaning.reports_grow.Goals as goal

pub returns-clause-with_more : goal.returns-clause-with_more
returns-clause-with_more c = so_far-front

pub returns-clause-at_the_end : goal.returns-clause-at_the_end
returns-clause-at_the_end c = final-front

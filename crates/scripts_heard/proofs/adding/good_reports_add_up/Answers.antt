-- The law is a lemma.
use Rattle.scripts_heard.proofs.AddedReports.{added-good}
use Rattle.scripts_heard.proofs.adding.good_reports_add_up.Goals as goal

pub returns : goal.returns
returns c = added-good

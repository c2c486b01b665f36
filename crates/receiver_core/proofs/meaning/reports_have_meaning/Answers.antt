-- The law is a lemma.
use Rattle.receiver_core.proofs.ItemMeanings.{items-mean}
use Rattle.receiver_core.proofs.meaning.reports_have_meaning.Goals as goal

pub returns : goal.returns
returns c = items-mean

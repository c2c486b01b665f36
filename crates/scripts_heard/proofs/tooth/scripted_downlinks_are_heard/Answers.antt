-- The law is a lemma.
use Rattle.scripts_heard.proofs.ToothHeard.{downlinks-heard}
use Rattle.scripts_heard.proofs.tooth.scripted_downlinks_are_heard.Goals as goal

pub returns : goal.returns
returns c = downlinks-heard

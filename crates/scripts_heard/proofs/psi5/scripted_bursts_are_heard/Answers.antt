-- The law is a lemma.
use Rattle.scripts_heard.proofs.HeardBursts.{script-heard}
use Rattle.scripts_heard.proofs.psi5.scripted_bursts_are_heard.Goals as goal

pub returns : goal.returns
returns c = script-heard

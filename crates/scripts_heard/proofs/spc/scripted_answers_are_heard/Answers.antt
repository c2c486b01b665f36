-- The law is a lemma.
use Rattle.scripts_heard.proofs.SpcHeard.{answers-heard}
use Rattle.scripts_heard.proofs.spc.scripted_answers_are_heard.Goals as goal

pub returns : goal.returns
returns c = answers-heard

-- The law is a lemma.
use Rattle.scripts_accepted.proofs.FollowedScripts.{scripted-sent}
use Rattle.scripts_accepted.proofs.scripted.scripted_messages_are_never_refused.Goals as goal

pub returns : goal.returns
returns c = scripted-sent

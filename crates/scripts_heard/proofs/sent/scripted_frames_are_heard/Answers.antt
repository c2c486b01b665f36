-- The law is a lemma.
use Rattle.scripts_heard.proofs.SentHeard.{frames-heard}
use Rattle.scripts_heard.proofs.sent.scripted_frames_are_heard.Goals as goal

pub returns : goal.returns
returns c = frames-heard

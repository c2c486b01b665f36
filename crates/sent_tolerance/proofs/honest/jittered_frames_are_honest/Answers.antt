-- The law is a lemma.
use Rattle.sent_tolerance.proofs.NominalFrames.{are_honest}
use Rattle.sent_tolerance.proofs.honest.jittered_frames_are_honest.Goals as goal

pub returns : goal.returns
returns c = are_honest

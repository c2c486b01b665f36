-- The law is a lemma.
use Rattle.sent_tolerance.proofs.HeardTrains.{read_honest}
use Rattle.sent_tolerance.proofs.honest.honest_frames_are_read.Goals as goal

pub returns : goal.returns
returns c = read_honest

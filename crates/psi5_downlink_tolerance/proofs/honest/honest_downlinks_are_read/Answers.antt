-- The law is a lemma.
use Rattle.psi5_downlink_tolerance.proofs.ReadTrains.{read_honest}
use Rattle.psi5_downlink_tolerance.proofs.honest.honest_downlinks_are_read.Goals as goal

pub returns : goal.returns
returns c = read_honest

-- The law is a lemma.
use Rattle.psi5_downlink_tolerance.proofs.NominalTrains.{are_honest}
use Rattle.psi5_downlink_tolerance.proofs.honest.nominal_downlinks_are_honest.Goals as goal

pub returns : goal.returns
returns c = are_honest

-- The law is a lemma.
use Rattle.psi5_downlink_tolerance.proofs.NominalTrains.{silent_is_honest}
use Rattle.psi5_downlink_tolerance.proofs.honest.silent_lines_are_honest.Goals as goal

pub returns : goal.returns
returns c = silent_is_honest

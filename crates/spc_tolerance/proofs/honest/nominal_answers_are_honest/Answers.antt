-- The law is a lemma.
use Rattle.spc_tolerance.proofs.NominalTrains.{nominal_honest}
use Rattle.spc_tolerance.proofs.honest.nominal_answers_are_honest.Goals as goal

pub returns : goal.returns
returns c = nominal_honest

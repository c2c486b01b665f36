-- The law is a lemma.
use Rattle.psi5_downlink_tolerance.proofs.NominalTrains.{train_is_honest}
use Rattle.psi5_downlink_tolerance.proofs.honest.trains_have_honest_traces.Goals as goal

pub returns : goal.returns
returns c = train_is_honest

-- All trains.
use Rattle.psi5_tolerance.proofs.ExactTraces.{trains-honest}
use Rattle.psi5_tolerance.proofs.exact.exact_trains_are_honest.Goals as goal

pub returns : goal.returns
returns c = trains-honest

-- Nominal frames.
use Rattle.psi5_tolerance.proofs.ExactTraces.{nominal-honest}
use Rattle.psi5_tolerance.proofs.exact.nominal_bursts_are_honest.Goals as goal

pub returns : goal.returns
returns c = nominal-honest

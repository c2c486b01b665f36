-- All frames.
use Rattle.psi5_tolerance.proofs.NominalFrames.{nominal-read}
use Rattle.psi5_tolerance.proofs.exact.nominal_bursts_are_read.Goals as goal

pub returns : goal.returns
returns c = nominal-read

-- All but the first so many.
use Rattle.psi5_tolerance.proofs.RestOfFrames.{none-missing}
use Rattle.psi5_tolerance.proofs.meaning.no_frame_is_missing.Goals as goal

pub returns : goal.returns
returns c = none-missing

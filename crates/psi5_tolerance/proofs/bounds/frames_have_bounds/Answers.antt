-- Each bound.
use Rattle.psi5_tolerance.proofs.BoundedTrains.{shortest, shorter, longest, longer, closest, closer}
use Rattle.psi5_tolerance.proofs.bounds.frames_have_bounds.Goals as goal

pub returns : goal.returns
returns c = record { shortest = shortest; shorter = shorter; longest = longest; longer = longer; closest = closest; closer = closer }

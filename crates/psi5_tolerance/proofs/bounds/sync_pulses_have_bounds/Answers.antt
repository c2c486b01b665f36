-- Each bound.
use Rattle.psi5_tolerance.proofs.BoundedTrains.{at-end, before-end, behind, together, no-slots}
use Rattle.psi5_tolerance.proofs.bounds.sync_pulses_have_bounds.Goals as goal

pub returns : goal.returns
returns c = record { at_end = at-end; before_end = before-end; behind = behind; together = together; no_slots = no-slots }

-- Each bound.
use Rattle.psi5_tolerance.proofs.BoundedTrains.{earliest, earlier, latest, later, no-window, no-sync, no-later_slot}
use Rattle.psi5_tolerance.proofs.bounds.answers_have_bounds.Goals as goal

pub returns : goal.returns
returns c = record { earliest = earliest; earlier = earlier; latest = latest; later = later; no_window = no-window; no_sync = no-sync; no_later_slot = no-later_slot }

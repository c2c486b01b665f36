-- Each burst.
use Rattle.psi5_tolerance.proofs.SlotLines.{slot-places}
use Rattle.psi5_tolerance.proofs.meaning.honest_bursts_are_in_their_slots.Goals as goal

pub returns : goal.returns
returns c = slot-places

-- Each place.
use Rattle.psi5_slots.proofs.Meanings.{place-stands}
use Rattle.psi5_slots.proofs.meaning.places_have_meaning.Goals as goal

pub returns : goal.returns
returns c = place-stands

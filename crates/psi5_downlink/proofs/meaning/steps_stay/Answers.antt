-- The steps stay.
use Rattle.psi5_downlink.proofs.Meanings.{steps-front}
use Rattle.psi5_downlink.proofs.meaning.steps_stay.Goals as goal

pub returns : goal.returns
returns c = steps-front

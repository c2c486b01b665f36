-- The steps stay.
use Rattle.psi5_init.proofs.Stays.{length-steps, steps-front}
use Rattle.psi5_init.proofs.meaning.steps_stay.Goals as goal

pub returns : goal.returns
returns c = record { as_many = length-steps; front = steps-front }

-- Each step.
use Rattle.psi5_downlink.proofs.Meanings.{steps-mean}
use Rattle.psi5_downlink.proofs.meaning.steps_have_meaning.Goals as goal

pub returns : goal.returns
returns c = steps-mean

-- Each burst has its meaning.
use Rattle.psi5_frame.proofs.Meanings.{all-mean}
use Rattle.psi5_frame.proofs.meaning.bursts_have_meaning.Goals as goal

pub returns : goal.returns
returns c = all-mean

-- Each value has as many bits as its part.
use Rattle.psi5_frame.proofs.Fitting.{all-fit}
use Rattle.psi5_frame.proofs.meaning.payloads_fit.Goals as goal

pub returns : goal.returns
returns c = all-fit

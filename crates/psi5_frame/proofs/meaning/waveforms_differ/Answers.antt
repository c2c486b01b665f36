-- One payload.
use Rattle.psi5_frame.proofs.Waveforms.{one_payload}
use Rattle.psi5_frame.proofs.meaning.waveforms_differ.Goals as goal

pub returns : goal.returns
returns c = one_payload

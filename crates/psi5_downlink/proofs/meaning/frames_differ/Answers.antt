-- One value.
use Rattle.psi5_downlink.proofs.FrameLaws.{one_frame}
use Rattle.psi5_downlink.proofs.meaning.frames_differ.Goals as goal

pub returns : goal.returns
returns c = one_frame

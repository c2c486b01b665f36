-- The bits of what they say.
use Rattle.psi5_downlink.proofs.FrameLaws.{frame_is_whole, whole_is_frame}
use Rattle.psi5_downlink.proofs.meaning.whole_frames_are_sent.Goals as goal

pub returns : goal.returns
returns c = record { whole = whole_is_frame; frame = frame_is_whole }

-- Both directions.
use Rattle.psi5_frame.proofs.FrameLaws.{good_is_frame, frame_is_good}
use Rattle.psi5_frame.proofs.meaning.good_bursts_are_waveforms.Goals as goal

pub returns : goal.returns
returns c = record { good = good_is_frame; frame = frame_is_good }

-- No jitter is at most the jitter.
use Rattle.std.proofs.Common.{◌+◌, ◌≤◌}
use Rattle.std.proofs.lemmas.List.Elements.{All-nil}
use Rattle.sent_tolerance.specs.Nominal.{nominal_falls}
use Rattle.sent_tolerance.proofs.NominalFrames.{are_honest, not_jittered}
use Rattle.sent_tolerance.proofs.honest.nominal_frames_are_honest.Goals as goal

pub returns : goal.returns
returns c = λ setup start pause frames accepted fit pauses.
    are_honest setup start pause 0 0 frames (nominal_falls setup start pause frames) accepted fit pauses (All-nil (λ fall. fall ≤ 0 + setup.jitter)) (not_jittered setup.jitter (nominal_falls setup start pause frames))

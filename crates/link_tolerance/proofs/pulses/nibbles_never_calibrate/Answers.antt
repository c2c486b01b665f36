-- A nibble's pulse is short, and a short pulse never calibrates.
use Rattle.std.proofs.Common.{◌+◌, ◌*◌}
use Rattle.link_tolerance.proofs.HeardPulses.{never_long, nibble_short}
use Rattle.link_tolerance.proofs.pulses.nibbles_never_calibrate.Goals as goal

pub returns : goal.returns
returns c = λ nominal jitter tick own value heard some small is_tick is_own below pulse.
    never_long nominal jitter ((12 + value) * own) heard some small (nibble_short nominal tick own value is_tick is_own below) pulse

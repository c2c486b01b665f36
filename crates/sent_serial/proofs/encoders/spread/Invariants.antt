-- The statuses so far have the bits of their places.
use Rattle.std.proofs.Common.{ℕ, ◌-◌, ◌<◌, get_or}
use Rattle.sent_serial.proofs.SpreadBits.{IsSpread}
use Rattle.sent_serial.proofs.encoders.spread.Given as goal

abbrev pub invariant-loop-place : goal.invariant-loop-place
invariant-loop-place l = (k : ℕ) → k < l.place → IsSpread l.values l.starts (l.count - 1 - k) (get_or l.statuses k 0)

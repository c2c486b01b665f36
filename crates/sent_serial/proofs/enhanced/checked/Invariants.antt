-- The bits so far are those of the CRC.
use Rattle.std.proofs.Common.{◌≡◌, ℕ, ◌<◌, false, get_or, length}
use Rattle.sent_serial.proofs.EnhancedMessages.{checked_bit}
use Rattle.sent_serial.proofs.enhanced.checked.Given as goal

abbrev pub invariant-loop-place : goal.invariant-loop-place
invariant-loop-place l = record {
  long : length l.bit-items ≡ 24;
  each : (k : ℕ) → k < l.place → get_or l.bit-items k false ≡ checked_bit l.values l.starts k;
}

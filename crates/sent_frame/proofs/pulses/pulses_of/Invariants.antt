-- The ticks so far.
use Rattle.std.proofs.Common.{◌≡◌, ◌+◌, ◌∷◌, length, take}
use Rattle.sent_frame.proofs.SentTicks.{value_ticks}
use Rattle.sent_frame.proofs.pulses.pulses_of.Given as goal

abbrev pub invariant-loop-nibble : goal.invariant-loop-nibble
invariant-loop-nibble l = record {
  ticks : l.ticks.items ≡ 56 ∷ (12 + l.frame.status) ∷ value_ticks (take l.nibble-index l.nibbles);
  count : length l.ticks.items ≡ 2 + l.nibble-index;
}

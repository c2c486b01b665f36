-- The bits that are left complete the number.
use Rattle.std.proofs.Common.{◌≡◌, ◌+◌, ◌-◌, ◌++◌, length}
use Rattle.psi5_frame.specs.Frames.{low_bits}
use Rattle.psi5_frame.proofs.bits.push_low.Given as goal

abbrev pub invariant-loop : goal.invariant-loop
invariant-loop l = record {
  bits : l.bits.items ++ low_bits (l.width - l.counter) l.rest ≡ l.fn.bits.items ++ low_bits l.width l.value;
  room : length l.bits.items ≡ length l.fn.bits.items + l.counter;
}

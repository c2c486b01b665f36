-- The bits that are left complete the value.
use Rattle.std.proofs.Common.{◌≡◌, ◌+◌, ◌-◌, ◌++◌, length}
use Rattle.link_math.specs.Division as division
use Rattle.psi5_downlink.proofs.bits.push_high.Given as goal

abbrev pub invariant-loop-place : goal.invariant-loop-place
invariant-loop-place l = record {
  bits : l.bits ++ division.bits_of (l.width - l.place) l.value ≡ l.fn.bits ++ division.bits_of l.width l.value;
  room : length l.bits ≡ length l.fn.bits + l.place;
}

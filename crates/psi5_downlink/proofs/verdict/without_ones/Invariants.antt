-- The groups that are left complete the bits.
use Rattle.std.proofs.Common.{◌≡◌, ◌+◌, ◌≤◌, ◌++◌, length}
use Rattle.psi5_downlink.specs.Frames as frames
use Rattle.psi5_downlink.proofs.verdict.without_ones.Given as goal

abbrev pub invariant-groups : goal.invariant-groups
invariant-groups l = record {
  bits : l.fields ++ frames.without_ones l.rest ≡ frames.without_ones l.fn.bits;
  room : length l.fields + length l.rest ≤ 44;
}

abbrev pub decreases-groups : goal.decreases-groups
decreases-groups l = length l.rest

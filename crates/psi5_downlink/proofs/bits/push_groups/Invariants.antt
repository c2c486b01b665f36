-- The groups that are left complete the bits.
use Rattle.std.proofs.Common.{◌≡◌, ◌+◌, ◌*◌, ◌≤◌, ◌++◌, length}
use Rattle.psi5_downlink.specs.Frames.{with_ones}
use Rattle.psi5_downlink.proofs.bits.push_groups.Given as goal

abbrev pub invariant-groups : goal.invariant-groups
invariant-groups l = record {
  bits : l.bits.items ++ with_ones l.rest ≡ l.fn.bits.items ++ with_ones l.ungrouped;
  room : 3 * length l.bits.items + 4 * length l.rest ≤ 120;
}

abbrev pub decreases-groups : goal.decreases-groups
decreases-groups l = length l.rest

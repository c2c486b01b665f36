-- The bits that are left decide.
use Rattle.std.proofs.Common.{◌≡◌, length}
use Rattle.psi5_downlink.specs.Reading as reading
use Rattle.psi5_downlink.proofs.verdict.misses_one.Given as goal

abbrev pub invariant-ones : goal.invariant-ones
invariant-ones l = reading.misses_one l.rest ≡ reading.misses_one l.fn.bits

abbrev pub decreases-ones : goal.decreases-ones
decreases-ones l = length l.rest

-- The number of the bits so far.
use Rattle.std.proofs.Common.{◌≡◌, take}
use Rattle.link_math.specs.Division.{number_of}
use Rattle.psi5_downlink.proofs.verdict.number_in.Given as goal

abbrev pub invariant-loop-bit : goal.invariant-loop-bit
invariant-loop-bit l = l.number ≡ number_of (take l.bit-index l.bits)

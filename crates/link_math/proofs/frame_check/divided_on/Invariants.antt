-- The register is that of the bits so far.
use Rattle.std.proofs.Common.{◌≡◌, ◌<◌, ◌++◌, take}
use Rattle.link_math.specs.Checks.{crc3_remainder}
use Rattle.link_math.specs.Division.{bits_of}
use Rattle.link_math.proofs.frame_check.divided_on.Given as goal

abbrev pub invariant-loop-bit : goal.invariant-loop-bit
invariant-loop-bit l = record { value : l.left ≡ crc3_remainder (bits_of 3 l.register ++ take l.bit-index l.bits); is_three_bits : l.left < 8 }

-- The register is that of the bits so far.
use Rattle.std.proofs.Common.{◌≡◌, ◌<◌, ◌++◌, take}
use Rattle.link_math.specs.Checks.{crc6_remainder}
use Rattle.link_math.specs.Division.{bits_of}
use Rattle.link_math.proofs.message_check.divided_on.Given as goal

abbrev pub invariant-loop-bit : goal.invariant-loop-bit
invariant-loop-bit l = record { value : l.left ≡ crc6_remainder (bits_of 6 l.register ++ take l.bit-index l.bits); is_six_bits : l.left < 64 }

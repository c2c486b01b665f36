-- The check nibble is that of the nibbles so far.
use Rattle.std.proofs.Common.{◌≡◌, ◌<◌, take}
use Rattle.link_math.specs.Checks.{crc4_legacy_of}
use Rattle.link_math.proofs.nibble_check.crc4_legacy.Given as goal

abbrev pub invariant-loop-nibble : goal.invariant-loop-nibble
invariant-loop-nibble l = record { value : l.check ≡ crc4_legacy_of (take l.nibble-index l.nibbles); is_nibble : l.check < 16 }

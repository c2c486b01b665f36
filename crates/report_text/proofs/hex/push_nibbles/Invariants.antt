use Rattle.std.proofs.Common.{◌≡◌, ◌+◌, ◌++◌, length, map, take}
use Rattle.report_text.specs.Hex.{hex_digit}
use Rattle.report_text.proofs.hex.push_nibbles.Given as goal

abbrev pub invariant-loop-nibble : goal.invariant-loop-nibble
invariant-loop-nibble l =
    (l.out.bytes ≡ l.fn.out.bytes ++ map hex_digit (take l.nibble-index l.nibbles)) × (length l.out.bytes ≡ length l.fn.out.bytes + l.nibble-index)

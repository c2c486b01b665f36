use Rattle.std.proofs.Common.{length, map, string_bytes}
use Rattle.link_words.proofs.SpecsSoFar.{ReadSoFar}
use Rattle.link_words.proofs.command.read_setups.Given as goal

abbrev pub invariant-specs : goal.invariant-specs
invariant-specs l = ReadSoFar (map string_bytes l.fn.words) l.setups (map string_bytes l.rest)

abbrev pub decreases-specs : goal.decreases-specs
decreases-specs l = length l.rest

use Rattle.std.proofs.Common.{◌≡◌, length}
use Rattle.line_base.proofs.Writes.{WrittenSoFar}
use Rattle.line_base.proofs.std_streams.write_each.Given as goal

abbrev pub invariant-writes : goal.invariant-writes
invariant-writes g l = WrittenSoFar (g.W.Write.contents l.fn.writer) (g.W.Write.contents l.writer) l.bytes l.rest

abbrev pub decreases-writes : goal.decreases-writes
decreases-writes g l = length l.rest

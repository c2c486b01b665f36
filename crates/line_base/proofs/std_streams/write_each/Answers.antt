use Rattle.line_base.proofs.Writes.{WrittenSoFar-more}
use Rattle.line_base.proofs.std_streams.write_each.Goals as goal

pub writes-preserved : goal.writes-preserved
writes-preserved g c = WrittenSoFar-more (g.W.Write.contents c.write.new.self) c.in-Ok.count c.writes.invariant c.in-Ok.ensures.bytes

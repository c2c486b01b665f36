use Rattle.std.proofs.Common.{arith}
use Rattle.edge_trace.proofs.Seconds.{zero_more}
use Rattle.edge_trace.proofs.digits.zeros_after.Goals as goal

pub loop-preserved : goal.loop-preserved
loop-preserved c = rw c.min-number.ensures (zero_more c.args.before c.args.places c.loop.number c.loop.counter c.loop.invariant.0 (omega arith), omega arith)

-- The spans at the front of the cells.
use Rattle.std.proofs.Common.{refl, length, arith}
use Rattle.line_base.proofs.KeptSpans.{kept-all}
use Rattle.line_base.proofs.spans.Spans.new.Goals as goal

pub invariant_of-result : goal.invariant_of-result
invariant_of-result c = rw c.copy_from_slice.ensures.after (kept-all c.args.spans.now (length c.args.spans.now) refl (omega (arith, c.if-spans-gt-MAX_SPANS.false)))

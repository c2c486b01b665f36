-- One cell more.
use Rattle.std.proofs.Common.{sym}
use Rattle.line_base.proofs.KeptSpans.{kept_more}
use Rattle.line_base.proofs.spans.Spans.push.Goals as goal

pub invariant_of-self : goal.invariant_of-self
invariant_of-self c = kept_more c.self.inside.cells c.self.inside.count c.args.span c.self.invariant (rw (sym c.self.view_is) at c.requires)

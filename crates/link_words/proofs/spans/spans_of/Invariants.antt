use Rattle.std.specs.Option.{option_copied}
use Rattle.line_base.proofs.Cuts.{left_len}
use Rattle.link_words.proofs.SpanLists.{SpansSoFar}
use Rattle.link_words.proofs.spans.spans_of.Given as goal

abbrev pub invariant-spans : goal.invariant-spans
invariant-spans l = SpansSoFar l.fn.most l.fn.text l.spans (option_copied l.rest)

abbrev pub decreases-spans : goal.decreases-spans
decreases-spans l = left_len (option_copied l.rest)

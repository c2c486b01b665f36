use Rattle.std.proofs.Common.{arith}
use Rattle.std.proofs.lemmas.List.{take_rest}
use Rattle.line_base.proofs.Cuts.{cut_none, cut_more, cut_found, cut_whole}
use Rattle.line_base.proofs.text.cut.Goals as goal

pub loop-i-init : goal.loop-i-init
loop-i-init c = cut_none _ _

pub loop-i-preserved : goal.loop-i-preserved
loop-i-preserved c = cut_more _ _ _ c.loop-i.invariant (omega arith) c.if-byte-mark.false

pub returns-then-byte-mark : goal.returns-then-byte-mark
returns-then-byte-mark c = rw take_rest (cut_found _ _ _ c.loop-i.invariant (omega arith) c.if-byte-mark.true)

pub returns : goal.returns
returns c = cut_whole _ _ _ c.loop-i.invariant (omega arith)

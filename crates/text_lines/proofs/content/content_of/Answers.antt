use Rattle.text_lines.proofs.LineEnds.{drops_cr, keeps_line, empty_line}
use Rattle.text_lines.proofs.content.content_of.Goals as goal

pub returns-then-last-eq13 : goal.returns-then-last-eq13
returns-then-last-eq13 c = drops_cr _ _ _ c.in-Some.ensures.cases.0 c.if-last-eq13.true

pub returns-else-last-eq13 : goal.returns-else-last-eq13
returns-else-last-eq13 c = keeps_line _ _ _ c.in-Some.ensures.cases.0 c.if-last-eq13.false

pub returns-in_default : goal.returns-in_default
returns-in_default c = empty_line _ c.in_default.ensures.cases

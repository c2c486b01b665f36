use Rattle.std.proofs.Common.{sym, ◌∙◌}
use Rattle.edge_trace.proofs.Feeding.{finishes_between, finishes_within, same_line, judged_line}
use Rattle.edge_trace.proofs.reader.EdgeReader.end_input.Goals as goal

pub returns-then-len-eq0-clause-whole : goal.returns-then-len-eq0-clause-whole
returns-then-len-eq0-clause-whole c = λ seen going. finishes_between c.args.self.now c.args.state seen going (sym c.len.ensures.length ∙ c.if-len-eq0.true)

pub returns-then-len-eq0-clause-number : goal.returns-then-len-eq0-clause-number
returns-then-len-eq0-clause-number c = λ seen going. (same_line c.args.self.now c.args.state seen going).0

pub returns-then-len-eq0-clause-small : goal.returns-then-len-eq0-clause-small
returns-then-len-eq0-clause-small c = λ seen going. (same_line c.args.self.now c.args.state seen going).1

pub returns-clause-whole : goal.returns-clause-whole
returns-clause-whole c = λ seen going. finishes_within c.args.self.now c.args.state seen going _ _ (λ e. c.if-len-eq0.false (c.len.ensures.length ∙ e)) (c.end_line.ensures.read going.standing going.at)

pub returns-clause-number : goal.returns-clause-number
returns-clause-number c = λ seen going. (judged_line c.args.self.now c.args.state seen going c.end_line.new.self (λ e. c.if-len-eq0.false (c.len.ensures.length ∙ e)) c.end_line.ensures.line c.end_line.ensures.number).0

pub returns-clause-small : goal.returns-clause-small
returns-clause-small c = λ seen going. (judged_line c.args.self.now c.args.state seen going c.end_line.new.self (λ e. c.if-len-eq0.false (c.len.ensures.length ∙ e)) c.end_line.ensures.line c.end_line.ensures.number).1

use Rattle.std.proofs.Common.{◌≡◌, ◌+◌, sym, ◌∙◌, arith}
use Rattle.edge_trace.proofs.StandingFor.{number_of_line, between_lines, within_line}
use Rattle.edge_trace.proofs.reader.EdgeReader.line_number.Goals as goal

pub returns-then-len-eq0-clause-number : goal.returns-then-len-eq0-clause-number
returns-then-len-eq0-clause-number c = λ seen stands. between_lines c.args.self.now (sym c.len.ensures.length ∙ c.if-len-eq0.true) ∙ (number_of_line c.args.self.now seen stands).0

pub returns-clause-number : goal.returns-clause-number
returns-clause-number c = λ seen stands.
    let number = number_of_line c.args.self.now seen stands in
    let small = number.1 in
    let same : c.saturating_add.result ≡ c.args.self.now.ended + 1 = omega (arith, c.saturating_add.ensures) in
    same ∙ within_line c.args.self.now (λ e. c.if-len-eq0.false (c.len.ensures.length ∙ e)) ∙ number.0

pub returns-then-len-eq0-clause-ended : goal.returns-then-len-eq0-clause-ended
returns-then-len-eq0-clause-ended c = λ number ended. between_lines c.args.self.now (sym c.len.ensures.length ∙ c.if-len-eq0.true) ∙ ended.number_is

pub returns-clause-ended : goal.returns-clause-ended
returns-clause-ended c = λ number ended.
    let small = ended.small in
    let same : c.saturating_add.result ≡ c.args.self.now.ended + 1 = omega (arith, c.saturating_add.ensures) in
    same ∙ within_line c.args.self.now (λ e. c.if-len-eq0.false (c.len.ensures.length ∙ e)) ∙ ended.number_is

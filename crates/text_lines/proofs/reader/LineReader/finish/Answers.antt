use Rattle.std.proofs.Common.{refl}
use Rattle.text_lines.proofs.Feeding.{going_of, stopped_finishes, number_of_line, number_stays, finishes}
use Rattle.text_lines.proofs.reader.LineReader.finish.Goals as goal

pub returns-then-self-clause-whole : goal.returns-then-self-clause-whole
returns-then-self-clause-whole c = λ seen stands. stopped_finishes c.args.self.now seen stands c.if-self.true

pub returns-then-self-clause-ends : goal.returns-then-self-clause-ends
returns-then-self-clause-ends c = λ seen stands. record { is_closed = c.if-self.true; number_is = number_of_line c.args.self.now seen stands }

pub returns-clause-whole : goal.returns-clause-whole
returns-clause-whole c = λ seen stands. finishes c.args.self.now _ seen (going_of c.args.self.now seen stands c.if-self.false) refl refl _ refl

pub returns-clause-ends : goal.returns-clause-ends
returns-clause-ends c = λ seen stands. record { is_closed = refl; number_is = number_stays c.args.self.now _ seen stands refl }

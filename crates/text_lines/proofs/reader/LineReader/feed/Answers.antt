use Rattle.text_lines.proofs.Feeding.{going_of, stopped_stands, stopped_grows}
use Rattle.text_lines.proofs.reader.LineReader.feed.Goals as goal

pub returns-then-self-clause-stands : goal.returns-then-self-clause-stands
returns-then-self-clause-stands c = λ seen stands. stopped_stands c.args.self.now seen c.args.byte stands c.if-self.true

pub returns-then-self-clause-grows : goal.returns-then-self-clause-grows
returns-then-self-clause-grows c = λ seen stands. stopped_grows c.args.self.now seen c.args.byte stands c.if-self.true

pub returns-clause-stands : goal.returns-clause-stands
returns-clause-stands c = λ seen stands. (c.take.ensures seen (c.begin.ensures seen (going_of c.args.self.now seen stands c.if-self.false))).stands

pub returns-clause-grows : goal.returns-clause-grows
returns-clause-grows c = λ seen stands. (c.take.ensures seen (c.begin.ensures seen (going_of c.args.self.now seen stands c.if-self.false))).grows

use Rattle.std.proofs.Common.{◌∙◌}
use Rattle.text_lines.proofs.Feeding.{number_of_line, number_same}
use Rattle.text_lines.proofs.reader.LineReader.line_number.Goals as goal

pub returns-clause-same : goal.returns-clause-same
returns-clause-same c = number_same c.args.self.now

pub returns-clause-number : goal.returns-clause-number
returns-clause-number c = λ seen stands. number_same c.args.self.now ∙ number_of_line c.args.self.now seen stands

pub returns-clause-ended : goal.returns-clause-ended
returns-clause-ended c = λ number ended. number_same c.args.self.now ∙ ended.number_is

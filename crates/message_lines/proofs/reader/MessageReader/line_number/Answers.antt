use Rattle.message_lines.proofs.Standing.{number_of_line}
use Rattle.message_lines.proofs.reader.MessageReader.line_number.Goals as goal

pub returns-clause-number : goal.returns-clause-number
returns-clause-number c = λ setup seen stands. number_of_line setup c.args.self.now seen c.line_number.result stands c.line_number.ensures.same (λ lines_stand. c.line_number.ensures.number seen lines_stand)

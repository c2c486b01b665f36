use Rattle.report_text.proofs.Reading.{written_none, written_more}
use Rattle.report_text.proofs.hex.+push_hex.Goals as goal

pub returns-then-width-eq0-clause-bytes : goal.returns-then-width-eq0-clause-bytes
returns-then-width-eq0-clause-bytes t c = written_none c.args.width c.args.number c.args.out.now.bytes c.if-width-eq0.true

pub returns-clause-bytes : goal.returns-clause-bytes
returns-clause-bytes t c = written_more c.args.width c.args.number c.args.out.now.bytes c.push_hex.new.out.bytes c.push_nibble.new.out.bytes c.if-width-eq0.false c.push_hex.ensures.bytes c.push_nibble.ensures.bytes

use Rattle.std.proofs.Common.{refl, arith}
use Rattle.text_lines.proofs.Feeding.{takes_past, takes_lf, takes_too_long, takes_byte}
use Rattle.text_lines.proofs.reader.LineReader.take.Goals as goal

pub returns-then-self-eq0 : goal.returns-then-self-eq0
returns-then-self-eq0 c = λ seen ready. takes_past c.args.self.now seen ready _ c.args.byte c.if-self-eq0.true refl refl

pub returns-then-byte-eq10 : goal.returns-then-byte-eq10
returns-then-byte-eq10 c = λ seen ready. takes_lf c.args.self.now seen ready _ c.args.byte c.if-byte-eq10.true c.if-self-eq0.false refl refl refl refl refl

pub returns-then-len-ge-LINE_LIMIT : goal.returns-then-len-ge-LINE_LIMIT
returns-then-len-ge-LINE_LIMIT c = λ seen ready. takes_too_long c.args.self.now seen ready _ c.args.byte c.if-self-eq0.false c.if-byte-eq10.false (let l = c.len.ensures.length in omega arith) refl refl

pub returns : goal.returns
returns c = λ seen ready. takes_byte c.args.self.now seen ready _ c.args.byte c.if-self-eq0.false c.if-byte-eq10.false (let l = c.len.ensures.length in omega arith) refl refl c.push.ensures refl refl

use Rattle.std.proofs.Common.{refl}
use Rattle.message_lines.proofs.Standing.{going_of, stopped_of, stopped_whole, stopped_number, stopped_ends, whole_end, stops_end, ends_at, last_grows}
use Rattle.message_lines.proofs.reader.MessageReader.finish.Goals as goal

pub returns-then-self-clause-whole : goal.returns-then-self-clause-whole
returns-then-self-clause-whole c = λ setup seen stands. stopped_whole setup c.args.self.now seen (stopped_of setup c.args.self.now seen stands c.if-self.true)

pub returns-then-self-clause-ends : goal.returns-then-self-clause-ends
returns-then-self-clause-ends c = λ setup seen stands. stopped_number setup c.args.self.now seen (stopped_of setup c.args.self.now seen stands c.if-self.true)

pub returns-then-self-clause-stops : goal.returns-then-self-clause-stops
returns-then-self-clause-stops c = λ setup seen number fault stands e. stopped_ends setup c.args.self.now seen (stopped_of setup c.args.self.now seen stands c.if-self.true) number fault e

pub returns-clause-whole : goal.returns-clause-whole
returns-clause-whole c = λ setup seen stands.
    let going = going_of setup c.args.self.now seen stands c.if-self.false in
    whole_end setup c.args.self.now (record c.args.self.now { lines = c.finish.new.self }) seen going c.last_line-ended.result c.judge.result refl
    (last_grows c.finish.new.self seen c.finish.result c.last_line-ended.result c.last_line-ended.ensures (c.finish.ensures.whole seen going.lines_stand)) c.judge.ensures

pub returns-clause-ends : goal.returns-clause-ends
returns-clause-ends c = λ setup seen stands.
    let going = going_of setup c.args.self.now seen stands c.if-self.false in
    ends_at setup c.args.self.now _ seen going (c.finish.ensures.ends seen going.lines_stand) refl

pub returns-clause-stops : goal.returns-clause-stops
returns-clause-stops c = λ setup seen number fault stands e.
    let going = going_of setup c.args.self.now seen stands c.if-self.false in
    stops_end setup c.args.self.now _ seen going c.last_line-ended.result c.judge.result number fault refl
    (last_grows c.finish.new.self seen c.finish.result c.last_line-ended.result c.last_line-ended.ensures (c.finish.ensures.whole seen going.lines_stand)) c.judge.ensures refl e

use Rattle.std.proofs.Common.{◌∷◌, ◌++◌, [], refl}
use Rattle.message_lines.proofs.Standing.{going_of, stopped_of, stopped_stands, stopped_grows, grows_byte, stands_byte, ended_at_fault}
use Rattle.message_lines.proofs.reader.MessageReader.feed.Goals as goal

pub returns-then-self-clause-stands : goal.returns-then-self-clause-stands
returns-then-self-clause-stands c = λ setup seen stands. stopped_stands setup c.args.self.now seen (stopped_of setup c.args.self.now seen stands c.if-self.true) c.args.byte

pub returns-then-self-clause-grows : goal.returns-then-self-clause-grows
returns-then-self-clause-grows c = λ setup seen stands. stopped_grows setup c.args.self.now seen (stopped_of setup c.args.self.now seen stands c.if-self.true) c.args.byte

pub returns-then-self-clause-stops : goal.returns-then-self-clause-stops
returns-then-self-clause-stops c = λ setup seen number fault stands e. ended_at_fault setup c.args.self.now (seen ++ c.args.byte ∷ []) number fault (stopped_stands setup c.args.self.now seen (stopped_of setup c.args.self.now seen stands c.if-self.true) c.args.byte) e

pub returns-clause-stands : goal.returns-clause-stands
returns-clause-stands c = λ setup seen stands.
    let going = going_of setup c.args.self.now seen stands c.if-self.false in
    stands_byte setup c.args.self.now _ seen going c.args.byte c.feed-ended.result c.judge-answer.result refl (c.feed-ended.ensures.stands seen going.lines_stand) (c.feed-ended.ensures.grows seen going.lines_stand) c.judge-answer.ensures c.is_fault-self.ensures

pub returns-clause-grows : goal.returns-clause-grows
returns-clause-grows c = λ setup seen stands.
    let going = going_of setup c.args.self.now seen stands c.if-self.false in
    grows_byte setup c.args.self.now (record c.args.self.now { lines = c.feed-ended.new.self }) seen going c.args.byte c.feed-ended.result c.judge-answer.result refl (c.feed-ended.ensures.grows seen going.lines_stand) c.judge-answer.ensures

pub returns-clause-stops : goal.returns-clause-stops
returns-clause-stops c = λ setup seen number fault stands e.
    let going = going_of setup c.args.self.now seen stands c.if-self.false in
    ended_at_fault setup _ (seen ++ c.args.byte ∷ []) number fault
    (stands_byte setup c.args.self.now _ seen going c.args.byte c.feed-ended.result c.judge-answer.result refl (c.feed-ended.ensures.stands seen going.lines_stand) (c.feed-ended.ensures.grows seen going.lines_stand) c.judge-answer.ensures c.is_fault-self.ensures) e

use Rattle.std.proofs.Common.{refl}
use Rattle.message_lines.specs.Inputs.{line_number_of, told_of}
use Rattle.simulate_command.proofs.Taking.{sent-beside, ends-with_nothing, ends-with_one, ends-with_put, ends-with_refusal, ends-with_fault}
use Rattle.simulate_command.proofs.run.RunTaskRun.finish.Goals as goal

pub send-requires : goal.send-requires
send-requires g c =
    let before = c.requires.2 in
    (before.0, before.1, _, sent-beside before.0 before.1 c.args.self.now _ _ refl refl before.3.sent)

pub returns-in-None-clause-ends : goal.returns-in-None-clause-ends
returns-in-None-clause-ends g c = λ task bytes before.
    let setup = before.0 in
    let seed = before.1 in
    let reads = before.3 in
    rw before.2 (ends-with_nothing setup seed c.args.self.now bytes reads _ (c.in-None.ensures.whole setup bytes reads.lines))

pub returns-in-Ok-clause-ends : goal.returns-in-Ok-clause-ends
returns-in-Ok-clause-ends g c = λ task bytes before.
    let setup = before.0 in
    let seed = before.1 in
    let reads = before.3 in
    rw before.2 (ends-with_one setup seed c.args.self.now bytes reads c.in-Some-Ok.message c.send.new.self _ _ (rw c.in-Some-Ok.field-0-is at (c.in-Some-Ok.ensures.whole setup bytes reads.lines))
    (c.in-Ok.ensures.sent setup seed (line_number_of setup bytes) (told_of setup bytes) (sent-beside setup seed c.args.self.now _ (told_of setup bytes) refl refl reads.sent)))

pub returns-in-Err-Put-clause-ends : goal.returns-in-Err-Put-clause-ends
returns-in-Err-Put-clause-ends g c = λ task bytes before.
    let setup = before.0 in
    let seed = before.1 in
    let reads = before.3 in
    rw before.2 (ends-with_put setup seed c.args.self.now bytes reads c.in-Some-Ok.message _ _ (rw c.in-Some-Ok.field-0-is at (c.in-Some-Ok.ensures.whole setup bytes reads.lines))
    (rw c.in-Err-Put.field-0-is at (c.in-Err-Put.ensures.stopped setup seed (line_number_of setup bytes) (told_of setup bytes) (sent-beside setup seed c.args.self.now _ (told_of setup bytes) refl refl reads.sent))))

pub returns-in-Err-Line-clause-ends : goal.returns-in-Err-Line-clause-ends
returns-in-Err-Line-clause-ends g c = λ task bytes before.
    let setup = before.0 in
    let seed = before.1 in
    let reads = before.3 in
    rw before.2 (ends-with_refusal setup seed c.args.self.now bytes reads c.in-Some-Ok.message c.line_number.result _ _ _ (rw c.in-Some-Ok.field-0-is at (c.in-Some-Ok.ensures.whole setup bytes reads.lines))
    (c.line_number.ensures.ended _ (rw c.send.ensures.reader (c.finish.ensures.ends setup bytes reads.lines)))
    (rw c.in-Err-Line.field-0-is at (c.in-Err-Line.ensures.stopped setup seed (line_number_of setup bytes) (told_of setup bytes) (sent-beside setup seed c.args.self.now _ (told_of setup bytes) refl refl reads.sent))))

pub returns-in-Some-Err-clause-ends : goal.returns-in-Some-Err-clause-ends
returns-in-Some-Err-clause-ends g c = λ task bytes before.
    let setup = before.0 in
    let seed = before.1 in
    let reads = before.3 in
    rw before.2 (ends-with_fault setup seed c.args.self.now bytes reads c.line_number-in-Some-Err.result c.in-Some-Err.fault _ (rw c.in-Some-Err.field-0-is at (c.in-Some-Err.ensures.whole setup bytes reads.lines))
    (c.line_number-in-Some-Err.ensures.ended _ (c.finish.ensures.ends setup bytes reads.lines)))

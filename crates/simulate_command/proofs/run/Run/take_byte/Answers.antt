use Rattle.std.proofs.Common.{[], ◌∷◌, ◌++◌, refl}
use Rattle.message_lines.specs.Inputs.{line_number_of, told_of}
use Rattle.simulate_command.proofs.Taking.{sent-beside, took-nothing, took-one, put-one, refused-at, faulty-at}
use Rattle.simulate_command.proofs.run.Run.take_byte.Goals as goal

pub send-requires : goal.send-requires
send-requires g c =
    let before = c.requires in
    (before.0, before.1, _, sent-beside before.0 before.1 c.args.self.now _ _ refl refl before.3.sent)

pub returns-in-None-clause-took : goal.returns-in-None-clause-took
returns-in-None-clause-took g c = λ setup seed bytes before.
    took-nothing setup seed c.args.self.now bytes before c.args.byte _ _ refl refl (c.feed.ensures.stands setup bytes before.lines) (c.in-None.ensures.grows setup bytes before.lines)

pub returns-in-Ok-clause-took : goal.returns-in-Ok-clause-took
returns-in-Ok-clause-took g c = λ setup seed bytes before.
    took-one setup seed c.args.self.now bytes before c.args.byte c.in-Some-Ok.message c.feed.new.self c.send.new.self _ _ c.send.ensures.reader (c.feed.ensures.stands setup bytes before.lines) (rw c.in-Some-Ok.field-0-is at (c.in-Some-Ok.ensures.grows setup bytes before.lines))
    (c.in-Ok.ensures.sent setup seed (line_number_of setup (bytes ++ c.args.byte ∷ [])) (told_of setup bytes) (sent-beside setup seed c.args.self.now _ (told_of setup bytes) refl refl before.sent))

pub returns-in-Err-Put-clause-stopped : goal.returns-in-Err-Put-clause-stopped
returns-in-Err-Put-clause-stopped g c = λ setup seed bytes before.
    put-one setup seed c.args.self.now bytes before c.args.byte c.in-Some-Ok.message _ _ (rw c.in-Some-Ok.field-0-is at (c.in-Some-Ok.ensures.grows setup bytes before.lines))
    (rw c.in-Err-Put.field-0-is at (c.in-Err-Put.ensures.stopped setup seed (line_number_of setup (bytes ++ c.args.byte ∷ [])) (told_of setup bytes) (sent-beside setup seed c.args.self.now _ (told_of setup bytes) refl refl before.sent)))

pub returns-in-Err-Line-clause-stopped : goal.returns-in-Err-Line-clause-stopped
returns-in-Err-Line-clause-stopped g c = λ setup seed bytes before.
    refused-at setup seed c.args.self.now bytes before c.args.byte c.in-Some-Ok.message c.line_number.result _ _ _ (rw c.in-Some-Ok.field-0-is at (c.in-Some-Ok.ensures.grows setup bytes before.lines))
    (c.line_number.ensures.number setup _ (rw c.send.ensures.reader (c.feed.ensures.stands setup bytes before.lines)))
    (rw c.in-Err-Line.field-0-is at (c.in-Err-Line.ensures.stopped setup seed (line_number_of setup (bytes ++ c.args.byte ∷ [])) (told_of setup bytes) (sent-beside setup seed c.args.self.now _ (told_of setup bytes) refl refl before.sent)))

pub returns-in-Some-Err-clause-stopped : goal.returns-in-Some-Err-clause-stopped
returns-in-Some-Err-clause-stopped g c = λ setup seed bytes before.
    faulty-at setup seed c.args.self.now bytes before c.args.byte c.line_number-in-Some-Err.result c.in-Some-Err.fault _ (rw c.in-Some-Err.field-0-is at (c.in-Some-Err.ensures.grows setup bytes before.lines))
    (λ number found. c.line_number-in-Some-Err.ensures.ended number (c.feed.ensures.stops setup bytes number _ before.lines found))

-- Pulses with these ticks are the frame.
use Rattle.std.proofs.Common.{◌≡◌, arith}
use Rattle.std.proofs.lemmas.Grind.{common_steps}
use Rattle.sent_frame.specs.Frames.{ticks_of}
use Rattle.sent_frame.proofs.SentTicks.{is_sent_frame}
use Rattle.sent_frame.proofs.pulses.pulses_of.Goals as goal

pub returns-then-pause-clause-sent : goal.returns-then-pause-clause-sent
returns-then-pause-clause-sent c =
    let ticks : c.push-then-pause.new.self.items ≡ ticks_of c.args.setup.now c.args.frame.now c.args.pause = grind (arith, common_steps) in
    is_sent_frame c.args.setup.now c.args.frame.now c.args.pause _ _ ticks c.values-nibbles.ensures.values c.crc.ensures.range c.requires.as_many c.requires.status c.values-nibbles.ensures.nibbles.each

pub returns-else-pause-clause-sent : goal.returns-else-pause-clause-sent
returns-else-pause-clause-sent c =
    let ticks : c.push-3.new.self.items ≡ ticks_of c.args.setup.now c.args.frame.now c.args.pause = grind (arith, common_steps) in
    is_sent_frame c.args.setup.now c.args.frame.now c.args.pause _ _ ticks c.values-nibbles.ensures.values c.crc.ensures.range c.requires.as_many c.requires.status c.values-nibbles.ensures.nibbles.each

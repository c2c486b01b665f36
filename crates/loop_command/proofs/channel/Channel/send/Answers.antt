-- The edges of a message that is sent are got.
use Rattle.std.proofs.Common.{◌++◌, sym, subst, ap}
use Rattle.loop_command.specs.Listened.{AreInRange, HaveGot}
use Rattle.loop_command.proofs.Turns.{range-more, sends-more}
use Rattle.loop_command.proofs.channel.Channel.send.Goals as goal

pub take_edges-requires-clause-in_range : goal.take_edges-requires-clause-in_range
take_edges-requires-clause-in_range c =
    subst AreInRange (sym c.as_slice.ensures.value)
    (range-more c.simulated_edges_are_honest.ensures.orderly c.args.self.now c.requires.0 c.requires.1 c.requires.2 c.args.message.now c.next.new.self c.next.new.wobble c.in-Ok.edges.items (sym c.in-Ok.ensures))

pub returns-in-Ok-clause-sent : goal.returns-in-Ok-clause-sent
returns-in-Ok-clause-sent c = λ setup edges before.
    sends-more c.simulated_edges_are_honest.ensures.orderly c.args.self.now setup edges before c.args.message.now c.next.new.self c.next.new.wobble c.in-Ok.edges.items (sym c.in-Ok.ensures) c.take_edges.new.self
    (subst (HaveGot c.take_edges.new.self setup) (ap (λ l. edges ++ l) c.as_slice.ensures.value) (c.take_edges.ensures setup edges before.got))

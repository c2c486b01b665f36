-- The receiver takes the item, and is of the setup that it was of.
use Rattle.std.proofs.Common.{◌∙◌}
use Rattle.loop_command.proofs.listener.hear.Goals as goal

pub take-requires-clause-takes : goal.take-requires-clause-takes
take-requires-clause-takes c = (c.requires.1, c.requires.2.taken, c.requires.3, c.requires.4)

pub returns : goal.returns
returns c = λ setup items got. record {
  is_of = c.take.ensures.setup ∙ got.is_of;
  taken = c.take.ensures.taken items got.taken;
}

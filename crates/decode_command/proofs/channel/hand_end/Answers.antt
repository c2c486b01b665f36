-- The end is taken, and all reports are counted.
use Rattle.decode_command.specs.Channels.{items_on}
use Rattle.decode_command.proofs.OneMore.{are-of_end, counted-final, may-end}
use Rattle.decode_command.proofs.channel.hand_end.Goals as goal

pub take-requires-clause-takes : goal.take-requires-clause-takes
take-requires-clause-takes c = may-end c.args.channel.now c.requires.follows.0 c.requires.follows.2 c.requires.follows.1

pub returns-clause-counted : goal.returns-clause-counted
returns-clause-counted c = λ edges before.
    counted-final c.args.channel.now c.take.new.self edges c.take.ensures.setup (c.take.ensures.taken (items_on c.args.channel.now.setup edges) before)

pub returns-clause-given : goal.returns-clause-given
returns-clause-given c = λ edges before.
    are-of_end c.args.channel.now.setup edges c.take.new.reports.items (c.take.ensures.grows (items_on c.args.channel.now.setup edges) before)

-- The edge is passed over, or taken.
use Rattle.std.proofs.Common.{sym, ◌∙◌}
use Rattle.decode_command.specs.Channels.{items_on}
use Rattle.decode_command.proofs.OneMore.{are-added, follows-more, may-take, nothing-added, still-follows}
use Rattle.decode_command.proofs.channel.hand_edge.Goals as goal

pub take_edge-requires-clause-takes : goal.take_edge-requires-clause-takes
take_edge-requires-clause-takes c = may-take c.args.channel.now c.requires.follows.0 c.args.edge c.requires.in_range c.requires.follows.2 c.requires.follows.1

pub returns-then-reads-clause-follows : goal.returns-then-reads-clause-follows
returns-then-reads-clause-follows c = λ edges before.
    follows-more c.args.channel.now c.take_edge.new.self edges c.args.edge (sym c.reads.ensures ∙ c.if-reads.true) c.take_edge.ensures.setup
    (c.take_edge.ensures.taken (items_on c.args.channel.now.setup edges) before)

pub returns-then-reads-clause-given : goal.returns-then-reads-clause-given
returns-then-reads-clause-given c = λ edges before.
    are-added c.args.channel.now.setup edges c.args.edge c.take_edge.new.reports.items (sym c.reads.ensures ∙ c.if-reads.true)
    (c.take_edge.ensures.grows (items_on c.args.channel.now.setup edges) before)

pub returns-else-reads-clause-follows : goal.returns-else-reads-clause-follows
returns-else-reads-clause-follows c = λ edges before. still-follows c.args.channel.now edges c.args.edge (sym c.reads.ensures ∙ c.if-reads.false) before

pub returns-else-reads-clause-given : goal.returns-else-reads-clause-given
returns-else-reads-clause-given c = λ edges before. c.requires.empty ∙ sym (nothing-added c.args.channel.now.setup edges c.args.edge (sym c.reads.ensures ∙ c.if-reads.false))

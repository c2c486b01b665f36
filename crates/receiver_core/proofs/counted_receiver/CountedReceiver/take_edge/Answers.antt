-- The edge is handed to the receiver, and what that gives is counted.
use Rattle.std.proofs.Common.{List, ◌++◌, ◌∙◌, refl, ap, sym}
use Rattle.line_base.specs.declared.edge.Item.TheVariants as item
use Rattle.receiver_core.specs.declared.report.Report.{Report}
use Rattle.receiver_core.specs.Channels.{so_far}
use Rattle.receiver_core.proofs.CountedReports.{count-room, lost-room, taken-more, taken-quiet}
use Rattle.receiver_core.proofs.counted_receiver.CountedReceiver.take_edge.Goals as goal

pub count_each-requires-clause-lost : goal.count_each-requires-clause-lost
count_each-requires-clause-lost c =
    let old = c.args.self.now in
    let items = c.requires.takes.0 in
    let taken = c.requires.takes.1 in
    lost-room old c.push_edge.new.self items (item.Edge c.args.edge) c.as_slice.result.now taken (c.push_edge.ensures.stands old.setup items taken.reads)
    (c.push_edge.ensures.grows old.setup items taken.reads ∙ ap (λ (r : List Report). so_far old.setup items ++ r) (sym c.as_slice.ensures.value))

pub count_each-requires-clause-room : goal.count_each-requires-clause-room
count_each-requires-clause-room c = count-room c.args.self.now c.requires.takes.0 c.as_slice.result.now c.requires.takes.1 c.requires.takes.3 c.as_slice.ensures.fits

pub returns-then-not-is_empty-clause-taken : goal.returns-then-not-is_empty-clause-taken
returns-then-not-is_empty-clause-taken c = λ items taken.
    let old = c.args.self.now in
    taken-more old (record { setup = old.setup; receiver = c.push_edge.new.self; tally = c.count_each.new.tally }) items (item.Edge c.args.edge) c.as_slice.result.now taken refl (c.push_edge.ensures.stands old.setup items taken.reads)
    (c.push_edge.ensures.grows old.setup items taken.reads ∙ ap (λ (r : List Report). so_far old.setup items ++ r) (sym c.as_slice.ensures.value))
    c.as_slice.ensures.fits c.count_each.ensures.few (c.count_each.ensures.counted (so_far old.setup items) taken.counted_are)

pub returns-else-not-is_empty-clause-taken : goal.returns-else-not-is_empty-clause-taken
returns-else-not-is_empty-clause-taken c = λ items taken.
    let old = c.args.self.now in
    taken-quiet old (record { setup = old.setup; receiver = c.push_edge.new.self; tally = old.tally }) items (item.Edge c.args.edge) c.push_edge.new.reports.items taken refl (c.push_edge.ensures.stands old.setup items taken.reads)
    (c.push_edge.ensures.grows old.setup items taken.reads) (sym c.is_empty.ensures ∙ c.if-not-is_empty.false) refl

-- The item is handed to the receiver, and what that gives is counted.
use Rattle.std.proofs.Common.{List, ◌++◌, ◌∙◌, refl, ap, sym}
use Rattle.receiver_core.specs.declared.report.Report.{Report}
use Rattle.receiver_core.specs.Channels.{so_far}
use Rattle.receiver_core.proofs.CountedReports.{count-room, lost-room, taken-more}
use Rattle.receiver_core.proofs.counted_receiver.CountedReceiver.take.Goals as goal

pub count_each-requires-clause-lost : goal.count_each-requires-clause-lost
count_each-requires-clause-lost c =
    let old = c.args.self.now in
    let items = c.requires.takes.0 in
    let taken = c.requires.takes.1 in
    lost-room old c.push_into.new.self items c.args.item c.as_slice.result.now taken (c.push_into.ensures.stands old.setup items taken.reads)
    (c.push_into.ensures.grows old.setup items taken.reads ∙ ap (λ (r : List Report). so_far old.setup items ++ r) (sym c.as_slice.ensures.value))

pub count_each-requires-clause-room : goal.count_each-requires-clause-room
count_each-requires-clause-room c = count-room c.args.self.now c.requires.takes.0 c.as_slice.result.now c.requires.takes.1 c.requires.takes.3 c.as_slice.ensures.fits

pub returns-clause-taken : goal.returns-clause-taken
returns-clause-taken c = λ items taken.
    let old = c.args.self.now in
    taken-more old (record { setup = old.setup; receiver = c.push_into.new.self; tally = c.count_each.new.tally }) items c.args.item c.as_slice.result.now taken refl (c.push_into.ensures.stands old.setup items taken.reads)
    (c.push_into.ensures.grows old.setup items taken.reads ∙ ap (λ (r : List Report). so_far old.setup items ++ r) (sym c.as_slice.ensures.value))
    c.as_slice.ensures.fits c.count_each.ensures.few (c.count_each.ensures.counted (so_far old.setup items) taken.counted_are)

-- Each kind of item adds what its link answers, and the edges that it counts.
use Rattle.std.proofs.Common.{◌+◌, [], sym, ap, subst, add-zero, arith}
use Rattle.line_base.specs.declared.edge.Item.{Item}
use Rattle.line_base.specs.Items.{edges_counted}
use Rattle.receiver_core.specs.Readers.{IsTakeable}
use Rattle.receiver_core.proofs.OpenStretches.{open-few}
use Rattle.receiver_core.specs.OpenStretches.{open_stretch}
use Rattle.receiver_core.proofs.Links.{receiver-more, receiver-grows, no-more, few-gap}
use Rattle.line_base.specs.declared.edge.Item.TheVariants as item
use Rattle.receiver_core.proofs.receiver.Receiver.push_into.Goals as goal

pub push_edge-requires-clause-takeable : goal.push_edge-requires-clause-takeable
push_edge-requires-clause-takeable c =
    let given = c.requires.takeable in
    (given.0, given.1, given.2, subst (λ (t : Item). IsTakeable (edges_counted given.1) t) c.in-Edge.is given.3)

pub end-requires-clause-stands : goal.end-requires-clause-stands
end-requires-clause-stands c =
    let given = c.requires.takeable in
    (given.0, open_stretch given.1, given.2.reads, omega (arith, open-few given.1, given.2.few, given.2.numbered))

pub returns-in-Edge-clause-stands : goal.returns-in-Edge-clause-stands
returns-in-Edge-clause-stands c = λ setup seen before. rw c.in-Edge.is (c.push_edge.ensures.stands setup seen before)

pub returns-in-Edge-clause-grows : goal.returns-in-Edge-clause-grows
returns-in-Edge-clause-grows c = λ setup seen before. rw c.in-Edge.is (c.push_edge.ensures.grows setup seen before)

pub returns-in-Gap-clause-stands : goal.returns-in-Gap-clause-stands
returns-in-Gap-clause-stands c = λ setup seen before.
    rw c.in-Gap.is (receiver-more setup c.args.self.now (c.args.self.now.number + c.in-Gap.count) c.gap.new.self seen (item.Gap c.in-Gap.first c.in-Gap.count) before
    (ap (λ n. c.args.self.now.number + n) (sym (add-zero c.in-Gap.count)))
    (few-gap c.requires.takeable.0 c.requires.takeable.1 c.args.self.now c.args.item c.in-Gap.first c.in-Gap.count c.requires.takeable.2 c.in-Gap.is c.requires.takeable.3) (c.gap.ensures.stands setup c.args.self.now.number (open_stretch seen) before.reads))

pub returns-in-Gap-clause-grows : goal.returns-in-Gap-clause-grows
returns-in-Gap-clause-grows c = λ setup seen before.
    rw c.in-Gap.is (receiver-grows setup c.args.self.now seen (item.Gap c.in-Gap.first c.in-Gap.count) c.gap.new.reports.items before (c.gap.ensures.grows setup c.args.self.now.number (open_stretch seen) before.reads))

pub returns-in-End-clause-stands : goal.returns-in-End-clause-stands
returns-in-End-clause-stands c = λ setup seen before.
    rw c.in-End.is (receiver-more setup c.args.self.now c.args.self.now.number c.end.new.self seen item.End before
    (sym (add-zero c.args.self.now.number)) before.few (c.end.ensures.stands setup c.args.self.now.number (open_stretch seen) before.reads))

pub returns-in-End-clause-grows : goal.returns-in-End-clause-grows
returns-in-End-clause-grows c = λ setup seen before.
    rw c.in-End.is (receiver-grows setup c.args.self.now seen item.End c.end.new.reports.items before (c.end.ensures.grows setup c.args.self.now.number (open_stretch seen) before.reads))

pub returns-in-Cut-clause-stands : goal.returns-in-Cut-clause-stands
returns-in-Cut-clause-stands c = λ setup seen before.
    rw c.in-Cut.is (receiver-more setup c.args.self.now c.args.self.now.number c.cut.new.self seen item.Cut before
    (sym (add-zero c.args.self.now.number)) before.few (c.cut.ensures.stands setup c.args.self.now.number (open_stretch seen) before.reads))

pub returns-in-Cut-clause-grows : goal.returns-in-Cut-clause-grows
returns-in-Cut-clause-grows c = λ setup seen before.
    rw (c.in-Cut.is, c.requires.empty) (receiver-grows setup c.args.self.now seen item.Cut [] before (no-more setup c.args.self.now.number (open_stretch seen) item.Cut (c.cut.ensures.grows setup c.args.self.now.number (open_stretch seen) before.reads)))

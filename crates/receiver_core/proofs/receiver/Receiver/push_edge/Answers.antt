-- An edge adds what its link answers, and counts as one.
use Rattle.std.proofs.Common.{◌+◌, refl, arith}
use Rattle.line_base.specs.declared.edge.Item.TheVariants as item
use Rattle.receiver_core.specs.OpenStretches.{open_stretch}
use Rattle.receiver_core.proofs.OpenStretches.{open-few}
use Rattle.receiver_core.proofs.Links.{receiver-more, receiver-grows, few-edge}
use Rattle.receiver_core.proofs.receiver.Receiver.push_edge.Goals as goal

pub edge-requires-clause-stands : goal.edge-requires-clause-stands
edge-requires-clause-stands c =
    let given = c.requires.takeable in
    (given.0, open_stretch given.1, given.2.reads, omega (arith, open-few given.1, given.3.1))

pub returns-clause-stands : goal.returns-clause-stands
returns-clause-stands c = λ setup seen before.
    receiver-more setup c.args.self.now (c.args.self.now.number + 1) c.edge.new.self seen (item.Edge c.args.edge) before
    refl (few-edge c.requires.takeable.0 c.requires.takeable.1 c.args.self.now (item.Edge c.args.edge) c.args.edge c.requires.takeable.2 refl c.requires.takeable.3) (c.edge.ensures.stands setup (open_stretch seen) before.reads)

pub returns-clause-grows : goal.returns-clause-grows
returns-clause-grows c = λ setup seen before.
    receiver-grows setup c.args.self.now seen (item.Edge c.args.edge) c.edge.new.reports.items before (c.edge.ensures.grows setup (open_stretch seen) before.reads)

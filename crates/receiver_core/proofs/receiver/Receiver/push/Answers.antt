-- The reports of an honest trace are those of its messages.
use Rattle.receiver_core.proofs.Traces.{tolerance-edge, tolerance-end}
use Rattle.std.proofs.Common.{map}
use Rattle.line_base.specs.declared.edge.Item.TheVariants.{Edge}
use Rattle.receiver_core.proofs.receiver.Receiver.push.Goals as goal

pub returns-clause-tolerance : goal.returns-clause-tolerance
returns-clause-tolerance c = λ setup messages edges before ends honest.
    tolerance-end setup messages edges c.args.item _ (c.push_into.ensures.grows setup (map Edge edges) before) ends honest

pub returns-clause-tolerance_so_far : goal.returns-clause-tolerance_so_far
returns-clause-tolerance_so_far c = λ setup messages edges more edge before is honest.
    tolerance-edge setup messages edges more edge c.args.item _ (c.push_into.ensures.grows setup (map Edge edges) before) is honest

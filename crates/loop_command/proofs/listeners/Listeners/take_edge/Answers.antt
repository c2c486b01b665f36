-- Both get the edge.
use Rattle.std.proofs.Common.{map, arith}
use Rattle.std.proofs.lemmas.List.{length-map}
use Rattle.line_base.specs.declared.edge.Item.TheVariants as item
use Rattle.loop_command.proofs.ThinnedListeners.{both-got, counted-map}
use Rattle.loop_command.proofs.listeners.Listeners.take_edge.Goals as goal

pub hear-requires : goal.hear-requires
hear-requires c =
    let setup = c.requires.takeable.0 in
    let edges = c.requires.takeable.1 in
    let few = c.requires.takeable.3 in
    (setup, map item.Edge edges, c.requires.takeable.2.all, (c.requires.in_range, omega (arith, counted-map edges, few)), omega (arith, length-map edges item.Edge, few))

pub returns : goal.returns
returns c = λ setup edges before. both-got c.args.self.now c.hear.new.receiver c.take_edge.new.self setup edges c.args.edge before c.hear.ensures (c.take_edge.ensures setup edges before.thinned)

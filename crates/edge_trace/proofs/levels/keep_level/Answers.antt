use Rattle.edge_trace.proofs.KeptEdges.{none_below}
use Rattle.edge_trace.proofs.levels.keep_level.Goals as goal

pub push-requires-clause-below : goal.push-requires-clause-below
push-requires-clause-below c = none_below c.args.edge.line c.args.edge.time c.args.edges.now c.requires.empty

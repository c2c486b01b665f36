use Rattle.std.specs.Option.{option_copied}
use Rattle.line_base.proofs.Cuts.{left_len}
use Rattle.edge_trace.proofs.WideRows.{LevelsSoFar}
use Rattle.edge_trace.proofs.wide.levels_of.Given as goal

abbrev pub invariant-fields : goal.invariant-fields
invariant-fields l = LevelsSoFar l.fn.text l.levels.items (option_copied l.rest)

abbrev pub decreases-fields : goal.decreases-fields
decreases-fields l = left_len (option_copied l.rest)

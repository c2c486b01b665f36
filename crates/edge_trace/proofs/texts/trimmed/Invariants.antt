use Rattle.std.proofs.Common.{◌≡◌, drop}
use Rattle.edge_trace.specs.Fields.{without_blanks}
use Rattle.edge_trace.proofs.texts.trimmed.Given as goal

abbrev pub invariant-loop-i : goal.invariant-loop-i
invariant-loop-i l = without_blanks (drop l.i l.field) ≡ without_blanks l.field

use Rattle.std.proofs.Common.{◌≡◌, ◌-◌, ◌≤◌, replicate}
use Rattle.line_base.specs.Texts.{number_after, capped}
use Rattle.edge_trace.proofs.digits.zeros_after.Given as goal

abbrev pub invariant-loop : goal.invariant-loop
invariant-loop l = (capped (number_after l.number (replicate (l.places - l.counter) 48)) ≡ capped (number_after l.before (replicate l.places 48))) × (l.number ≤ 1000000000000001)

-- The zeros so far.
use Rattle.std.proofs.Common.{◌≡◌, ◌++◌, replicate, false}
use Rattle.psi5_downlink.proofs.verdict.push_interval.Given as goal

abbrev pub invariant-loop : goal.invariant-loop
invariant-loop l = l.bits ≡ l.fn.bits ++ replicate l.counter false

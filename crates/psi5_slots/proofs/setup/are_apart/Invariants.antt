-- The windows that are left decide.
use Rattle.std.proofs.Common.{◌≡◌, length}
use Rattle.psi5_slots.specs.Setup.{are_apart}
use Rattle.psi5_slots.proofs.setup.are_apart.Given as goal

abbrev pub invariant-windows : goal.invariant-windows
invariant-windows l = are_apart l.frame l.last l.rest ≡ are_apart l.fn.frame l.fn.before l.fn.windows

abbrev pub decreases-windows : goal.decreases-windows
decreases-windows l = length l.rest

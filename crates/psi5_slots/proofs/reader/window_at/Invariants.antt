-- The windows that are left, by their numbers.
use Rattle.std.proofs.Common.{◌≡◌, ◌+◌, length}
use Rattle.std.specs.Prelude.{option_map}
use Rattle.psi5_slots.specs.Kept.{window_in}
use Rattle.psi5_slots.proofs.reader.window_at.Given as goal

abbrev pub invariant-windows : goal.invariant-windows
invariant-windows l = record {
  number : option_map (λ number. l.number + number) (window_in l.rest l.offset) ≡ window_in l.fn.windows l.fn.offset;
  counted : l.number + length l.rest ≡ length l.fn.windows;
}

abbrev pub decreases-windows : goal.decreases-windows
decreases-windows l = length l.rest

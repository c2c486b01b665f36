-- The ticks so far.
use Rattle.std.proofs.Common.{◌≡◌, ℕ, ◌+◌, ◌∷◌, length, take, map}
use Rattle.spc_sim.proofs.spc_answers.counts_of.Given as goal

abbrev pub invariant-loop-nibble : goal.invariant-loop-nibble
invariant-loop-nibble l = record {
  ticks : l.counts.items ≡ 56 ∷ (12 + l.frame.status) ∷ map {A = ℕ} {B = ℕ} (λ nibble. 12 + nibble) (take l.nibble-index l.nibble-items);
  count : length l.counts.items ≡ 2 + l.nibble-index;
}

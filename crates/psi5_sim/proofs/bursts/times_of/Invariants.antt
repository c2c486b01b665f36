-- The times of the places so far.
use Rattle.std.proofs.Common.{◌≡◌, length, take}
use Rattle.psi5_sim.proofs.BurstTimes.{AreTimes}
use Rattle.psi5_sim.proofs.bursts.times_of.Given as goal

abbrev pub invariant-loop-place : goal.invariant-loop-place
invariant-loop-place l = record {
  times : AreTimes l.fn.start l.fn.half (take l.place-index l.place-items) l.times.items l.last;
  count : length l.times.items ≡ l.place-index;
}

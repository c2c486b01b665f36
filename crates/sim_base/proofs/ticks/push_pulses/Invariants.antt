-- What is there and what the pulses that are left come to are all that is promised; and the time doesn't run away.
use Rattle.std.proofs.Common.{◌≡◌, ◌+◌, ◌*◌, ◌^◌, ◌≤◌, ◌++◌, length, drop, sum}
use Rattle.arrayvec.specs.ArrayVec.{array_vec_len}
use Rattle.link_tolerance.specs.Pulses.{falls_behind}
use Rattle.sim_base.specs.Wobbles.{past}
use Rattle.sim_base.proofs.PushedPulses.{AddsPulses, drawn_lengths}
use Rattle.sim_base.proofs.ticks.push_pulses.Given as goal

abbrev pub invariant-loop-count : goal.invariant-loop-count
invariant-loop-count g l = record {
  adds : AddsPulses l.tick (drop l.count-index l.counts) l.falls.items l.time l.wobble
      (l.fn.falls.items ++ falls_behind l.fn.start (drawn_lengths l.tick l.counts l.fn.wobble)) (l.fn.start + sum (drawn_lengths l.tick l.counts l.fn.wobble)) (past (length l.counts) l.fn.wobble);
  room : array_vec_len l.falls ≡ array_vec_len l.fn.falls + l.count-index;
  in_time : l.time ≤ l.fn.start + l.count-index * 2 ^ 57;
}

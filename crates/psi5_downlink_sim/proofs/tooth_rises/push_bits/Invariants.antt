-- What is there and what the bits that are left come to are all that is promised; and the time doesn't run away.
use Rattle.std.proofs.Common.{◌+◌, ◌*◌, ◌^◌, ◌≤◌, ◌++◌, drop}
use Rattle.arrayvec.specs.ArrayVec.{array_vec_len}
use Rattle.psi5_downlink_tolerance.specs.Trains.{rises_behind}
use Rattle.psi5_downlink_sim.specs.ToothSims.{length_of}
use Rattle.psi5_downlink_sim.proofs.PushedBits.{AddsBits, spans_left}
use Rattle.psi5_downlink_sim.proofs.tooth_rises.push_bits.Given as goal

abbrev pub invariant-loop-bit : goal.invariant-loop-bit
invariant-loop-bit l = record {
  adds : AddsBits l.period (drop l.bit-index l.bits) l.rises.items l.last l.time
      (l.fn.rises.items ++ rises_behind l.fn.start (spans_left l.period 0 l.bits)) (l.fn.start + length_of (spans_left l.period 0 l.bits));
  room : array_vec_len l.rises ≤ array_vec_len l.fn.rises + l.bit-index;
  in_time : l.time ≤ l.fn.start + l.bit-index * 2 ^ 40;
}

-- What is there and what the edges that are left come to are all that is promised.
use Rattle.std.proofs.Common.{◌≡◌, ◌+◌, ◌*◌, ◌++◌, length, drop}
use Rattle.arrayvec.specs.ArrayVec.{array_vec_len}
use Rattle.sim_base.specs.Wobbles.{past}
use Rattle.sim_base.proofs.PushedEdges.{AddsEdges, drawn_edges}
use Rattle.sim_base.proofs.recording.push_edges.Given as goal

abbrev pub invariant-loop-ideal : goal.invariant-loop-ideal
invariant-loop-ideal l = record {
  adds : AddsEdges l.pulses.line l.pulses.level l.pulses.width l.jitter (drop l.ideal-index l.ideals) l.edges.items l.wobble
      (l.fn.edges.items ++ drawn_edges l.pulses.line l.pulses.level l.pulses.width l.jitter l.ideals l.fn.wobble) (past (length l.ideals) l.fn.wobble);
  room : array_vec_len l.edges ≡ array_vec_len l.fn.edges + 2 * l.ideal-index;
}

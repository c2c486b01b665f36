-- What is there and what the edges that are left come to are all that is promised.
use Rattle.std.proofs.Common.{◌≡◌, ◌+◌, ◌++◌, true, length, drop}
use Rattle.arrayvec.specs.ArrayVec.{array_vec_len}
use Rattle.sim_base.specs.Wobbles.{past}
use Rattle.psi5_sim.proofs.PushedEdges.{AddsEdges, drawn_edges}
use Rattle.psi5_sim.proofs.bursts.push_alternating.Given as goal

abbrev pub invariant-loop-ideal : goal.invariant-loop-ideal
invariant-loop-ideal l = record {
  adds : AddsEdges l.line l.level l.jitter (drop l.ideal-index l.ideals) l.edges.items l.wobble
      (l.fn.edges.items ++ drawn_edges l.line true l.jitter l.ideals l.fn.wobble) (past (length l.ideals) l.fn.wobble);
  room : array_vec_len l.edges ≡ array_vec_len l.fn.edges + l.ideal-index;
}

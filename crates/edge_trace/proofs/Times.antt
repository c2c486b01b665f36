-- The times of edges are at most 10^15 ns.
use Rattle.std.proofs.Common.{ℕ, zero, suc, ◌^◌, ◌≤◌, Bool, Option, None, List, [], ◌∷◌, All, arith}
use Rattle.line_base.specs.declared.edge.Edge.{Edge}
use Rattle.line_base.specs.Orderly.{levels_with}
use Rattle.edge_trace.specs.Limits.{edges_of, whole_edges_of}
use Rattle.edge_trace.specs.Ordered.{AreOrdered}
use Rattle.edge_trace.proofs.OrderedLists.{edges_are_ordered, whole_edges_are_ordered}

ordered-in_range : (time : ℕ) (levels : ℕ → Option Bool) (edges : List Edge) → AreOrdered time levels edges → All (λ e. e.time ≤ 10 ^ 15) edges
unfolding AreOrdered
ordered-in_range time levels [] ordered k e small = absurd (omega arith)
ordered-in_range time levels (edge ∷ edges) (later, ordered) zero e small = later.in_range
ordered-in_range time levels (edge ∷ edges) (later, ordered) (suc k) e small = ordered-in_range edge.time (levels_with levels edge.line edge.level) edges ordered k e (omega arith)

-- the time of each edge is at most 10^15 ns
pub edges-in_range : (bytes : List ℕ) → All (λ e. e.time ≤ 10 ^ 15) (edges_of bytes)
edges-in_range bytes = ordered-in_range 0 (λ _. None) (edges_of bytes) (edges_are_ordered bytes)

-- and of each edge of these bytes and no more
pub whole_edges-in_range : (bytes : List ℕ) → All (λ e. e.time ≤ 10 ^ 15) (whole_edges_of bytes)
whole_edges-in_range bytes = ordered-in_range 0 (λ _. None) (whole_edges_of bytes) (whole_edges_are_ordered bytes)

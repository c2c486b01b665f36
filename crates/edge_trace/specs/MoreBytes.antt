-- What further bytes leave of an edge list: all that was told; this project's own.
use Rattle.std.specs.Prelude.{◌≡◌, ℕ, Some, List, ◌++◌}
use Rattle.line_base.specs.Streams.{IsFrontOf}
use Rattle.line_base.specs.declared.faults.LineFault.{LineFault}
use Rattle.edge_trace.specs.Limits.{fault_of, whole_fault_of, answers_of, whole_answers_of}

-- what these bytes give stands at the front when more come, and at the end of the input, be it here or behind more
pub record Stays {A : Type 0} (so_far whole : List ℕ → List A) (bytes more : List ℕ) : Type 0 where
  pub when_more_come : IsFrontOf (so_far bytes) (so_far (bytes ++ more))
  pub at_the_end : IsFrontOf (so_far bytes) (whole bytes)
  pub at_a_later_end : IsFrontOf (so_far bytes) (whole (bytes ++ more))

-- behind this fault more bytes tell nothing, and neither does the end of the input: the fault stays the fault
pub record TellsNoMore (bytes more : List ℕ) (fault : ℕ × LineFault) : Type 0 where
  pub answers_stay : answers_of (bytes ++ more) ≡ answers_of bytes
  pub whole_answers_stay : whole_answers_of (bytes ++ more) ≡ answers_of bytes
  pub fault_stays : fault_of (bytes ++ more) ≡ Some fault
  pub whole_fault_stays : whole_fault_of (bytes ++ more) ≡ Some fault

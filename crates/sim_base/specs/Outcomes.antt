-- What becomes of a message that a simulator is handed; this project's own.
use Rattle.std.specs.Prelude.{List, Result, Ok, Err}
use Rattle.arrayvec.specs.ArrayVec.{ArrayVec}
use Rattle.rand_pcg.specs.Lcg.{Lcg}
use Rattle.line_base.specs.declared.edge.Edge.{Edge}
use Rattle.sim_base.specs.declared.sim_fault.SimFault.{SimFault}

-- a message is sent, by these edges, or it is refused; and then the simulator and the wobble are these
pub data Outcome (A : Type 0) : Type 0 where
  Sent : List Edge → A → Lcg → Outcome A
  Refused : SimFault → A → Lcg → Outcome A

-- the outcome of a call that gave this, and left the simulator and the wobble like this
abbrev pub outcome_of : {A : Type 0} → Result (ArrayVec Edge) SimFault → A → Lcg → Outcome A
outcome_of (Ok edges) sim wobble = Sent edges.items sim wobble
outcome_of (Err fault) sim wobble = Refused fault sim wobble

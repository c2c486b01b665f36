-- Which messages a simulator has accepted, and which edges it has sent; this project's own.
use Rattle.std.specs.Prelude.{◌≡◌, List, [], ◌∷◌, ◌++◌}
use Rattle.rand_pcg.specs.Lcg.{Lcg}
use Rattle.line_base.specs.declared.edge.Edge.{Edge}
use Rattle.receiver_core.specs.declared.message.Message.{Message}
use Rattle.sim_base.specs.Outcomes.{Outcome, Sent}

-- a simulator for which this becomes of a message has come from its first state to this one: it has accepted these messages, one after the other and each with any wobble, and has sent these edges
pub data HasRun (A : Type 0) (next : A → Message → Lcg → Outcome A) (first : A) : A → List Message → List Edge → Type 0 where
  NotYet : HasRun A next first first [] []
  OneMore : {state behind : A} {messages : List Message} {edges more : List Edge} → HasRun A next first state messages edges
      → (message : Message) (g later : Lcg) → next state message g ≡ Sent more behind later → HasRun A next first behind (messages ++ message ∷ []) (edges ++ more)

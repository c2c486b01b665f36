-- What a state of an SPC reader stands for: which edges it has kept; this project's own.
use Rattle.std.specs.Prelude.{◌≡◌, ℕ, suc, ◌-◌, ◌<◌, List, [], ◌∷◌, ◌++◌, true, length, Some}
use Rattle.line_base.specs.Edges.{NumberedEdge}
use Rattle.line_base.specs.Standing.{Leads}
use Rattle.sent_frame.specs.Positions.{IsKeptPulse}
use Rattle.sent_frame.specs.Pulses.{Pulse, falls_in, pulses_after}
use Rattle.sent_frame.specs.Reading.{Carried, values_of, may_calibrate}
use Rattle.spc_link.specs.declared.state.Answer.{Answer}
use Rattle.spc_link.specs.declared.state.State.{State}
use Rattle.spc_link.specs.declared.state.State.TheVariants.{Fresh, Idle, Low, Risen, Calibrating, Values}
use Rattle.spc_link.specs.declared.step.SpcStep.{SpcStep}
use Rattle.spc_link.specs.declared.step.SpcStep.TheVariants.{NoAnswer}
use Rattle.spc_link.specs.Setup.{Settings}
use Rattle.spc_link.specs.Reading.{is_after_quiet, code_of, answer_of, found}

-- one edge is kept, at this time
pub record IsLast (time : ℕ) (kept : List NumberedEdge) : Type 0 where
  pub last : NumberedEdge
  pub stands : kept ≡ last ∷ []
  pub there : last.edge.time ≡ time

-- a trigger's fall at this time is kept, with the edge before it
pub record IsLow (s : Settings) (time : ℕ) (kept : List NumberedEdge) : Type 0 where
  pub before : NumberedEdge
  pub fall : NumberedEdge
  pub stands : kept ≡ before ∷ fall ∷ []
  pub quiet : is_after_quiet s before.edge.time fall.edge ≡ true
  pub there : fall.edge.time ≡ time

-- a trigger is kept that asks for this code, with the edge before it; its rise has this number and time
pub record IsRisen (s : Settings) (place time code : ℕ) (kept : List NumberedEdge) : Type 0 where
  pub before : NumberedEdge
  pub fall : NumberedEdge
  pub rise : NumberedEdge
  pub stands : kept ≡ before ∷ fall ∷ rise ∷ []
  pub quiet : is_after_quiet s before.edge.time fall.edge ≡ true
  pub asks : code_of s (rise.edge.time - fall.edge.time) ≡ Some code
  pub number : rise.number ≡ place
  pub there : rise.edge.time ≡ time

-- an answer has begun behind the kept trigger, the edges behind its first fall make these pulses, and the last fall and the last edge are known
pub record IsInAnswer (s : Settings) (answer : Answer) (pulses : List Pulse) (kept : List NumberedEdge) : Type 0 where
  pub before : NumberedEdge
  pub fall : NumberedEdge
  pub rise : NumberedEdge
  pub start : NumberedEdge
  pub later : List NumberedEdge
  pub stands : kept ≡ before ∷ fall ∷ rise ∷ start ∷ later
  pub begins : (more : List NumberedEdge) → found s tt before (fall ∷ rise ∷ start ∷ more) ≡ answer_of s answer.code more (pulses_after start.edge.time (falls_in more))
  pub as_many : length (falls_in later) ≡ length pulses
  pub made : (more : List NumberedEdge) → pulses_after start.edge.time (falls_in (later ++ more)) ≡ pulses ++ pulses_after answer.fall (falls_in more)
  pub behind : List NumberedEdge
  pub last : NumberedEdge
  pub ends : start ∷ later ≡ behind ++ last ∷ []
  pub there : last.edge.time ≡ answer.time

-- the answer's calibration pulse has this length, and the pulses after it carry these values
pub record IsInFrame (s : Settings) (answer : Answer) (calibration : ℕ) (values : List ℕ) (kept : List NumberedEdge) : Type 0 where
  pub first : Pulse
  pub others : List Pulse
  pub inside : IsInAnswer s answer (first ∷ others) kept
  pub long : first.length ≡ calibration
  pub calibrates : may_calibrate s.sent first ≡ true
  pub as_many : length values ≡ length others
  pub carried : values_of calibration (length others) others ≡ Carried values

-- a reader in this state has kept these edges
abbrev pub AgreesState : Settings → State → Unit {0} → List NumberedEdge → Type 0
AgreesState s Fresh due kept = kept ≡ []
AgreesState s (Idle time) due kept = IsLast time kept
AgreesState s (Low time) due kept = IsLow s time kept
AgreesState s (Risen place time code) due kept = IsRisen s place time code kept
AgreesState s (Calibrating answer) due kept = IsInAnswer s answer [] kept
AgreesState s (Values answer calibration values) due kept = IsInFrame s answer calibration values kept

-- what the end adds, where a reader is in this state: a trigger with a code has no answer
abbrev pub ends_of : State → List SpcStep
ends_of Fresh = []
ends_of (Idle time) = []
ends_of (Low time) = []
ends_of (Risen place time code) = NoAnswer place code ∷ []
ends_of (Calibrating answer) = []
ends_of (Values answer calibration values) = []

-- a kept calibration pulse is one, and a frame that isn't whole has fewer values than its status, its nibbles and its CRC
abbrev pub IsState : Settings → State → Type 0
IsState s Fresh = Unit {0}
IsState s (Idle time) = Unit {0}
IsState s (Low time) = Unit {0}
IsState s (Risen place time code) = Unit {0}
IsState s (Calibrating answer) = Unit {0}
IsState s (Values answer calibration values) = IsKeptPulse s.sent calibration × (length values < suc (suc s.sent.nibbles))

-- the next edge leads from one state to another, with these reports
abbrev pub EdgeLeads : Settings → State → State → NumberedEdge → List SpcStep → Type 0
EdgeLeads s state next edge reports = Leads (found s) (AgreesState s state) (AgreesState s next) (edge ∷ []) reports

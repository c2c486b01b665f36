-- What each report of an SPC line stands for, in its edges (Infineon's SPC, in outline alone; the rules are this project's own). The levels of a line alternate, so the edge behind a trigger's fall is its rise.
use Rattle.std.specs.Prelude.{◌≡◌, ℕ, suc, ◌-◌, ◌<◌, List, [], ◌∷◌, ◌++◌, true, false, length, get_or}
use Rattle.line_base.specs.Edges.{NumberedEdge}
use Rattle.line_base.specs.Spans.{no_span}
use Rattle.line_base.specs.declared.rule.Rule.{Rule}
use Rattle.line_base.specs.declared.rule.Rule.TheVariants as rule
use Rattle.link_math.specs.Sent.{Carries}
use Rattle.sent_frame.specs.declared.frame.SentFrame.{SentFrame}
use Rattle.sent_frame.specs.Pulses.{Pulse, falls_in, pulses_after}
use Rattle.sent_frame.specs.Reading.{may_calibrate}
use Rattle.sent_frame.specs.Frames.{AreCarried, IsFrameOver, IsWrongOver}
use Rattle.spc_link.specs.declared.step.SpcStep.{SpcStep}
use Rattle.spc_link.specs.declared.step.SpcStep.TheVariants.{Nothing, Good, Bad, NoAnswer}
use Rattle.spc_link.specs.Setup.{Settings}
use Rattle.spc_link.specs.Reading.{is_after_quiet, lasts}

-- so many ns lie in the window of this number, counted from 0
pub record IsInWindow (s : Settings) (code width : ℕ) : Type 0 where
  pub there : code < length s.windows
  pub inside : lasts s.sent.tick (get_or s.windows code no_span) width ≡ true

-- a trigger of this code: a fall after quiet, behind this edge, and its rise, with a width in the window of that number
pub record IsTrigger (s : Settings) (before fall rise : NumberedEdge) (code : ℕ) : Type 0 where
  pub after_quiet : is_after_quiet s before.edge.time fall.edge ≡ true
  pub width : IsInWindow s code (rise.edge.time - fall.edge.time)

-- somewhere in the edges stands a trigger whose width is in no window, and its rise has this number
pub record HasTriggerWidth (s : Settings) (edges : List NumberedEdge) (place : ℕ) : Type 0 where
  pub front : List NumberedEdge
  pub before : NumberedEdge
  pub fall : NumberedEdge
  pub rise : NumberedEdge
  pub back : List NumberedEdge
  pub stands : edges ≡ front ++ before ∷ fall ∷ rise ∷ back
  pub after_quiet : is_after_quiet s before.edge.time fall.edge ≡ true
  pub none : (code : ℕ) → IsInWindow s code (rise.edge.time - fall.edge.time) → ⊥
  pub here : rise.number ≡ place

-- somewhere in the edges stands a trigger of this code, and this edge comes next, and then these
pub record IsTriggerBefore (s : Settings) (edges : List NumberedEdge) (code : ℕ) (rise next : NumberedEdge) (back : List NumberedEdge) : Type 0 where
  pub front : List NumberedEdge
  pub before : NumberedEdge
  pub fall : NumberedEdge
  pub stands : edges ≡ front ++ before ∷ fall ∷ rise ∷ next ∷ back
  pub trigger : IsTrigger s before fall rise code

-- somewhere in the edges stands a trigger of this code whose rise has this number, and the next fall comes after quiet
pub record HasNoAnswer (s : Settings) (edges : List NumberedEdge) (place code : ℕ) : Type 0 where
  pub rise : NumberedEdge
  pub next : NumberedEdge
  pub back : List NumberedEdge
  pub triggered : IsTriggerBefore s edges code rise next back
  pub quiet : is_after_quiet s rise.edge.time next.edge ≡ true
  pub here : rise.number ≡ place

-- the edges end with a trigger of this code whose rise has this number
pub record EndsSilent (s : Settings) (edges : List NumberedEdge) (place code : ℕ) : Type 0 where
  pub front : List NumberedEdge
  pub before : NumberedEdge
  pub fall : NumberedEdge
  pub rise : NumberedEdge
  pub stands : edges ≡ front ++ before ∷ fall ∷ rise ∷ []
  pub trigger : IsTrigger s before fall rise code
  pub here : rise.number ≡ place

-- somewhere in the edges a trigger with a code is followed by a fall with this number, neither after quiet nor in the delay
pub record HasDelay (s : Settings) (edges : List NumberedEdge) (place : ℕ) : Type 0 where
  pub code : ℕ
  pub rise : NumberedEdge
  pub start : NumberedEdge
  pub back : List NumberedEdge
  pub triggered : IsTriggerBefore s edges code rise start back
  pub not_quiet : is_after_quiet s rise.edge.time start.edge ≡ false
  pub outside : lasts s.sent.tick s.delay (start.edge.time - rise.edge.time) ≡ false
  pub here : start.number ≡ place

-- somewhere in the edges an answer to this code begins in the delay, and these are the pulses from its first fall on
pub record HasAnswer (s : Settings) (edges : List NumberedEdge) (code : ℕ) (pulses : List Pulse) : Type 0 where
  pub rise : NumberedEdge
  pub start : NumberedEdge
  pub back : List NumberedEdge
  pub triggered : IsTriggerBefore s edges code rise start back
  pub not_quiet : is_after_quiet s rise.edge.time start.edge ≡ false
  pub in_delay : lasts s.sent.tick s.delay (start.edge.time - rise.edge.time) ≡ true
  pub made : pulses_after start.edge.time (falls_in back) ≡ pulses

-- somewhere in the edges an answer to this code is this frame of SENT, whose CRC pulse ends at this place
pub record HasFrame (s : Settings) (edges : List NumberedEdge) (place code : ℕ) (frame : SentFrame) : Type 0 where
  pub calibration : Pulse
  pub others : List Pulse
  pub rest : List Pulse
  pub answer : HasAnswer s edges code (calibration ∷ (others ++ rest))
  pub sent : IsFrameOver s.cover s.sent calibration others frame place

-- somewhere in the edges an answer's first pulse, which ends at this place, can't be a calibration pulse
pub record HasNoCalibration (s : Settings) (edges : List NumberedEdge) (place : ℕ) : Type 0 where
  pub code : ℕ
  pub first : Pulse
  pub rest : List Pulse
  pub answer : HasAnswer s edges code (first ∷ rest)
  pub none : may_calibrate s.sent first ≡ false
  pub here : first.place ≡ place

-- somewhere in the edges, behind an answer's calibration pulse, fewer pulses than a frame needs carry a value, and the next, which ends at this place, carries none
pub record HasNibbleRange (s : Settings) (edges : List NumberedEdge) (place : ℕ) : Type 0 where
  pub code : ℕ
  pub calibration : Pulse
  pub others : List Pulse
  pub broken : Pulse
  pub rest : List Pulse
  pub answer : HasAnswer s edges code (calibration ∷ (others ++ broken ∷ rest))
  pub calibrates : may_calibrate s.sent calibration ≡ true
  pub too_few : length others < suc (suc s.sent.nibbles)
  pub values : List ℕ
  pub carried : AreCarried calibration.length others values
  pub none : (value : ℕ) → Carries broken.length calibration.length value → ⊥
  pub here : broken.place ≡ place

-- somewhere in the edges all pulses of an answer carry a value, and the last, which ends at this place, isn't the CRC of what it covers
pub record HasWrongCheck (s : Settings) (edges : List NumberedEdge) (place : ℕ) : Type 0 where
  pub code : ℕ
  pub calibration : Pulse
  pub others : List Pulse
  pub rest : List Pulse
  pub answer : HasAnswer s edges code (calibration ∷ (others ++ rest))
  pub wrong : IsWrongOver s.cover s.sent calibration others place

-- what a bad report stands for, by its rule; the rules of other links aren't told
abbrev pub MeansFault : Settings → List NumberedEdge → ℕ → Rule → Type 0
MeansFault s edges place rule.TriggerWidth = HasTriggerWidth s edges place
MeansFault s edges place rule.Delay = HasDelay s edges place
MeansFault s edges place rule.NoCalibration = HasNoCalibration s edges place
MeansFault s edges place rule.NibbleRange = HasNibbleRange s edges place
MeansFault s edges place rule.Check = HasWrongCheck s edges place
MeansFault s edges place _ = ⊥

-- what a report stands for in the edges so far
abbrev pub Means : Settings → List NumberedEdge → SpcStep → Type 0
Means s edges Nothing = ⊥
Means s edges (Good place code frame) = HasFrame s edges place code frame
Means s edges (Bad place rule) = MeansFault s edges place rule
Means s edges (NoAnswer place code) = HasNoAnswer s edges place code

-- what a report stands for that the end of these edges adds: only that a trigger, the last of them, has no answer
abbrev pub MeansAtEnd : Settings → List NumberedEdge → SpcStep → Type 0
MeansAtEnd s edges Nothing = ⊥
MeansAtEnd s edges (Good place code frame) = ⊥
MeansAtEnd s edges (Bad place rule) = ⊥
MeansAtEnd s edges (NoAnswer place code) = EndsSilent s edges place code

-- What a position of a SENT reader stands for: what is due, and which pulses it has kept; this project's own.
use Rattle.std.specs.Prelude.{◌≡◌, ℕ, suc, ◌^◌, ◌<◌, ◌≤◌, List, [], ◌∷◌, ◌++◌, true, length}
use Rattle.link_math.specs.Sent.{is_calibration}
use Rattle.sent_frame.specs.declared.frame.SentStep.{SentStep}
use Rattle.sent_frame.specs.declared.frame.SentStep.TheVariants.{Nothing, Good, Bad}
use Rattle.sent_frame.specs.declared.position.Position.{Position}
use Rattle.sent_frame.specs.declared.position.Position.TheVariants as position
use Rattle.sent_frame.specs.Setup.{Settings}
use Rattle.sent_frame.specs.Pulses.{Pulse}
use Rattle.sent_frame.specs.Reading.{Standing, Hunting, PauseDue, CalibrationDue, Carried, values_of, frame_from, found}

-- the report of a step, if there is one
abbrev pub steps_of : SentStep → List SentStep
steps_of Nothing = []
steps_of (Good place frame) = Good place frame ∷ []
steps_of (Bad place rule) = Bad place rule ∷ []

-- while hunting, one pulse of this length is kept
pub record IsCandidate (calibration : ℕ) (due : Standing) (kept : List Pulse) : Type 0 where
  pub pulse : Pulse
  pub hunts : due ≡ Hunting
  pub stands : kept ≡ pulse ∷ []
  pub long : pulse.length ≡ calibration

-- the first of the kept pulses is a frame's calibration pulse of this length, whatever comes behind the next ones, and the pulses kept after it carry these values
pub record IsInFrame (s : Settings) (calibration : ℕ) (values : List ℕ) (due : Standing) (kept next : List Pulse) : Type 0 where
  pub first : Pulse
  pub later : List Pulse
  pub stands : kept ≡ first ∷ later
  pub begins : (more : List Pulse) → found s due first (later ++ (next ++ more)) ≡ frame_from s calibration (later ++ (next ++ more))
  pub as_many : length values ≡ length later
  pub carried : values_of calibration (length later) later ≡ Carried values

-- a reader at this position has this due, and has kept these pulses
abbrev pub AgreesPosition : Settings → Position → Standing → List Pulse → Type 0
AgreesPosition s position.Hunting due kept = (due ≡ Hunting) × (kept ≡ [])
AgreesPosition s (position.Candidate calibration) due kept = IsCandidate calibration due kept
AgreesPosition s (position.Frame calibration values) due kept = IsInFrame s calibration values due kept []
AgreesPosition s (position.Pause calibration) due kept = (due ≡ PauseDue calibration) × (kept ≡ [])
AgreesPosition s (position.Calibration calibration) due kept = (due ≡ CalibrationDue calibration) × (kept ≡ [])

-- a kept calibration pulse may be one, and is 1 to 10^15 ns long
pub record IsKeptPulse (s : Settings) (calibration : ℕ) : Type 0 where
  pub calibrates : is_calibration calibration s.tick s.jitter ≡ true
  pub some : 1 ≤ calibration
  pub in_range : calibration ≤ 10 ^ 15

-- a kept calibration pulse is one, and a frame that isn't whole has fewer values than its status, its nibbles and its CRC
abbrev pub IsPosition : Settings → Position → Type 0
IsPosition s position.Hunting = Unit {0}
IsPosition s (position.Candidate calibration) = IsKeptPulse s calibration
IsPosition s (position.Frame calibration values) = IsKeptPulse s calibration × (length values < suc (suc s.nibbles))
IsPosition s (position.Pause calibration) = IsKeptPulse s calibration
IsPosition s (position.Calibration calibration) = IsKeptPulse s calibration

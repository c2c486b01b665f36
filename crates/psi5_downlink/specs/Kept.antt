-- What a reader of rises has kept; this project's own.
use Rattle.std.specs.Prelude.{◌≡◌, ℕ, ◌+◌, ◌-◌, ◌%◌, ◌<◌, ◌≤◌, ◌⊎◌, Bool, Option, None, Some, List, [], ◌∷◌, length}
use Rattle.line_base.specs.Readings.{go_on, read_past}
use Rattle.psi5_downlink.specs.declared.down.Form.{Form}
use Rattle.psi5_downlink.specs.declared.step.ToothStep.{ToothStep}
use Rattle.psi5_downlink.specs.declared.step.ToothStep.TheVariants.{Nothing, Good, Bad}
use Rattle.psi5_downlink.specs.declared.verdict.Verdict.{Verdict}
use Rattle.psi5_downlink.specs.declared.verdict.Verdict.TheVariants.{Unfinished, Whole, Broken}
use Rattle.psi5_downlink.specs.declared.reader.State.{State}
use Rattle.psi5_downlink.specs.declared.reader.State.TheVariants.{Outside, Within}
use Rattle.psi5_downlink.specs.Frames.{frame_length}
use Rattle.psi5_downlink.specs.Rises.{Interval, Rise, intervals_after, intervals_of}
use Rattle.psi5_downlink.specs.Reading.{forbidden, found_at, frame_after, interval_reading}

-- more bits are due behind these of a frame, and none of them is forbidden
pub record IsOpen (form : Form) (bits : List Bool) : Type 0 where
  pub due : length bits < frame_length form
  pub allowed : forbidden bits ≡ None

-- an interval of so many periods leaves a frame unfinished of which so many bits came: behind none, one of two periods does; else as many pulses may be missing as there are bits before the next inserted 1
pub record MayGoOn (form : Form) (count periods : ℕ) : Type 0 where
  pub missing : ℕ
  pub is : periods ≡ missing + 1
  pub is_short : count + missing + 1 < frame_length form
  pub fits : ((count ≡ 0) × (missing ≡ 1)) ⊎ ((1 ≤ count) × (missing ≤ (45 - count) % 4))

-- more bits are due behind those of a frame that goes on
abbrev pub IsDue : Form → Verdict → Type 0
IsDue form (Unfinished bits) = IsOpen form bits
IsDue form (Whole down) = Unit {0}
IsDue form (Broken rule) = Unit {0}

-- a reader can have this state
abbrev pub IsState : Form → State → Type 0
IsState form Outside = Unit {0}
IsState form (Within bits) = IsOpen form bits

-- what an answer adds to the steps
abbrev pub steps_of : ToothStep → List ToothStep
steps_of Nothing = []
steps_of (Good place down) = Good place down ∷ []
steps_of (Bad place rule) = Bad place rule ∷ []

-- an answer that says something says it of the rise with this number
abbrev pub IsToldAt : ℕ → ToothStep → Type 0
IsToldAt number Nothing = Unit {0}
IsToldAt number (Good place down) = place ≡ number
IsToldAt number (Bad place rule) = place ≡ number

-- the steps of the next intervals, from this state on
unfoldable pub reading_on : Form → State → List Interval → List ToothStep
reading_on form Outside intervals = interval_reading form intervals
reading_on form (Within bits) intervals = go_on (frame_after form bits 0 intervals) (λ used next. read_past (found_at form) used next intervals)

-- the intervals up to the next rises, from the last one on, if there is one
abbrev pub intervals_since : ℕ → Option ℕ → List Rise → List Interval
intervals_since period None rises = intervals_of period rises
intervals_since period (Some before) rises = intervals_after period before rises

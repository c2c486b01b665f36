-- What each step of a sync line stands for in its intervals: a frame, or the first rule that is violated. The rules and their order are this project's own.
use Rattle.std.specs.Prelude.{◌≡◌, ℕ, ◌%◌, ◌<◌, ◌≤◌, ◌⊎◌, Bool, true, false, None, List, [], ◌∷◌, ◌++◌, length}
use Rattle.line_base.specs.declared.rule.Rule.{Rule}
use Rattle.line_base.specs.declared.rule.Rule.TheVariants as rule
use Rattle.psi5_downlink.specs.declared.down.Form.{Form}
use Rattle.psi5_downlink.specs.declared.down.Down.{Down}
use Rattle.psi5_downlink.specs.declared.step.ToothStep.{ToothStep}
use Rattle.psi5_downlink.specs.declared.step.ToothStep.TheVariants.{Nothing, Good, Bad}
use Rattle.psi5_downlink.specs.Setup.{Settings}
use Rattle.psi5_downlink.specs.Frames.{Fits, frame_length, frame_of}
use Rattle.psi5_downlink.specs.Rises.{Interval, Rise, intervals_of}
use Rattle.psi5_downlink.specs.Reading.{bits_in, forbidden}

-- the bits of these intervals, joined
abbrev pub joined : List Interval → List Bool
joined [] = []
joined (interval ∷ intervals) = bits_in interval.periods ++ joined intervals

-- each of these intervals has a period or more
abbrev pub HaveBits : List Interval → Type 0
HaveBits [] = Unit {0}
HaveBits (interval ∷ intervals) = (1 ≤ interval.periods) × HaveBits intervals

-- a frame goes on with these intervals behind its start: each brings bits, no bit is forbidden, and more are due
pub record GoesOnWith (form : Form) (front : List Interval) : Type 0 where
  pub bits : HaveBits front
  pub allowed : forbidden (joined front) ≡ None
  pub due : length (joined front) < frame_length form

-- among these intervals one of six periods begins a frame, which goes on with others, and behind them comes the interval of this number: this is so of the frame's bits and of its periods
pub record IsMet (form : Form) (intervals : List Interval) (number : ℕ) (Comes : List Bool → ℕ → Type 0) : Type 0 where
  pub before : List Interval
  pub start : Interval
  pub front : List Interval
  pub last : Interval
  pub after : List Interval
  pub stands : intervals ≡ before ++ start ∷ (front ++ last ∷ after)
  pub begins : start.periods ≡ 6
  pub goes_on : GoesOnWith form front
  pub here : last.number ≡ number
  pub comes : Comes (joined front) last.periods

-- the first forbidden bit of these is a 0 in the place of an inserted one, behind the start's last 0 and so many groups
pub record MissesOne (bits : List Bool) : Type 0 where
  pub front : List Bool
  pub back : List Bool
  pub stands : bits ≡ front ++ false ∷ back
  pub place : length front % 4 ≡ 1
  pub first : forbidden front ≡ None

-- the interval brings bits, and with them the frame is one that says this
abbrev pub IsSent : Form → Down → List Bool → ℕ → Type 0
IsSent form down bits periods = (1 ≤ periods) × Fits form down × (bits ++ bits_in periods ≡ frame_of form down)

-- the interval is shorter than half a period, or brings the first 0 in the place of an inserted one
abbrev pub IsSyncBit : List Bool → ℕ → Type 0
IsSyncBit bits periods = (periods ≡ 0) ⊎ ((1 ≤ periods) × MissesOne (bits ++ bits_in periods))

-- the interval brings the frame's first bit, and that is a 1
abbrev pub IsStartPattern : List Bool → ℕ → Type 0
IsStartPattern bits periods = (1 ≤ periods) × (back : List Bool) × (bits ++ bits_in periods ≡ true ∷ back)

-- with the interval's bits the frame has all its bits, none is forbidden, and yet it says nothing that can be sent
pub record IsDownCheck (form : Form) (bits : List Bool) (periods : ℕ) : Type 0 where
  pub some : 1 ≤ periods
  pub whole : length (bits ++ bits_in periods) ≡ frame_length form
  pub allowed : forbidden (bits ++ bits_in periods) ≡ None
  pub says_nothing : (down : Down) → Fits form down → frame_of form down ≡ bits ++ bits_in periods → ⊥

-- what it means that a frame violates this rule, by its bits so far and the periods of the interval that violates it; the rules of other links aren't told
abbrev pub Violates : Form → Rule → List Bool → ℕ → Type 0
Violates form rule.StartPattern bits periods = IsStartPattern bits periods
Violates form rule.SyncBit bits periods = IsSyncBit bits periods
Violates form rule.DownCheck bits periods = IsDownCheck form bits periods
Violates form _ bits periods = ⊥

-- what a step that is told of a list of intervals stands for among them
abbrev pub StepStands : Form → List Interval → ToothStep → Type 0
StepStands form intervals Nothing = ⊥
StepStands form intervals (Good number down) = IsMet form intervals number (IsSent form down)
StepStands form intervals (Bad number rule) = IsMet form intervals number (Violates form rule)

-- what a step that is told of a list of rises stands for among them
abbrev pub Means : Settings → List Rise → ToothStep → Type 0
Means setup rises step = StepStands setup.form (intervals_of setup.period rises) step

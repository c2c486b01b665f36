-- What a channel's reports stand for in its items (frames, counters and serial messages: SAE J2716; breaks, gaps and ends: this project's own).
use Rattle.std.specs.Prelude.{◌≡◌, ◌≢◌, ℕ, ◌-◌, List, [], ◌∷◌, ◌++◌, All, Contains, Some, Ok}
use Rattle.line_base.specs.Edges.{NumberedEdge}
use Rattle.line_base.specs.declared.edge.Item.{Item}
use Rattle.line_base.specs.declared.edge.Item.TheVariants as item
use Rattle.line_base.specs.declared.rule.Rule.{Rule}
use Rattle.line_base.specs.declared.rule.Rule.TheVariants as rule
use Rattle.sent_frame.specs.declared.frame.SentFrame.{SentFrame}
use Rattle.sent_frame.specs.declared.frame.SentStep.{SentStep}
use Rattle.sent_frame.specs.declared.frame.SentStep.TheVariants.{Good}
use Rattle.sent_frame.specs.Setup.{Settings}
use Rattle.sent_frame.specs.Pulses.{pulses_of}
use Rattle.sent_frame.specs.Reading.{sent_reading}
use Rattle.sent_frame.specs.Frames.{HasFrame, HasNoCalibration, HasDrift, HasBrokenFrame, HasWrongCheck, HasBadPause}
use Rattle.sent_fast.specs.declared.layout.Layout.{Layout}
use Rattle.sent_fast.specs.declared.layout.Layout.TheVariants as layouts
use Rattle.sent_fast.specs.declared.layout.Fast.{Fast}
use Rattle.sent_fast.specs.Layouts.{fast_of, nibble}
use Rattle.sent_fast.specs.Counters.{Follows}
use Rattle.sent_serial.specs.declared.step.SerialStep.{SerialStep}
use Rattle.sent_serial.specs.declared.step.SerialStep.TheVariants as step
use Rattle.sent_serial.specs.Meanings.{ShortMeans, EnhancedMeans}
use Rattle.receiver_core.specs.declared.report.Report.{Report}
use Rattle.receiver_core.specs.declared.report.What.{What}
use Rattle.receiver_core.specs.declared.report.What.TheVariants as what
use Rattle.receiver_core.specs.declared.setup.Serial.{Serial}
use Rattle.receiver_core.specs.declared.setup.Serial.TheVariants as serial
use Rattle.receiver_core.specs.declared.setup.ChannelSetup.{ChannelSetup}
use Rattle.receiver_core.specs.declared.setup.ChannelSetup.TheVariants.{Sent, Psi5, Spc, Tooth}
use Rattle.receiver_core.specs.SentReports.{counter_of, statuses_of, frames_past}
use Rattle.receiver_core.specs.Psi5Meanings.{BurstStands}
use Rattle.receiver_core.specs.SpcReports.{AnswerStands}
use Rattle.receiver_core.specs.ToothReports.{DownStands}
use Rattle.receiver_core.specs.Stretches.{stretches_of}

-- ---- in a stretch of a SENT line's edges
-- these are the good frames since the last break, up to the one that ends at this place
pub record AreFramesTo (s : Settings) (edges : List NumberedEdge) (place : ℕ) (frames : List SentFrame) : Type 0 where
  pub before : List SentStep
  pub last : SentFrame
  pub after : List SentStep
  pub stands : sent_reading s edges ≡ before ++ Good place last ∷ after
  pub are : frames ≡ frames_past [] before ++ last ∷ []

-- the frame that stands at this place says this value in the layout, which isn't raw
pub record SaysValue (s : Settings) (layout : Layout) (edges : List NumberedEdge) (place : ℕ) (value : Fast) : Type 0 where
  pub frame : SentFrame
  pub stands : HasFrame s (pulses_of edges) place frame
  pub says : fast_of layout frame.nibbles ≡ Ok value
  pub not_raw : layout ≢ layouts.Raw

-- the frame that stands at this place is laid out in secure12, and its sixth nibble isn't 15 minus its first
pub record HasWrongCopy (s : Settings) (layout : Layout) (edges : List NumberedEdge) (place : ℕ) : Type 0 where
  pub frame : SentFrame
  pub stands : HasFrame s (pulses_of edges) place frame
  pub secure : layout ≡ layouts.Secure12
  pub wrong : nibble frame.nibbles 6 ≢ 15 - nibble frame.nibbles 1

-- the last two good frames since the last break, the later at this place, say these counters, of which the second doesn't follow the first
pub record HasJump (s : Settings) (layout : Layout) (edges : List NumberedEdge) (place before now : ℕ) : Type 0 where
  pub others : List SentFrame
  pub earlier : SentFrame
  pub later : SentFrame
  pub frames : AreFramesTo s edges place (others ++ earlier ∷ later ∷ [])
  pub says_before : counter_of layout (Some earlier) ≡ Some before
  pub says_now : counter_of layout (Some later) ≡ Some now
  pub jumps : Follows before now → ⊥

-- what a step of the serial messages stands for in these statuses, by which messages there are
abbrev pub SerialMeans : Serial → List ℕ → SerialStep → Type 0
SerialMeans serial.Absent statuses says = ⊥
SerialMeans serial.Short statuses says = ShortMeans statuses says
SerialMeans serial.Enhanced statuses says = EnhancedMeans statuses says

-- the statuses of the good frames since the last break, with that of the frame at this place last, end in what the step stands for
pub record HasSerial (s : Settings) (form : Serial) (edges : List NumberedEdge) (place : ℕ) (says : SerialStep) : Type 0 where
  pub frames : List SentFrame
  pub are : AreFramesTo s edges place frames
  pub means : SerialMeans form (statuses_of frames) says

-- what a violated rule stands for
abbrev pub RuleStands : Settings → Layout → Serial → List NumberedEdge → ℕ → Rule → Type 0
RuleStands s layout form edges place rule.NoCalibration = HasNoCalibration s (pulses_of edges) place
RuleStands s layout form edges place rule.Drift = HasDrift s (pulses_of edges) place
RuleStands s layout form edges place rule.NibbleRange = HasBrokenFrame s (pulses_of edges) place
RuleStands s layout form edges place rule.Check = HasWrongCheck s (pulses_of edges) place
RuleStands s layout form edges place rule.PauseRange = HasBadPause s (pulses_of edges) place
RuleStands s layout form edges place rule.Copy = HasWrongCopy s layout edges place
RuleStands s layout form edges place rule.Restart = HasSerial s form edges place (step.Bad rule.Restart)
RuleStands s layout form edges place rule.Zero13 = HasSerial s form edges place (step.Bad rule.Zero13)
RuleStands s layout form edges place rule.Zero18 = HasSerial s form edges place (step.Bad rule.Zero18)
RuleStands s layout form edges place rule.SerialCheck = HasSerial s form edges place (step.Bad rule.SerialCheck)
RuleStands s layout form edges place _ = ⊥

-- what is said at this place stands for
abbrev pub SaidStands : Settings → Layout → Serial → List NumberedEdge → ℕ → What → Type 0
SaidStands s layout form edges place (what.Frame frame) = HasFrame s (pulses_of edges) place frame
SaidStands s layout form edges place (what.Fast value) = SaysValue s layout edges place value
SaidStands s layout form edges place (what.Counter before now) = HasJump s layout edges place before now
SaidStands s layout form edges place (what.Short id value) = HasSerial s form edges place (step.Short id value)
SaidStands s layout form edges place (what.Enhanced id value wide) = HasSerial s form edges place (step.Enhanced id value wide)
SaidStands s layout form edges place (what.Answer code frame) = ⊥
SaidStands s layout form edges place (what.NoAnswer code) = ⊥
SaidStands s layout form edges place (what.Burst slot payload code) = ⊥
SaidStands s layout form edges place (what.Block id value) = ⊥
SaidStands s layout form edges place (what.Done blocks) = ⊥
SaidStands s layout form edges place (what.Down down) = ⊥
SaidStands s layout form edges place (what.Bad rule) = RuleStands s layout form edges place rule
SaidStands s layout form edges place (what.Gap count) = ⊥

-- ---- in a channel's items
-- what is said at this place stands for, in a stretch of edges that the setup reads
abbrev pub StretchStands : ChannelSetup → List NumberedEdge → ℕ → What → Type 0
StretchStands (Sent line s layout form) edges place says = SaidStands s layout form edges place says
StretchStands (Psi5 line s slots init) edges place says = BurstStands s slots init edges place says
StretchStands (Spc line s) edges place says = AnswerStands s edges place says
StretchStands (Tooth line s) edges place says = DownStands s edges place says

-- in one of the stretches of the items stands what is said at this place
pub record HasStretch (setup : ChannelSetup) (items : List Item) (place : ℕ) (says : What) : Type 0 where
  pub stretch : List NumberedEdge
  pub is_one : Contains (stretches_of items) stretch
  pub stands : StretchStands setup stretch place says

-- one of the items, before any end, is a gap of so many lost edges, of which the first has this number
pub record HasGap (items : List Item) (first count : ℕ) : Type 0 where
  pub before : List Item
  pub after : List Item
  pub stands : items ≡ before ++ item.Gap first count ∷ after
  pub no_end : All (λ taken. (taken ≢ item.End) × (taken ≢ item.Cut)) before

-- what is said at this place stands for in the items
abbrev pub ItemsStand : ChannelSetup → List Item → ℕ → What → Type 0
ItemsStand setup items place (what.Gap count) = HasGap items place count
ItemsStand setup items place says = HasStretch setup items place says

-- what a report stands for in the items of its channel
abbrev pub ReportMeans : ChannelSetup → List Item → Report → Type 0
ReportMeans setup items report = ItemsStand setup items report.place report.what

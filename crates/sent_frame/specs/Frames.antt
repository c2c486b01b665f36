-- What each report of a SENT reading stands for, in the pulses themselves (the frame: SAE J2716).
use Rattle.std.specs.Prelude.{◌≡◌, ◌≢◌, ℕ, suc, ◌+◌, ◌*◌, ◌<◌, ◌⊎◌, List, [], ◌∷◌, ◌++◌, true, false, length, map, if◌then◌else◌}
use Rattle.line_base.specs.declared.rule.Rule.{Rule}
use Rattle.line_base.specs.declared.rule.Rule.TheVariants as rule
use Rattle.link_math.specs.Sent.{Carries, is_steady, is_pause}
use Rattle.sent_frame.specs.declared.crc.Cover.{Cover}
use Rattle.sent_frame.specs.declared.crc.Cover.TheVariants as over
use Rattle.sent_frame.specs.declared.frame.SentFrame.{SentFrame}
use Rattle.sent_frame.specs.declared.frame.SentStep.{SentStep}
use Rattle.sent_frame.specs.declared.frame.SentStep.TheVariants.{Nothing, Good, Bad}
use Rattle.sent_frame.specs.Setup.{Settings}
use Rattle.sent_frame.specs.Pulses.{Pulse}
use Rattle.sent_frame.specs.Reading.{may_calibrate, place_at, covered, crc_of}

-- each of these pulses carries its value, after a calibration pulse of this length in ns
abbrev pub AreCarried : ℕ → List Pulse → List ℕ → Type 0
AreCarried calibration [] [] = Unit {0}
AreCarried calibration [] (value ∷ values) = ⊥
AreCarried calibration (pulse ∷ pulses) [] = ⊥
AreCarried calibration (pulse ∷ pulses) (value ∷ values) = Carries pulse.length calibration value × AreCarried calibration pulses values

-- a pulse that may calibrate, and pulses after it that carry the status, the data nibbles and this CRC nibble, the last of which ends at this place
pub record IsSent (s : Settings) (calibration : Pulse) (others : List Pulse) (frame : SentFrame) (crc place : ℕ) : Type 0 where
  pub calibrates : may_calibrate s calibration ≡ true
  pub as_many : length frame.nibbles ≡ s.nibbles
  pub carried : AreCarried calibration.length others (frame.status ∷ (frame.nibbles ++ crc ∷ []))
  pub ends : place_at others (suc s.nibbles) ≡ place

-- the frame stands at this calibration pulse and the pulses after it: they carry its status, its nibbles and the CRC of what it covers
abbrev pub IsFrameOver : Cover → Settings → Pulse → List Pulse → SentFrame → ℕ → Type 0
IsFrameOver cover s calibration others frame place = IsSent s calibration others frame (crc_of s.crc (covered cover frame.status frame.nibbles)) place

-- all these pulses carry a value after this calibration pulse, and the last isn't the CRC of what it covers
pub record IsWrongOver (cover : Cover) (s : Settings) (calibration : Pulse) (others : List Pulse) (place : ℕ) : Type 0 where
  pub frame : SentFrame
  pub crc : ℕ
  pub sent : IsSent s calibration others frame crc place
  pub wrong : crc ≢ crc_of s.crc (covered cover frame.status frame.nibbles)

-- the frame of SENT stands there: the CRC is that of its nibbles
abbrev pub IsFrameAt : Settings → Pulse → List Pulse → SentFrame → ℕ → Type 0
IsFrameAt s calibration others frame place = IsFrameOver over.Nibbles s calibration others frame place

-- somewhere in the pulses stands this frame
pub record HasFrame (s : Settings) (pulses : List Pulse) (place : ℕ) (frame : SentFrame) : Type 0 where
  pub before : List Pulse
  pub calibration : Pulse
  pub others : List Pulse
  pub after : List Pulse
  pub stands : pulses ≡ before ++ (calibration ∷ (others ++ after))
  pub sent : IsFrameAt s calibration others frame place

-- somewhere in the pulses all pulses of a frame carry a value, and the last isn't the CRC of its nibbles
pub record HasWrongCheck (s : Settings) (pulses : List Pulse) (place : ℕ) : Type 0 where
  pub before : List Pulse
  pub calibration : Pulse
  pub others : List Pulse
  pub after : List Pulse
  pub stands : pulses ≡ before ++ (calibration ∷ (others ++ after))
  pub frame : SentFrame
  pub crc : ℕ
  pub sent : IsSent s calibration others frame crc place
  pub wrong : crc ≢ crc_of s.crc frame.nibbles

-- the last of these pulses are a frame whose pulses all carry a value, after a calibration pulse of this length in ns
pub record EndsInFrame (s : Settings) (pulses : List Pulse) (length : ℕ) : Type 0 where
  pub before : List Pulse
  pub calibration : Pulse
  pub others : List Pulse
  pub stands : pulses ≡ before ++ calibration ∷ others
  pub frame : SentFrame
  pub crc : ℕ
  pub place : ℕ
  pub sent : IsSent s calibration others frame crc place
  pub long : calibration.length ≡ length

-- the last of these pulses are a frame and, where the setup has one, a pause pulse that fits
pub record EndsInPause (s : Settings) (pulses : List Pulse) (length : ℕ) : Type 0 where
  pub before : List Pulse
  pub pauses : List Pulse
  pub stands : pulses ≡ before ++ pauses
  pub frame : EndsInFrame s before length
  pub as_many : (if s.pause then 1 else 0) ≡ Rattle.std.specs.Prelude.length pauses
  pub fits : (pause : Pulse) → pauses ≡ pause ∷ [] → is_pause pause.length length ≡ true

-- these pulses end in a frame and, where the setup has one, its pause, so a calibration pulse is due; and this one is steady with that frame's
pub record IsDueAndSteady (s : Settings) (before : List Pulse) (calibration : Pulse) : Type 0 where
  pub length : ℕ
  pub frame : EndsInPause s before length
  pub steady : is_steady length calibration.length ≡ true

-- the first of these pulses is there, and can't be a calibration pulse
abbrev pub FirstCannotCalibrate : Settings → List Pulse → Type 0
FirstCannotCalibrate s [] = ⊥
FirstCannotCalibrate s (next ∷ others) = may_calibrate s next ≡ false

-- a frame begins at this calibration pulse, between the pulses before it and those behind: the next pulse can't be one itself, or one is due here and this one is steady
abbrev pub BeginsFrame : Settings → List Pulse → Pulse → List Pulse → Type 0
BeginsFrame s before calibration behind = FirstCannotCalibrate s behind ⊎ IsDueAndSteady s before calibration

-- somewhere in the pulses a frame has begun, fewer pulses than it needs carry a value, and the next, which ends at this place, carries none
pub record HasBrokenFrame (s : Settings) (pulses : List Pulse) (place : ℕ) : Type 0 where
  pub before : List Pulse
  pub calibration : Pulse
  pub others : List Pulse
  pub broken : Pulse
  pub after : List Pulse
  pub stands : pulses ≡ before ++ (calibration ∷ (others ++ broken ∷ after))
  pub calibrates : may_calibrate s calibration ≡ true
  pub begins : BeginsFrame s before calibration (others ++ broken ∷ after)
  pub too_few : length others < suc (suc s.nibbles)
  pub values : List ℕ
  pub carried : AreCarried calibration.length others values
  pub none : (value : ℕ) → Carries broken.length calibration.length value → ⊥
  pub ends : broken.place ≡ place

-- somewhere in the pulses a pause is due after a frame, and the pulse at this place doesn't fit
pub record HasBadPause (s : Settings) (pulses : List Pulse) (place : ℕ) : Type 0 where
  pub before : List Pulse
  pub pause : Pulse
  pub after : List Pulse
  pub stands : pulses ≡ before ++ pause ∷ after
  pub due : s.pause ≡ true
  pub length : ℕ
  pub frame : EndsInFrame s before length
  pub unfit : is_pause pause.length length ≡ false
  pub ends : pause.place ≡ place

-- somewhere in the pulses a calibration pulse is due after a frame, and the pulse at this place is none
pub record HasNoCalibration (s : Settings) (pulses : List Pulse) (place : ℕ) : Type 0 where
  pub before : List Pulse
  pub pulse : Pulse
  pub after : List Pulse
  pub stands : pulses ≡ before ++ pulse ∷ after
  pub length : ℕ
  pub frame : EndsInPause s before length
  pub none : may_calibrate s pulse ≡ false
  pub ends : pulse.place ≡ place

-- somewhere in the pulses a calibration pulse follows a frame, and differs from that frame's by more than 1/64 of it
pub record HasDrift (s : Settings) (pulses : List Pulse) (place : ℕ) : Type 0 where
  pub before : List Pulse
  pub pulse : Pulse
  pub after : List Pulse
  pub stands : pulses ≡ before ++ pulse ∷ after
  pub length : ℕ
  pub frame : EndsInPause s before length
  pub calibrates : may_calibrate s pulse ≡ true
  pub drifted : is_steady length pulse.length ≡ false
  pub ends : pulse.place ≡ place

-- what a bad report stands for, by its rule
abbrev pub MeansFault : Settings → List Pulse → ℕ → Rule → Type 0
MeansFault s pulses place rule.NoCalibration = HasNoCalibration s pulses place
MeansFault s pulses place rule.Drift = HasDrift s pulses place
MeansFault s pulses place rule.NibbleRange = HasBrokenFrame s pulses place
MeansFault s pulses place rule.Check = HasWrongCheck s pulses place
MeansFault s pulses place rule.PauseRange = HasBadPause s pulses place
MeansFault s pulses place _ = ⊥

-- what a report stands for in the pulses
abbrev pub Means : Settings → List Pulse → SentStep → Type 0
Means s pulses Nothing = ⊥
Means s pulses (Good place frame) = HasFrame s pulses place frame
Means s pulses (Bad place rule) = MeansFault s pulses place rule

-- the ticks of a frame's pulses: 56 for the calibration pulse, 12 and the value for the status, each nibble and the CRC, and then the pause where the setup has one
abbrev pub ticks_of : Settings → SentFrame → ℕ → List ℕ
ticks_of s frame pause =
    56 ∷ (12 + frame.status) ∷ (map (λ nibble. 12 + nibble) frame.nibbles ++ (12 + crc_of s.crc frame.nibbles) ∷ (if s.pause then pause ∷ [] else []))

-- these pulses have so many ticks each, of so many ns
abbrev pub HaveTicks : ℕ → List ℕ → List Pulse → Type 0
HaveTicks tick ticks pulses = map (λ (pulse : Pulse). pulse.length) pulses ≡ map (λ n. n * tick) ticks

-- What a reading does at the next pulse, by what stands there.
--     over_pulse, over_frame      a pulse that is passed, a frame that is reported
--     read-skip                   behind so many pulses
--     found_none, found_false_start, found_frame, found_steady, found_pause      what stands there
use Rattle.std.proofs.Common.{◌≡◌, ℕ, zero, suc, List, [], ◌∷◌, true, false, drop, refl, ap, ◌∙◌}
use Rattle.line_base.specs.Readings.{go_on, read_past}
use Rattle.line_base.specs.Readings.Found.{Waiting, Past, Reported}
use Rattle.line_base.proofs.Readings.{read-first, read-waits}
use Rattle.link_math.specs.Sent.{is_pause, is_steady}
use Rattle.sent_frame.specs.declared.frame.SentStep.{SentStep}
use Rattle.sent_frame.specs.Setup.{Settings}
use Rattle.sent_frame.specs.Pulses.{Pulse}
use Rattle.sent_frame.specs.Reading.{Standing, Hunting, PauseDue, CalibrationDue, may_calibrate, frame_from, found}

-- what is read of pulses from here on, where this is due
abbrev pub reading : Settings → Standing → List Pulse → List SentStep
reading s due pulses = read_past (found s) 0 due pulses

pub reading_none : (s : Settings) (due : Standing) → reading s due [] ≡ []
unfolding read_past
reading_none s due = refl

pub read-skip : (s : Settings) (count : ℕ) (due : Standing) (pulses : List Pulse) → read_past (found s) count due pulses ≡ reading s due (drop count pulses)
unfolding read_past
read-skip s zero due pulses = refl
read-skip s (suc count) due [] = refl
read-skip s (suc count) due (pulse ∷ pulses) = read-skip s count due pulses

pub over_pulse : (s : Settings) (due next : Standing) (pulse : Pulse) (pulses : List Pulse) → found s due pulse pulses ≡ Past 0 next → reading s due (pulse ∷ pulses) ≡ reading s next pulses
over_pulse s due next pulse pulses e =
    read-first (found s) due pulse pulses ∙ ap (λ f. go_on f (λ used next. read_past (found s) used next pulses)) e

pub over_frame : (s : Settings) (due next : Standing) (pulse : Pulse) (pulses : List Pulse) (report : SentStep) (used : ℕ) → found s due pulse pulses ≡ Reported report (Past used next)
    → reading s due (pulse ∷ pulses) ≡ report ∷ reading s next (drop used pulses)
over_frame s due next pulse pulses report used e =
    read-first (found s) due pulse pulses
    ∙ ap (λ f. go_on f (λ used next. read_past (found s) used next pulses)) e
    ∙ ap (λ rest. report ∷ rest) (read-skip s used next pulses)

-- ---- while hunting
pub found_none : (s : Settings) (pulse : Pulse) (pulses : List Pulse) → may_calibrate s pulse ≡ false → found s Hunting pulse pulses ≡ Past 0 Hunting
unfolding found
found_none s pulse pulses e = rw e refl

pub found_false_start : (s : Settings) (pulse next : Pulse) (pulses : List Pulse) → may_calibrate s pulse ≡ true → may_calibrate s next ≡ true → found s Hunting pulse (next ∷ pulses) ≡ Past 0 Hunting
unfolding found
found_false_start s pulse next pulses e e' = rw (e, e') refl

pub found_last : (s : Settings) (pulse : Pulse) → may_calibrate s pulse ≡ true → found s Hunting pulse [] ≡ Waiting []
unfolding found
found_last s pulse e = rw e refl

pub found_frame : (s : Settings) (pulse next : Pulse) (pulses : List Pulse) → may_calibrate s pulse ≡ true → may_calibrate s next ≡ false → found s Hunting pulse (next ∷ pulses) ≡ frame_from s pulse.length (next ∷ pulses)
unfolding found
found_frame s pulse next pulses e e' = rw (e, e') refl

-- the last pulse has no report
pub over_last : (s : Settings) (pulse : Pulse) → may_calibrate s pulse ≡ true → reading s Hunting (pulse ∷ []) ≡ []
over_last s pulse e = read-waits (found s) Hunting pulse [] [] (found_last s pulse e)

-- ---- after a frame
pub found_pause : (s : Settings) (calibration : ℕ) (pulse : Pulse) (pulses : List Pulse) → is_pause pulse.length calibration ≡ true → found s (PauseDue calibration) pulse pulses ≡ Past 0 (CalibrationDue calibration)
unfolding found
found_pause s calibration pulse pulses e = rw e refl

pub found_steady : (s : Settings) (calibration : ℕ) (pulse : Pulse) (pulses : List Pulse) → may_calibrate s pulse ≡ true → is_steady calibration pulse.length ≡ true
    → found s (CalibrationDue calibration) pulse pulses ≡ frame_from s pulse.length pulses
unfolding found
found_steady s calibration pulse pulses e e' = rw (e, e') refl

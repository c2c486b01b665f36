-- A frame that is heard with jitter is read.
--     values_heard      its pulses carry its values
--     frame_heard       it is checked and good
--     read_frame        it is reported, and behind it and its pause the next one is due
use Rattle.std.proofs.Common.{◌≡◌, ℕ, suc, ◌+◌, ◌*◌, ◌<◌, ◌≤◌, List, [], ◌∷◌, ◌++◌, Bool, true, false, Some, length, drop, take, slice_index, if◌then◌else◌, refl, ap, ap₂, sym, ◌∙◌, subst, eq-eqb, arith}
use Rattle.std.proofs.lemmas.List.{drop-drop, get_or_at, length-drop, take_at}
use Rattle.std.proofs.lemmas.List.Elements.{All-drop, All-head, All-tail}
use Rattle.std.specs.List.{All}
use Rattle.line_base.specs.Readings.Found.{Past, Reported}
use Rattle.link_math.specs.Sent.{value_of}
use Rattle.sent_frame.specs.declared.frame.SentFrame.{SentFrame}
use Rattle.sent_frame.specs.declared.frame.SentStep.TheVariants.{Good}
use Rattle.sent_frame.specs.Setup.{Settings, InRange}
use Rattle.sent_frame.specs.Pulses.{Pulse}
use Rattle.sent_frame.specs.Reading.{Standing, Hunting, PauseDue, CalibrationDue, Carried, values_of, with_value, crc_of, may_calibrate, place_at, checked, due_after, frame_of, frame_from, found}
use Rattle.sent_frame.proofs.SentTicks.{value_ticks}
use Rattle.link_tolerance.specs.Recorded.{IsHeard}
use Rattle.link_tolerance.specs.Ticks.{IsTick, IsOwnTick}
use Rattle.link_tolerance.proofs.HeardPulses.{calibration_heard, calibrations_steady, never_long, nibble_short, pause_heard, value_heard}
use Rattle.sent_tolerance.specs.FromFirst.{pulse_count}
use Rattle.sent_tolerance.specs.Trains.{IsSent, Sending, pulses_sent, DriftsTo}
use Rattle.link_tolerance.specs.Pulses.{lengths_of}
use Rattle.sent_tolerance.proofs.FrameTicks.{values_in, pause_ticks, ticks_apart, values_small, length_values, length_ticks}
use Rattle.sent_tolerance.proofs.Steps.{reading, over_pulse, over_frame, found_frame, found_pause, found_steady}

-- pulses of these lengths in ps are heard as these, one by one
abbrev pub AreHeard : ℕ → List ℕ → List Pulse → Type 0
AreHeard jitter [] [] = Unit {0}
AreHeard jitter [] (pulse ∷ pulses) = ⊥
AreHeard jitter (sent ∷ lengths) [] = ⊥
AreHeard jitter (sent ∷ lengths) (pulse ∷ pulses) = IsHeard jitter sent pulse.length × AreHeard jitter lengths pulses

-- ---- the values
-- the first pulses carry these values, and the others are heard of what is sent behind them
pub record AreValuesHeard (jitter calibration : ℕ) (values counts own more : List ℕ) (pulses : List Pulse) : Type 0 where
  pub carried : values_of calibration (length values) pulses ≡ Carried values
  pub rest : AreHeard jitter (lengths_of counts (drop (length values) own) ++ more) (drop (length values) pulses)

pub values_heard : (nominal jitter tick calibration : ℕ) → 1 ≤ jitter → 10 * jitter ≤ nominal → IsTick nominal tick → IsHeard jitter (56 * tick) calibration
    → (values counts own more : List ℕ) (pulses : List Pulse) → All (λ value. value < 16) values → All (IsOwnTick tick) own → length values ≤ length own
    → AreHeard jitter (lengths_of (value_ticks values ++ counts) own ++ more) pulses → AreValuesHeard jitter calibration values counts own more pulses
unfolding values_of
values_heard nominal jitter tick calibration some small is_tick long [] counts own more pulses below are_own enough heard = record { carried = refl; rest = heard }
values_heard nominal jitter tick calibration some small is_tick long (value ∷ values) counts [] more pulses below are_own enough heard = absurd (omega arith)
values_heard nominal jitter tick calibration some small is_tick long (value ∷ values) counts (own ∷ owns) more [] below are_own enough heard = absurd heard
values_heard nominal jitter tick calibration some small is_tick long (value ∷ values) counts (own ∷ owns) more (pulse ∷ pulses) below are_own enough heard =
    let first : value_of pulse.length calibration ≡ Some value =
    value_heard nominal jitter tick own value calibration pulse.length some small is_tick (All-head (IsOwnTick tick) own owns are_own) (All-head (λ v. v < 16) value values below) long heard.0 in
    let others = values_heard nominal jitter tick calibration some small is_tick long values counts owns more pulses (All-tail (λ v. v < 16) value values below) (All-tail (IsOwnTick tick) own owns are_own) (omega arith) heard.1 in
    record { carried = ap₂ (with_value pulse) first others.carried; rest = others.rest }

-- ---- the frame
good_if_checked : (s : Settings) (frame : SentFrame) (place : ℕ) → length frame.nibbles ≡ s.nibbles → checked s place (values_in s frame) ≡ Good place frame
good_if_checked s frame place as_many =
    let crc = crc_of s.crc frame.nibbles in
    let front : take s.nibbles (frame.nibbles ++ crc ∷ []) ≡ frame.nibbles = take_at frame.nibbles (crc ∷ []) s.nibbles as_many in
    let last : slice_index (frame.nibbles ++ crc ∷ []) s.nibbles ≡ crc = get_or_at frame.nibbles crc [] 0 s.nibbles as_many in
    rw (front, last, eq-eqb crc crc refl) refl

-- the pulses behind a calibration pulse of this length are this frame, and the others are heard of what is sent behind it
pub record IsFrameHeard (s : Settings) (f : Sending) (calibration : ℕ) (more : List ℕ) (pulses : List Pulse) : Type 0 where
  pub found : frame_from s calibration pulses ≡ Reported (Good (place_at pulses (suc s.nibbles)) f.frame) (Past (suc (suc s.nibbles)) (due_after s calibration))
  pub rest : AreHeard s.jitter (lengths_of (pause_ticks s.pause f.pause) (drop (suc (suc s.nibbles)) f.own_ticks) ++ more) (drop (suc (suc s.nibbles)) pulses)

-- so many own ticks as pulses behind the calibration pulse
enough_ticks : (s : Settings) (f : Sending) → IsSent s f → suc (suc s.nibbles) + (if s.pause then 1 else 0) ≡ length f.own_ticks
enough_ticks s f sent = omega (arith, sent.one_for_each, length_ticks s f.frame f.pause sent.fits)

pub frame_heard : (s : Settings) → InRange s.tick s.jitter s.nibbles → (f : Sending) → IsSent s f → (calibration : ℕ) (more : List ℕ) (pulses : List Pulse) → IsHeard s.jitter (56 * f.tick) calibration
    → AreHeard s.jitter (lengths_of (value_ticks (values_in s f.frame) ++ pause_ticks s.pause f.pause) f.own_ticks ++ more) pulses → IsFrameHeard s f calibration more pulses
frame_heard s range f sent calibration more pulses long heard =
    let values = values_in s f.frame in
    let as_many : length values ≡ suc (suc s.nibbles) = length_values s f.frame sent.fits in
    let said = values_heard s.tick s.jitter f.tick calibration range.jitter_low range.jitter_high sent.tick long values (pause_ticks s.pause f.pause) f.own_ticks more pulses
    (values_small s f.frame sent.fits) sent.own_ticks (omega (arith, as_many, enough_ticks s f sent)) heard in
    let carried : values_of calibration (suc (suc s.nibbles)) pulses ≡ Carried values = ap (λ n. values_of calibration n pulses) (sym as_many) ∙ said.carried in
    record {
      found = ap (frame_of s calibration pulses) carried
          ∙ ap (λ report. Reported report (Past (suc (suc s.nibbles)) (due_after s calibration))) (good_if_checked s f.frame (place_at pulses (suc s.nibbles)) sent.fits.as_many);
      rest = subst (λ (n : ℕ). AreHeard s.jitter (lengths_of (pause_ticks s.pause f.pause) (drop n f.own_ticks) ++ more) (drop n pulses)) as_many said.rest;
    }

-- ---- what may come before the frame
-- where a calibration pulse is due, the tick of the frame before may be followed by that of the first of these frames
pub record IsDue (s : Settings) (calibration : ℕ) (sent : List Sending) : Type 0 where
  pub before : ℕ
  pub is_tick : IsTick s.tick before
  pub heard : IsHeard s.jitter (56 * before) calibration
  pub drifts : DriftsTo before sent

abbrev pub AreDue : Settings → Standing → List Sending → Type 0
AreDue s Hunting sent = Unit {0}
AreDue s (PauseDue calibration) sent = ⊥
AreDue s (CalibrationDue calibration) sent = IsDue s calibration sent

begins_steady : (s : Settings) → InRange s.tick s.jitter s.nibbles → (f : Sending) (sent : List Sending) → IsSent s f → (due : Standing) → AreDue s due (f ∷ sent) → (calibration next : Pulse) (pulses : List Pulse)
    → may_calibrate s calibration ≡ true → may_calibrate s next ≡ false → IsHeard s.jitter (56 * f.tick) calibration.length → found s due calibration (next ∷ pulses) ≡ frame_from s calibration.length (next ∷ pulses)
begins_steady s range f sent is_sent Hunting ready calibration next pulses calibrates short heard = found_frame s calibration next pulses calibrates short
begins_steady s range f sent is_sent (PauseDue c) ready calibration next pulses calibrates short heard = absurd ready
begins_steady s range f sent is_sent (CalibrationDue c) ready calibration next pulses calibrates short heard =
    found_steady s c calibration (next ∷ pulses) calibrates
    (calibrations_steady s.tick s.jitter ready.before f.tick c calibration.length range.jitter_high ready.is_tick ready.drifts ready.heard heard)

-- the status pulse is there, and is no calibration pulse
begins_frame : (s : Settings) → InRange s.tick s.jitter s.nibbles → (f : Sending) (sent : List Sending) → IsSent s f → (due : Standing) → AreDue s due (f ∷ sent) → (calibration : Pulse) (counts own more : List ℕ) (pulses : List Pulse)
    → All (IsOwnTick f.tick) own → 1 ≤ length own → IsHeard s.jitter (56 * f.tick) calibration.length
    → AreHeard s.jitter (lengths_of (value_ticks (values_in s f.frame) ++ counts) own ++ more) pulses → found s due calibration pulses ≡ frame_from s calibration.length pulses
begins_frame s range f sent is_sent due ready calibration counts [] more pulses are_own enough long heard = absurd (omega arith)
begins_frame s range f sent is_sent due ready calibration counts (own ∷ owns) more [] are_own enough long heard = absurd heard
begins_frame s range f sent is_sent due ready calibration counts (own ∷ owns) more (next ∷ pulses) are_own enough long heard =
    let short = nibble_short s.tick f.tick own f.frame.status is_sent.tick (All-head (IsOwnTick f.tick) own owns are_own) is_sent.fits.status in
    begins_steady s range f sent is_sent due ready calibration next pulses (calibration_heard s.tick s.jitter f.tick calibration.length is_sent.tick long)
    (never_long s.tick s.jitter ((12 + f.frame.status) * own) next.length range.jitter_low range.jitter_high short heard.0) long

-- ---- what comes behind the frame
-- where a setup has a pause, it is passed; and then a calibration pulse is due
pub record IsPausePassed (s : Settings) (paused : Bool) (calibration : ℕ) (more : List ℕ) (pulses : List Pulse) : Type 0 where
  pub reads : reading s (if paused then PauseDue calibration else CalibrationDue calibration) pulses ≡ reading s (CalibrationDue calibration) (drop (if paused then 1 else 0) pulses)
  pub rest : AreHeard s.jitter more (drop (if paused then 1 else 0) pulses)

pause_passed : (s : Settings) → InRange s.tick s.jitter s.nibbles → (tick pause calibration : ℕ) (paused : Bool) → (paused ≡ true → (12 ≤ pause) × (pause ≤ 768)) → IsTick s.tick tick → IsHeard s.jitter (56 * tick) calibration
    → (own more : List ℕ) (pulses : List Pulse) → All (IsOwnTick tick) own → (if paused then 1 else 0) ≤ length own → AreHeard s.jitter (lengths_of (pause_ticks paused pause) own ++ more) pulses
    → IsPausePassed s paused calibration more pulses
pause_passed s range tick pause calibration false fits is_tick long own more pulses are_own enough heard = record { reads = refl; rest = heard }
pause_passed s range tick pause calibration true fits is_tick long [] more pulses are_own enough heard = absurd (omega arith)
pause_passed s range tick pause calibration true fits is_tick long (own ∷ owns) more [] are_own enough heard = absurd heard
pause_passed s range tick pause calibration true fits is_tick long (own ∷ owns) more (pulse ∷ pulses) are_own enough heard =
    let bounds = fits refl in
    let passes = pause_heard s.tick s.jitter tick own pause calibration pulse.length range.jitter_high is_tick (All-head (IsOwnTick tick) own owns are_own) bounds.0 bounds.1 long heard.0 in
    record { reads = over_pulse s (PauseDue calibration) (CalibrationDue calibration) pulse pulses (found_pause s calibration pulse pulses passes); rest = heard.1 }

-- ---- the whole frame
-- the frame at the front of these pulses is reported, and a calibration pulse is due behind its last pulse
pub record IsFrameRead (s : Settings) (f : Sending) (due : Standing) (more : List ℕ) (pulses : List Pulse) : Type 0 where
  pub calibration : ℕ
  pub long : IsHeard s.jitter (56 * f.tick) calibration
  pub reads : reading s due pulses ≡ Good (place_at pulses (suc (suc s.nibbles))) f.frame ∷ reading s (CalibrationDue calibration) (drop (pulse_count s) pulses)
  pub rest : AreHeard s.jitter more (drop (pulse_count s) pulses)

behind_pause : (n k : ℕ) (pulse : Pulse) (pulses : List Pulse) → drop k (drop (suc (suc n)) pulses) ≡ drop (suc (suc (suc (n + k)))) (pulse ∷ pulses)
behind_pause n k pulse pulses =
    let all : suc (suc n) + k ≡ suc (suc (n + k)) = omega arith in
    drop-drop k (suc (suc n)) pulses ∙ ap (λ m. drop m pulses) all

read_pulses : (s : Settings) → InRange s.tick s.jitter s.nibbles → (f : Sending) (sent : List Sending) → IsSent s f → (due : Standing) → AreDue s due (f ∷ sent) → (more : List ℕ) (pulses : List Pulse)
    → AreHeard s.jitter (lengths_of (56 ∷ (value_ticks (values_in s f.frame) ++ pause_ticks s.pause f.pause)) (f.tick ∷ f.own_ticks) ++ more) pulses → IsFrameRead s f due more pulses
read_pulses s range f sent is_sent due ready more [] heard = absurd heard
read_pulses s range f sent is_sent due ready more (calibration ∷ pulses) heard =
    let long = heard.0 in
    let c = calibration.length in
    let enough = enough_ticks s f is_sent in
    let frame = frame_heard s range f is_sent c more pulses long heard.1 in
    let begins = begins_frame s range f sent is_sent due ready calibration (pause_ticks s.pause f.pause) f.own_ticks more pulses is_sent.own_ticks (omega (arith, enough)) long heard.1 in
    let own = drop (suc (suc s.nibbles)) f.own_ticks in
    let pause = pause_passed s range f.tick f.pause c s.pause is_sent.pause is_sent.tick long own more (drop (suc (suc s.nibbles)) pulses)
    (All-drop (IsOwnTick f.tick) (suc (suc s.nibbles)) f.own_ticks is_sent.own_ticks) (omega (arith, enough, length-drop (suc (suc s.nibbles)) f.own_ticks)) frame.rest in
    let behind = behind_pause s.nibbles (if s.pause then 1 else 0) calibration pulses in
    record {
      calibration = c;
      long = long;
      reads = over_frame s due (due_after s c) calibration pulses (Good (place_at pulses (suc s.nibbles)) f.frame) (suc (suc s.nibbles)) (begins ∙ frame.found)
          ∙ ap (λ later. Good (place_at pulses (suc s.nibbles)) f.frame ∷ later) (pause.reads ∙ ap (reading s (CalibrationDue c)) behind);
      rest = subst (λ (later : List Pulse). AreHeard s.jitter more later) behind pause.rest;
    }

pub read_frame : (s : Settings) → InRange s.tick s.jitter s.nibbles → (f : Sending) (sent : List Sending) → IsSent s f → (due : Standing) → AreDue s due (f ∷ sent) → (more : List ℕ) (pulses : List Pulse)
    → AreHeard s.jitter (pulses_sent s f ++ more) pulses → IsFrameRead s f due more pulses
read_frame s range f sent is_sent due ready more pulses heard =
    read_pulses s range f sent is_sent due ready more pulses (subst (λ (counts : List ℕ). AreHeard s.jitter (lengths_of counts (f.tick ∷ f.own_ticks) ++ more) pulses) (ticks_apart s f.frame f.pause) heard)

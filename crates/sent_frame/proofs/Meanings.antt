-- Each report of a list of pulses means something in these pulses.
--     reports_mean        the reports of a list of pulses, each in these pulses
--     later_mean          what holds of each report of a list holds of each of the last ones
use Rattle.std.proofs.Common.{◌≡◌, ℕ, suc, List, [], ◌∷◌, ◌++◌, Bool, true, false, not, inl, inr, ◌==◌, cond, if◌then◌else◌, length, take, drop, slice_index, refl, ap, sym, ◌∙◌, subst, append-nil, arith}
use Rattle.std.proofs.lemmas.List.{drop_at, take-append-drop}
use Rattle.std.proofs.lemmas.List.Elements.{All-drop, All-nil, All-same}
use Rattle.std.specs.List.{All}
use Rattle.line_base.specs.Readings.{Found}
use Rattle.line_base.proofs.ReportMeanings.{FoundHas, read-all}
use Rattle.line_base.specs.Readings.Found.{Past, Reported}
use Rattle.line_base.specs.declared.rule.Rule.TheVariants as rule
use Rattle.link_math.specs.Sent.{is_steady, is_pause}
use Rattle.sent_frame.specs.declared.crc.Cover.TheVariants as over
use Rattle.sent_frame.specs.declared.frame.SentStep.{SentStep}
use Rattle.sent_frame.specs.declared.frame.SentStep.TheVariants.{Good, Bad}
use Rattle.sent_frame.specs.Setup.{Settings}
use Rattle.sent_frame.specs.Pulses.{Pulse}
use Rattle.sent_frame.specs.Reading.{Standing, Hunting, PauseDue, CalibrationDue, Values, Carried, Broken, Short, crc_of, may_calibrate, place_at, frame_of, frame_from, hunted, found, found_hunting, reports_of}
use Rattle.sent_frame.specs.Frames.{BeginsFrame, EndsInFrame, EndsInPause, Means}
use Rattle.sent_frame.proofs.CarriedValues.{IsCarried, ValuesMean, values_mean, is_sent, checks-good, checks-wrong}

-- ---- how far the reading has come
-- what is due says this of the pulses that are used up
abbrev Knows : Settings → Standing → List Pulse → Type 0
Knows s Hunting used = Unit {0}
Knows s (PauseDue c) used = (s.pause ≡ true) × EndsInFrame s used c
Knows s (CalibrationDue c) used = EndsInPause s used c

-- what stands at the front says this of the pulses, where the rest begins behind these
abbrev FoundMeans : Settings → List Pulse → List Pulse → Pulse → List Pulse → Found SentStep Standing → Type 0
FoundMeans s pulses before pulse rest f = FoundHas (Means s pulses) (λ used next. Knows s next (before ++ pulse ∷ take used rest)) f

-- ---- a frame
due_by : (s : Settings) (c : ℕ) (used : List Pulse) (test : Bool) → s.pause ≡ test → EndsInFrame s used c → Knows s (cond test (PauseDue c) (CalibrationDue c)) used
due_by s c used true e frame = (e, frame)
due_by s c used false e frame = record {
  before = used;
  pauses = [];
  stands = sym (append-nil used);
  frame = frame;
  as_many = ap (λ test. if test then 1 else 0) e;
  fits = λ pause one. absurd (cc);
}

checked_means : (s : Settings) (pulses before : List Pulse) (calibration : Pulse) (rest : List Pulse) (status : ℕ) (values : List ℕ) (test : Bool)
    → pulses ≡ before ++ calibration ∷ rest → may_calibrate s calibration ≡ true → IsCarried calibration.length (suc (suc s.nibbles)) rest (status ∷ values)
    → (crc_of s.crc (take s.nibbles values) == slice_index values s.nibbles) ≡ test
    → Means s pulses (cond test (Good (place_at rest (suc s.nibbles)) (record { status = status; nibbles = take s.nibbles values })) (Bad (place_at rest (suc s.nibbles)) rule.Check))
checked_means s pulses before calibration rest status values true stands calibrates there right = record {
  before = before;
  calibration = calibration;
  others = take (suc (suc s.nibbles)) rest;
  after = drop (suc (suc s.nibbles)) rest;
  stands = stands ∙ ap (λ all. before ++ calibration ∷ all) (sym (take-append-drop (suc (suc s.nibbles)) rest));
  sent = checks-good over.Nibbles s calibration rest status values calibrates there right;
}
checked_means s pulses before calibration rest status values false stands calibrates there wrong =
    let other = checks-wrong over.Nibbles s calibration rest status values calibrates there wrong in
    record {
      before = before;
      calibration = calibration;
      others = take (suc (suc s.nibbles)) rest;
      after = drop (suc (suc s.nibbles)) rest;
      stands = stands ∙ ap (λ all. before ++ calibration ∷ all) (sym (take-append-drop (suc (suc s.nibbles)) rest));
      frame = other.frame;
      crc = other.crc;
      sent = other.sent;
      wrong = other.wrong;
    }

frame_means : (s : Settings) (pulses before : List Pulse) (calibration : Pulse) (rest : List Pulse) (values : Values)
    → pulses ≡ before ++ calibration ∷ rest → may_calibrate s calibration ≡ true → BeginsFrame s before calibration rest → ValuesMean calibration.length (suc (suc s.nibbles)) rest values
    → FoundMeans s pulses before calibration rest (frame_of s calibration.length rest values)
frame_means s pulses before calibration rest (Carried []) stands calibrates begins mean = absurd (omega (arith, mean.as_many))
frame_means s pulses before calibration rest (Carried (status ∷ values)) stands calibrates begins mean =
    let frame : EndsInFrame s (before ++ calibration ∷ take (suc (suc s.nibbles)) rest) calibration.length = record {
      before = before;
      calibration = calibration;
      others = take (suc (suc s.nibbles)) rest;
      stands = refl;
      frame = record { status = status; nibbles = take s.nibbles values };
      crc = slice_index values s.nibbles;
      place = place_at rest (suc s.nibbles);
      sent = is_sent s calibration rest status values calibrates mean;
      long = refl;
    } in (
      checked_means s pulses before calibration rest status values _ stands calibrates mean refl,
      due_by s calibration.length _ s.pause refl frame,
    )
frame_means s pulses before calibration rest (Broken used broken) stands calibrates begins mean = (
  record {
    before = before;
    calibration = calibration;
    others = mean.others;
    broken = broken;
    after = mean.after;
    stands = stands ∙ ap (λ all. before ++ calibration ∷ all) mean.stands;
    calibrates = calibrates;
    begins = subst (λ (behind : List Pulse). BeginsFrame s before calibration behind) mean.stands begins;
    too_few = mean.too_few;
    values = mean.values;
    carried = mean.carried;
    none = mean.none;
    ends = refl;
  },
  tt,
)
frame_means s pulses before calibration rest Short stands calibrates begins mean = All-nil (Means s pulses)

-- ---- what stands at the front, by what is due
hunted_means : (s : Settings) (pulses before : List Pulse) (pulse : Pulse) (rest : List Pulse) → pulses ≡ before ++ pulse ∷ rest → may_calibrate s pulse ≡ true → FoundMeans s pulses before pulse rest (hunted s pulse rest)
hunted_means s pulses before pulse [] stands calibrates = All-nil (Means s pulses)
hunted_means s pulses before pulse (next ∷ rest) stands calibrates = by_next (may_calibrate s next) refl
  where
    by_next : (test : Bool) → may_calibrate s next ≡ test → FoundMeans s pulses before pulse (next ∷ rest) (cond test (Past 0 Hunting) (frame_from s pulse.length (next ∷ rest)))
    by_next true again = tt
    by_next false never = frame_means s pulses before pulse (next ∷ rest) _ stands calibrates (inl never) (values_mean pulse.length (suc (suc s.nibbles)) (next ∷ rest))

hunting_means : (s : Settings) (pulses before : List Pulse) (pulse : Pulse) (rest : List Pulse) → pulses ≡ before ++ pulse ∷ rest → FoundMeans s pulses before pulse rest (found_hunting s pulse rest)
hunting_means s pulses before pulse rest stands = by_test (may_calibrate s pulse) refl
  where
    by_test : (test : Bool) → may_calibrate s pulse ≡ test → FoundMeans s pulses before pulse rest (cond test (hunted s pulse rest) (Past 0 Hunting))
    by_test true calibrates = hunted_means s pulses before pulse rest stands calibrates
    by_test false never = tt

pause_means : (s : Settings) (pulses before : List Pulse) (c : ℕ) (pulse : Pulse) (rest : List Pulse) → pulses ≡ before ++ pulse ∷ rest → s.pause ≡ true → EndsInFrame s before c → FoundMeans s pulses before pulse rest (found s (PauseDue c) pulse rest)
unfolding found
pause_means s pulses before c pulse rest stands due frame = by_test (is_pause pulse.length c) refl
  where
    by_test : (test : Bool) → is_pause pulse.length c ≡ test → FoundMeans s pulses before pulse rest (cond test (Past 0 (CalibrationDue c)) (Reported (Bad pulse.place rule.PauseRange) (Past 0 Hunting)))
    by_test true fits = record {
      before = before;
      pauses = pulse ∷ [];
      stands = refl;
      frame = frame;
      as_many = ap (λ test. if test then 1 else 0) due;
      fits = λ pause one. let same : pulse ≡ pause = cc in subst (λ (p : Pulse). is_pause p.length c ≡ true) same fits;
    }
    by_test false unfit = (
      record {
        before = before;
        pause = pulse;
        after = rest;
        stands = stands;
        due = due;
        length = c;
        frame = frame;
        unfit = unfit;
        ends = refl;
      },
      tt,
    )

calibration_means : (s : Settings) (pulses before : List Pulse) (c : ℕ) (pulse : Pulse) (rest : List Pulse) → pulses ≡ before ++ pulse ∷ rest → EndsInPause s before c → FoundMeans s pulses before pulse rest (found s (CalibrationDue c) pulse rest)
unfolding found
calibration_means s pulses before c pulse rest stands frame = by_test (may_calibrate s pulse) refl
  where
    by_steady : (test : Bool) → is_steady c pulse.length ≡ test → may_calibrate s pulse ≡ true → FoundMeans s pulses before pulse rest (cond test (frame_from s pulse.length rest) (Reported (Bad pulse.place rule.Drift) (found_hunting s pulse rest)))
    by_steady true steady calibrates = frame_means s pulses before pulse rest _ stands calibrates (inr (record { length = c; frame = frame; steady = steady })) (values_mean pulse.length (suc (suc s.nibbles)) rest)
    by_steady false drifted calibrates = (
      record {
        before = before;
        pulse = pulse;
        after = rest;
        stands = stands;
        length = c;
        frame = frame;
        calibrates = calibrates;
        drifted = drifted;
        ends = refl;
      },
      hunting_means s pulses before pulse rest stands,
    )

    by_test : (test : Bool) → may_calibrate s pulse ≡ test → FoundMeans s pulses before pulse rest (cond (not test) (Reported (Bad pulse.place rule.NoCalibration) (Past 0 Hunting)) (cond (is_steady c pulse.length) (frame_from s pulse.length rest) (Reported (Bad pulse.place rule.Drift) (found_hunting s pulse rest))))
    by_test true calibrates = by_steady (is_steady c pulse.length) refl calibrates
    by_test false none = (
      record {
        before = before;
        pulse = pulse;
        after = rest;
        stands = stands;
        length = c;
        frame = frame;
        none = none;
        ends = refl;
      },
      tt,
    )

found_means : (s : Settings) (pulses before : List Pulse) (standing : Standing) (pulse : Pulse) (rest : List Pulse) → pulses ≡ before ++ pulse ∷ rest → Knows s standing before → FoundMeans s pulses before pulse rest (found s standing pulse rest)
unfolding found
found_means s pulses before Hunting pulse rest stands knows = hunting_means s pulses before pulse rest stands
found_means s pulses before (PauseDue c) pulse rest stands knows = pause_means s pulses before c pulse rest stands knows.0 knows.1
found_means s pulses before (CalibrationDue c) pulse rest stands knows = calibration_means s pulses before c pulse rest stands knows

-- each report of a list of pulses, read from its start, means something in these pulses
pub reports_mean : (s : Settings) (pulses : List Pulse) → All (Means s pulses) (reports_of s pulses)
reports_mean s pulses = read-all (found s) Hunting (Means s pulses) (Knows s) pulses (record { each = λ standing before pulse rest stands knows. found_means s pulses before standing pulse rest stands knows }) tt

-- what holds of each report of a list holds of each of the last ones
pub later_mean : (P : SentStep → Type 0) (all before later : List SentStep) → all ≡ before ++ later → All P all → All P later
later_mean P all before later e each =
    All-same P later (drop (length before) (before ++ later)) (sym (drop_at before later (length before) refl))
    (All-drop P (length before) (before ++ later) (All-same P (before ++ later) all (sym e) each))

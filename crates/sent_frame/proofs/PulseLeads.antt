-- Where the next pulse leads a SENT reader.
--     hunt-candidate, hunt-passed, lead-hunting      while hunting
--     lead-again, candidate-begins      after a pulse that may be a calibration pulse
--     next-in-frame, frame-breaks, frame-keeps, frame-ends      in a frame
--     lead-fits, lead-unfit, lead-none, lead-drift, lead-steady      after a frame
--     position-waits      what is kept has no report yet
use Rattle.std.proofs.Common.{◌≡◌, ℕ, zero, suc, ◌<◌, List, [], ◌∷◌, ◌++◌, Bool, true, false, ◌==◌, cond, Option, None, Some, length, length-append, take, slice_index, refl, sym, ap, ap₂, subst, ◌∙◌, append_assoc, append-nil, arith}
use Rattle.line_base.specs.Readings.{told}
use Rattle.line_base.specs.Standing.{Led, Leads}
use Rattle.line_base.proofs.Readings.{end-nil, end-waits, read-nil, read-waits}
use Rattle.line_base.proofs.Standing.{Waits, leads-again, leads-past, led-kept, led-past, led-then, led-whole}
use Rattle.line_base.specs.Readings.Found.{Waiting, Past, Reported}
use Rattle.line_base.specs.declared.rule.Rule.TheVariants as rule
use Rattle.link_math.specs.Sent.{is_calibration, is_steady, is_pause, value_of}
use Rattle.sent_frame.specs.declared.frame.SentFrame.{SentFrame}
use Rattle.sent_frame.specs.declared.frame.SentStep.{SentStep}
use Rattle.sent_frame.specs.declared.frame.SentStep.TheVariants.{Good, Bad}
use Rattle.sent_frame.specs.declared.position.Position.{Position}
use Rattle.sent_frame.specs.declared.position.Position.TheVariants as position
use Rattle.sent_frame.specs.Setup.{Settings}
use Rattle.sent_frame.specs.Pulses.{Pulse}
use Rattle.sent_frame.specs.Reading.{Standing, Hunting, PauseDue, CalibrationDue, Values, Carried, Broken, Short, values_of, with_value, crc_of, may_calibrate, due_after, place_at, checked, frame_of, frame_from, found}
use Rattle.sent_frame.specs.Positions.{AgreesPosition, IsCandidate, IsInFrame, IsKeptPulse, IsPosition, steps_of}
use Rattle.sent_frame.proofs.Prefixes.{found-keeps}

-- ---- while hunting
at_passed : (s : Settings) (p : Pulse) (more : List Pulse) → may_calibrate s p ≡ false → found s Hunting p more ≡ Past 0 Hunting
unfolding found
at_passed s p more e = rw e refl

pub hunt-candidate : (s : Settings) (p : Pulse) → Led (found s) (AgreesPosition s (position.Candidate p.length)) Hunting (p ∷ []) []
hunt-candidate s p = led-kept Hunting (p ∷ []) (record { pulse = p; hunts = refl; stands = refl; long = refl })

pub hunt-passed : (s : Settings) (p : Pulse) → may_calibrate s p ≡ false → Led (found s) (AgreesPosition s position.Hunting) Hunting (p ∷ []) []
hunt-passed s p e = led-past (found-keeps s) Hunting Hunting p [] [] [] (at_passed s p [] e) (refl, refl)

-- where nothing is kept
from_none : (s : Settings) (due : Standing) (next : Position) (p : Pulse) (reports : List SentStep) → Led (found s) (AgreesPosition s next) due (p ∷ []) reports
    → (now : Standing) (kept : List Pulse) → (now ≡ due) × (kept ≡ []) → Led (found s) (AgreesPosition s next) now (kept ++ p ∷ []) reports
from_none s due next p reports led now kept agrees = rw (agrees.0, agrees.1) led

pub lead-hunting : (s : Settings) (next : Position) (p : Pulse) → Led (found s) (AgreesPosition s next) Hunting (p ∷ []) [] → Leads (found s) (AgreesPosition s position.Hunting) (AgreesPosition s next) (p ∷ []) []
lead-hunting s next p led = record { each = from_none s Hunting next p [] led }

-- ---- after a pulse that may be a calibration pulse
calibrates : (s : Settings) (c : ℕ) (q : Pulse) → q.length ≡ c → IsKeptPulse s c → may_calibrate s q ≡ true
calibrates s c q long kept = ap (λ n. is_calibration n s.tick s.jitter) long ∙ kept.calibrates

false_start : (s : Settings) (q p : Pulse) (more : List Pulse) → may_calibrate s q ≡ true → may_calibrate s p ≡ true → found s Hunting q (p ∷ more) ≡ Past 0 Hunting
unfolding found
false_start s q p more e e' = rw (e, e') refl

begins : (s : Settings) (q p : Pulse) (more : List Pulse) → may_calibrate s q ≡ true → may_calibrate s p ≡ false → found s Hunting q (p ∷ more) ≡ frame_from s q.length (p ∷ more)
unfolding found
begins s q p more e e' = rw (e, e') refl

pub lead-again : (s : Settings) (c : ℕ) (p : Pulse) → IsKeptPulse s c → may_calibrate s p ≡ true → Leads (found s) (AgreesPosition s (position.Candidate c)) (AgreesPosition s (position.Candidate p.length)) (p ∷ []) []
lead-again s c p kept_pulse e = record {
  each = λ due kept agrees.
      let q = agrees.pulse in
      rw (agrees.hunts, agrees.stands) (led-past (found-keeps s) Hunting Hunting q [] (p ∷ []) [] (false_start s q p [] (calibrates s c q agrees.long kept_pulse) e)
      (record { pulse = p; hunts = refl; stands = refl; long = refl }));
}

pub values-none : (c : ℕ) → values_of c 0 [] ≡ Carried []
unfolding values_of
values-none c = refl

pub candidate-begins : (s : Settings) (c : ℕ) (p : Pulse) (due : Standing) (kept : List Pulse) → IsKeptPulse s c → may_calibrate s p ≡ false → IsCandidate c due kept → IsInFrame s c [] due kept (p ∷ [])
candidate-begins s c p due kept kept_pulse e agrees =
    let q = agrees.pulse in
    record {
      first = q;
      later = [];
      stands = agrees.stands;
      begins = λ more.
          ap (λ d. found s d q (p ∷ more)) agrees.hunts ∙ begins s q p more (calibrates s c q agrees.long kept_pulse) e
          ∙ ap (λ n. frame_from s n (p ∷ more)) agrees.long;
      as_many = refl;
      carried = values-none c;
    }

-- ---- what the pulses of a frame say
-- the pulses behind the first of some that all carry a value, with the first one's value
record FirstCarries (c : ℕ) (p : Pulse) (later : List Pulse) (values : List ℕ) : Type 0 where
  pub value : ℕ
  pub others : List ℕ
  pub first : value_of p.length c ≡ Some value
  pub rest : values_of c (length later) later ≡ Carried others
  pub all : values ≡ value ∷ others

first_of : (c : ℕ) (p : Pulse) (later : List Pulse) (values : List ℕ) (answer : Option ℕ) (rest : Values) → value_of p.length c ≡ answer → values_of c (length later) later ≡ rest → with_value p answer rest ≡ Carried values → FirstCarries c p later values
first_of c p later values None rest e e' carried = absurd (cc)
first_of c p later values (Some v) (Carried others) e e' carried = record { value = v; others = others; first = e; rest = e'; all = cc }
first_of c p later values (Some v) (Broken count broken) e e' carried = absurd (cc)
first_of c p later values (Some v) Short e e' carried = absurd (cc)

first-carries : (c : ℕ) (p : Pulse) (later : List Pulse) (values : List ℕ) → values_of c (length (p ∷ later)) (p ∷ later) ≡ Carried values → FirstCarries c p later values
unfolding values_of
first-carries c p later values carried = first_of c p later values (value_of p.length c) (values_of c (length later) later) refl refl carried

-- all carry a value, and the next carries none
pub values-broken : (c count : ℕ) (later : List Pulse) (values : List ℕ) (p : Pulse) (more : List Pulse) → values_of c (length later) later ≡ Carried values → length later < count → value_of p.length c ≡ None
    → values_of c count (later ++ p ∷ more) ≡ Broken (length later) p
unfolding values_of
values-broken c zero later values p more carried fewer none = absurd (omega arith)
values-broken c (suc count) [] values p more carried fewer none = rw none refl
values-broken c (suc count) (q ∷ later) values p more carried fewer none =
    let first = first-carries c q later values carried in rw (first.first, values-broken c count later first.others p more first.rest (omega arith) none) refl

-- all carry a value, and more are to come
pub values-short : (c count : ℕ) (later : List Pulse) (values : List ℕ) → values_of c (length later) later ≡ Carried values → length later < count → values_of c count later ≡ Short
unfolding values_of
values-short c zero later values carried fewer = absurd (omega arith)
values-short c (suc count) [] values carried fewer = refl
values-short c (suc count) (q ∷ later) values carried fewer =
    let first = first-carries c q later values carried in rw (first.first, values-short c count later first.others first.rest (omega arith)) refl

-- all carry a value, and so does the next
pub values-more : (c : ℕ) (later : List Pulse) (values : List ℕ) (p : Pulse) (v : ℕ) → values_of c (length later) later ≡ Carried values → value_of p.length c ≡ Some v
    → values_of c (length (later ++ p ∷ [])) (later ++ p ∷ []) ≡ Carried (values ++ v ∷ [])
unfolding values_of
values-more c [] values p v carried e = let none : values ≡ [] = cc in rw (e, none) refl
values-more c (q ∷ later) values p v carried e =
    let first = first-carries c q later values carried in rw (first.first, values-more c later first.others p v first.rest e) (ap (λ all. Carried (all ++ v ∷ [])) (sym first.all))

pub place-last : (front : List Pulse) (p : Pulse) (index : ℕ) → length front ≡ index → place_at (front ++ p ∷ []) index ≡ p.place
place-last [] p zero long = refl
place-last [] p (suc index) long = absurd (omega arith)
place-last (q ∷ front) p zero long = absurd (omega arith)
place-last (q ∷ front) p (suc index) long = place-last front p index (omega arith)

-- ---- in a frame
-- whatever the next pulse is
pub next-in-frame : (s : Settings) (c : ℕ) (values : List ℕ) (due : Standing) (kept : List Pulse) (p : Pulse) → IsInFrame s c values due kept [] → IsInFrame s c values due kept (p ∷ [])
next-in-frame s c values due kept p inside = record { first = inside.first; later = inside.later; stands = inside.stands; begins = λ more. inside.begins (p ∷ more); as_many = inside.as_many; carried = inside.carried }

-- a pulse that carries no value breaks it, and is read again while hunting
pub frame-breaks : (s : Settings) (c : ℕ) (values : List ℕ) (p : Pulse) (next : Position) (due : Standing) (kept : List Pulse) → IsInFrame s c values due kept (p ∷ []) → length values < suc (suc s.nibbles) → value_of p.length c ≡ None
    → Led (found s) (AgreesPosition s next) Hunting (p ∷ []) [] → Led (found s) (AgreesPosition s next) due (kept ++ p ∷ []) (Bad p.place rule.NibbleRange ∷ [])
frame-breaks s c values p next due kept inside fewer none led =
    let first = inside.first in
    let later = inside.later in
    let broken = Bad p.place rule.NibbleRange ∷ [] in
    let finds : found s due first (later ++ p ∷ []) ≡ told broken (length later) Hunting =
    inside.begins [] ∙ ap (frame_of s c (later ++ p ∷ [])) (values-broken c (suc (suc s.nibbles)) later values p [] inside.carried (omega (arith, inside.as_many)) none) in
    rw inside.stands (led-then due Hunting (first ∷ later ++ p ∷ []) (p ∷ []) broken [] (leads-past (found s) (found-keeps s) due Hunting first later (p ∷ []) broken finds) led)

-- a pulse that carries a value, which isn't the last, is kept
pub frame-keeps : (s : Settings) (c : ℕ) (values : List ℕ) (v : ℕ) (p : Pulse) (due : Standing) (kept : List Pulse) → IsInFrame s c values due kept (p ∷ []) → value_of p.length c ≡ Some v
    → Led (found s) (AgreesPosition s (position.Frame c (values ++ v ∷ []))) due (kept ++ p ∷ []) []
frame-keeps s c values v p due kept inside e = led-kept due (kept ++ p ∷ []) (record {
  first = inside.first;
  later = inside.later ++ p ∷ [];
  stands = ap (λ k. k ++ p ∷ []) inside.stands;
  begins = λ more. subst (λ (l : List Pulse). found s due inside.first l ≡ frame_from s c l) (sym (append_assoc inside.later (p ∷ []) more)) (inside.begins more);
  as_many = omega (arith, length-append values (v ∷ []), length-append inside.later (p ∷ []), inside.as_many);
  carried = values-more c inside.later values p v inside.carried e;
})

-- the last pulse carries a value, and the frame is checked
pub frame-ends : (s : Settings) (c : ℕ) (values : List ℕ) (v : ℕ) (p : Pulse) (next : Position) (due : Standing) (kept : List Pulse) → IsInFrame s c values due kept (p ∷ []) → value_of p.length c ≡ Some v → length values ≡ suc s.nibbles
    → AgreesPosition s next (due_after s c) [] → Led (found s) (AgreesPosition s next) due (kept ++ p ∷ []) (checked s p.place (values ++ v ∷ []) ∷ [])
frame-ends s c values v p next due kept inside e all agrees =
    let first = inside.first in
    let later = inside.later ++ p ∷ [] in
    let whole : suc (suc s.nibbles) ≡ length later = omega (arith, length-append inside.later (p ∷ []), inside.as_many) in
    let place : place_at later (suc s.nibbles) ≡ p.place = place-last inside.later p (suc s.nibbles) (omega (arith, inside.as_many)) in
    let carried : values_of c (suc (suc s.nibbles)) later ≡ Carried (values ++ v ∷ []) = ap (λ n. values_of c n later) whole ∙ values-more c inside.later values p v inside.carried e in
    let report = checked s p.place (values ++ v ∷ []) ∷ [] in
    let finds : found s due first later ≡ told report (length later) (due_after s c) =
    inside.begins [] ∙ ap (frame_of s c later) carried ∙ ap₂ (λ at used. told (checked s at (values ++ v ∷ []) ∷ []) used (due_after s c)) place whole in
    rw inside.stands (led-whole (found-keeps s) due (due_after s c) first later report finds agrees)

frame_waits : (s : Settings) (c : ℕ) (values : List ℕ) (due : Standing) (kept : List Pulse) (inside : IsInFrame s c values due kept []) → length values < suc (suc s.nibbles) → found s due inside.first inside.later ≡ Waiting []
frame_waits s c values due kept inside fewer =
    let none = append-nil inside.later in
    ap (found s due inside.first) (sym none) ∙ inside.begins [] ∙ ap (frame_from s c) none
    ∙ ap (frame_of s c inside.later) (values-short c (suc (suc s.nibbles)) inside.later values inside.carried (omega (arith, inside.as_many)))

one_step : (test : Bool) (place : ℕ) (frame : SentFrame) → steps_of (cond test (Good place frame) (Bad place rule.Check)) ≡ cond test (Good place frame) (Bad place rule.Check) ∷ []
one_step true place frame = refl
one_step false place frame = refl

-- a checked frame is a report
pub steps-checked : (s : Settings) (place : ℕ) (values : List ℕ) → steps_of (checked s place values) ≡ checked s place values ∷ []
steps-checked s place [] = refl
steps-checked s place (status ∷ values) = one_step (crc_of s.crc (take s.nibbles values) == slice_index values s.nibbles) place (record { status = status; nibbles = take s.nibbles values })

-- ---- after a frame
pub agrees-pause : (s : Settings) (c : ℕ) → s.pause ≡ true → AgreesPosition s (position.Pause c) (due_after s c) []
agrees-pause s c e = (rw e refl, refl)

pub agrees-calibration : (s : Settings) (c : ℕ) → s.pause ≡ false → AgreesPosition s (position.Calibration c) (due_after s c) []
agrees-calibration s c e = (rw e refl, refl)

at_fits : (s : Settings) (c : ℕ) (p : Pulse) → is_pause p.length c ≡ true → found s (PauseDue c) p [] ≡ Past 0 (CalibrationDue c)
unfolding found
at_fits s c p e = rw e refl

pub lead-fits : (s : Settings) (c : ℕ) (p : Pulse) → is_pause p.length c ≡ true → Leads (found s) (AgreesPosition s (position.Pause c)) (AgreesPosition s (position.Calibration c)) (p ∷ []) []
lead-fits s c p e = record { each = from_none s (PauseDue c) (position.Calibration c) p [] (led-past (found-keeps s) (PauseDue c) (CalibrationDue c) p [] [] [] (at_fits s c p e) (refl, refl)) }

at_unfit : (s : Settings) (c : ℕ) (p : Pulse) → is_pause p.length c ≡ false → found s (PauseDue c) p [] ≡ Reported (Bad p.place rule.PauseRange) (Past 0 Hunting)
unfolding found
at_unfit s c p e = rw e refl

pub lead-unfit : (s : Settings) (c : ℕ) (p : Pulse) → is_pause p.length c ≡ false → Leads (found s) (AgreesPosition s (position.Pause c)) (AgreesPosition s position.Hunting) (p ∷ []) (Bad p.place rule.PauseRange ∷ [])
lead-unfit s c p e = record {
  each = from_none s (PauseDue c) position.Hunting p (Bad p.place rule.PauseRange ∷ []) (led-past (found-keeps s) (PauseDue c) Hunting p [] [] (Bad p.place rule.PauseRange ∷ []) (at_unfit s c p e) (refl, refl));
}

at_none : (s : Settings) (c : ℕ) (p : Pulse) → may_calibrate s p ≡ false → found s (CalibrationDue c) p [] ≡ Reported (Bad p.place rule.NoCalibration) (Past 0 Hunting)
unfolding found
at_none s c p e = rw e refl

pub lead-none : (s : Settings) (c : ℕ) (p : Pulse) → may_calibrate s p ≡ false → Leads (found s) (AgreesPosition s (position.Calibration c)) (AgreesPosition s position.Hunting) (p ∷ []) (Bad p.place rule.NoCalibration ∷ [])
lead-none s c p e = record {
  each = from_none s (CalibrationDue c) position.Hunting p (Bad p.place rule.NoCalibration ∷ []) (led-past (found-keeps s) (CalibrationDue c) Hunting p [] [] (Bad p.place rule.NoCalibration ∷ []) (at_none s c p e) (refl, refl));
}

at_drift : (s : Settings) (c : ℕ) (p : Pulse) → may_calibrate s p ≡ true → is_steady c p.length ≡ false → (more : List Pulse) → found s (CalibrationDue c) p more ≡ Reported (Bad p.place rule.Drift) (found s Hunting p more)
unfolding found
at_drift s c p e drift more = rw (e, drift) refl

-- a calibration pulse that has drifted is reported, and read again while hunting
pub lead-drift : (s : Settings) (c : ℕ) (p : Pulse) → may_calibrate s p ≡ true → is_steady c p.length ≡ false → Leads (found s) (AgreesPosition s (position.Calibration c)) (AgreesPosition s (position.Candidate p.length)) (p ∷ []) (Bad p.place rule.Drift ∷ [])
lead-drift s c p e drift =
    let drifted = Bad p.place rule.Drift ∷ [] in
    record {
      each = from_none s (CalibrationDue c) (position.Candidate p.length) p drifted
          (led-then (CalibrationDue c) Hunting (p ∷ []) (p ∷ []) drifted [] (leads-again (found s) (CalibrationDue c) Hunting p [] drifted (at_drift s c p e drift)) (hunt-candidate s p));
    }

at_steady : (s : Settings) (c : ℕ) (p : Pulse) → may_calibrate s p ≡ true → is_steady c p.length ≡ true → (more : List Pulse) → found s (CalibrationDue c) p more ≡ frame_from s p.length more
unfolding found
at_steady s c p e steady more = rw (e, steady) refl

pub lead-steady : (s : Settings) (c : ℕ) (p : Pulse) → may_calibrate s p ≡ true → is_steady c p.length ≡ true → Leads (found s) (AgreesPosition s (position.Calibration c)) (AgreesPosition s (position.Frame p.length [])) (p ∷ []) []
lead-steady s c p e steady = record {
  each = from_none s (CalibrationDue c) (position.Frame p.length []) p [] (led-kept (CalibrationDue c) (p ∷ []) (record {
    first = p;
    later = [];
    stands = refl;
    begins = at_steady s c p e steady;
    as_many = refl;
    carried = values-none p.length;
  }));
}

-- ---- what is kept
at_candidate : (s : Settings) (q : Pulse) → may_calibrate s q ≡ true → found s Hunting q [] ≡ Waiting []
unfolding found
at_candidate s q e = rw e refl

-- what is kept has no report yet
pub position-waits : (s : Settings) (p : Position) → IsPosition s p → Waits (found s) (AgreesPosition s p) []
position-waits s position.Hunting valid = record { none = λ due kept agrees. rw agrees.1 (read-nil (found s) due); at_end = λ due kept agrees. rw agrees.1 (end-nil (found s) due) }
position-waits s (position.Candidate c) valid = record {
  none = λ due kept agrees. rw (agrees.hunts, agrees.stands) (read-waits (found s) Hunting agrees.pulse [] [] (at_candidate s agrees.pulse (calibrates s c agrees.pulse agrees.long valid)));
  at_end = λ due kept agrees. rw (agrees.hunts, agrees.stands) (end-waits (found s) Hunting agrees.pulse [] [] (at_candidate s agrees.pulse (calibrates s c agrees.pulse agrees.long valid)));
}
position-waits s (position.Frame c values) valid = record {
  none = λ due kept inside. rw inside.stands (read-waits (found s) due inside.first inside.later [] (frame_waits s c values due kept inside valid.1));
  at_end = λ due kept inside. rw inside.stands (end-waits (found s) due inside.first inside.later [] (frame_waits s c values due kept inside valid.1));
}
position-waits s (position.Pause c) valid = record { none = λ due kept agrees. rw agrees.1 (read-nil (found s) due); at_end = λ due kept agrees. rw agrees.1 (end-nil (found s) due) }
position-waits s (position.Calibration c) valid = record { none = λ due kept agrees. rw agrees.1 (read-nil (found s) due); at_end = λ due kept agrees. rw agrees.1 (end-nil (found s) due) }

-- Each report of a list of edges means something in these edges.
--     reports-mean      those so far
--     ends-mean      those that the end adds
--     later-mean      what holds of each report of a list holds of each of the last ones
use Rattle.std.proofs.Common.{◌≡◌, ℕ, zero, suc, ◌+◌, ◌-◌, ◌<◌, List, [], ◌∷◌, ◌++◌, Bool, true, false, not, ◌==◌, cond, nat_lt, Option, None, Some, length, take, drop, get_or, slice_index, refl, ap, sym, ◌∙◌, subst, append_assoc, arith}
use Rattle.std.proofs.lemmas.List.{drop_at, take-append-drop}
use Rattle.std.proofs.lemmas.List.Elements.{All-cons, All-drop, All-nil, All-same}
use Rattle.std.proofs.lemmas.List.Quantifiers.{position-Some}
use Rattle.std.specs.List.{All, position_or_len}
use Rattle.std.proofs.lemmas.Bool.{lt-ltb}
use Rattle.line_base.specs.Edges.{NumberedEdge}
use Rattle.line_base.specs.Readings.{Found, end_on, end_past, go_on, read_past, ended, skipped}
use Rattle.line_base.specs.Readings.Found.{Waiting, Past, Reported}
use Rattle.line_base.specs.Spans.{no_span}
use Rattle.line_base.specs.declared.edge.Span.{Span}
use Rattle.line_base.specs.declared.rule.Rule.TheVariants as rule
use Rattle.sent_frame.specs.declared.frame.SentStep.TheVariants as sent
use Rattle.sent_frame.specs.Pulses.{Pulse, falls_in, pulses_after}
use Rattle.sent_frame.specs.Reading.{Values, Carried, Broken, Short, covered, crc_of, may_calibrate, place_at, values_of}
use Rattle.sent_frame.proofs.CarriedValues.{ValuesMean, checks-good, checks-wrong, values_mean}
use Rattle.spc_link.specs.declared.step.SpcStep.{SpcStep}
use Rattle.spc_link.specs.declared.step.SpcStep.TheVariants.{Bad, NoAnswer}
use Rattle.spc_link.specs.Setup.{Settings}
use Rattle.spc_link.specs.Reading.{after_trigger, answer_of, answered, at_fall, by_code, code_of, found, frame_of, is_after_quiet, lasts, spc_ends, spc_reading, triggered}
use Rattle.spc_link.specs.Transactions.{HasAnswer, IsTriggerBefore, IsInWindow, Means, MeansAtEnd}

-- ---- what is found
-- each report that is found means something in these edges, and so does each that it comes to at the end
abbrev pub FoundMeans : Settings → List NumberedEdge → Found SpcStep (Unit {0}) → Type 0
FoundMeans s edges (Waiting ends) = All (MeansAtEnd s edges) ends
FoundMeans s edges (Past used next) = Unit {0}
FoundMeans s edges (Reported report found) = Means s edges report × FoundMeans s edges found

window_there : (s : Settings) (width code : ℕ) → code_of s width ≡ Some code → IsInWindow s code width
window_there s width code asks =
    let at = position-Some (λ (window : Span). lasts s.sent.tick window width) s.windows code no_span asks in record { there = at.0; inside = at.1 }

first_or_later : (passes : Bool) (n m : ℕ) → n < m → cond (not passes) (1 + n) 0 < suc m
first_or_later true n m below = omega arith
first_or_later false n m below = omega (arith, below)

one_passes : (p : Span → Bool) (spans : List Span) (k : ℕ) (d : Span) → k < length spans → p (get_or spans k d) ≡ true → position_or_len p spans < length spans
one_passes p [] k d there passes = absurd (omega (arith, there))
one_passes p (x ∷ spans) zero d there passes = rw passes (omega arith)
one_passes p (x ∷ spans) (suc k) d there passes = first_or_later (p x) (position_or_len p spans) (length spans) (one_passes p spans k d (omega (arith, there)) passes)

none_below : (n m : ℕ) → n < m → cond (nat_lt n m) (Some n) None ≡ None → ⊥
none_below n m below none = let some : Some n ≡ None = ap (λ b. cond b (Some n) None) (sym (lt-ltb n m below)) ∙ none in absurd (cc)

no_window : (s : Settings) (width : ℕ) → code_of s width ≡ None → (code : ℕ) → IsInWindow s code width → ⊥
no_window s width none code window =
    let below = one_passes (λ (window : Span). lasts s.sent.tick window width) s.windows code no_span window.there window.inside in
    none_below (position_or_len (λ (window : Span). lasts s.sent.tick window width) s.windows) (length s.windows) below none

checked_means : (s : Settings) (edges : List NumberedEdge) (code : ℕ) (p : Pulse) (ps : List Pulse) (status : ℕ) (values : List ℕ) (right : Bool) → HasAnswer s edges code (p ∷ ps) → may_calibrate s.sent p ≡ true
    → ValuesMean p.length (suc (suc s.sent.nibbles)) ps (Carried (status ∷ values)) → (crc_of s.sent.crc (covered s.cover status (take s.sent.nibbles values)) == slice_index values s.sent.nibbles) ≡ right
    → Means s edges (answered code (cond right (sent.Good (place_at ps (suc s.sent.nibbles)) (record { status = status; nibbles = take s.sent.nibbles values })) (sent.Bad (place_at ps (suc s.sent.nibbles)) rule.Check)))
checked_means s edges code p ps status values true answer calibrates mean right = record {
  calibration = p;
  others = take (suc (suc s.sent.nibbles)) ps;
  rest = drop (suc (suc s.sent.nibbles)) ps;
  answer = subst (λ (l : List Pulse). HasAnswer s edges code (p ∷ l)) (sym (take-append-drop (suc (suc s.sent.nibbles)) ps)) answer;
  sent = checks-good s.cover s.sent p ps status values calibrates mean right;
}
checked_means s edges code p ps status values false answer calibrates mean wrong = record {
  code = code;
  calibration = p;
  others = take (suc (suc s.sent.nibbles)) ps;
  rest = drop (suc (suc s.sent.nibbles)) ps;
  answer = subst (λ (l : List Pulse). HasAnswer s edges code (p ∷ l)) (sym (take-append-drop (suc (suc s.sent.nibbles)) ps)) answer;
  wrong = checks-wrong s.cover s.sent p ps status values calibrates mean wrong;
}

frame_means : (s : Settings) (edges : List NumberedEdge) (code : ℕ) (es : List NumberedEdge) (p : Pulse) (ps : List Pulse) (values : Values) → HasAnswer s edges code (p ∷ ps) → may_calibrate s.sent p ≡ true
    → ValuesMean p.length (suc (suc s.sent.nibbles)) ps values → FoundMeans s edges (frame_of s code es ps values)
frame_means s edges code es p ps (Carried []) answer calibrates mean = absurd (omega (arith, mean.as_many))
frame_means s edges code es p ps (Carried (status ∷ values)) answer calibrates mean = (checked_means s edges code p ps status values _ answer calibrates mean refl, tt)
frame_means s edges code es p ps (Broken used broken) answer calibrates mean = (
  record {
    code = code;
    calibration = p;
    others = mean.others;
    broken = broken;
    rest = mean.after;
    answer = subst (λ (l : List Pulse). HasAnswer s edges code (p ∷ l)) mean.stands answer;
    calibrates = calibrates;
    too_few = mean.too_few;
    values = mean.values;
    carried = mean.carried;
    none = mean.none;
    here = refl;
  },
  tt,
)
frame_means s edges code es p ps Short answer calibrates mean = All-nil (MeansAtEnd s edges)

answer_means : (s : Settings) (edges : List NumberedEdge) (code : ℕ) (es : List NumberedEdge) (pulses : List Pulse) → HasAnswer s edges code pulses → FoundMeans s edges (answer_of s code es pulses)
answer_means s edges code es [] answer = All-nil (MeansAtEnd s edges)
answer_means s edges code es (p ∷ ps) answer = by_test (may_calibrate s.sent p) refl
  where
    by_test : (test : Bool) → may_calibrate s.sent p ≡ test → FoundMeans s edges (cond test (frame_of s code es ps (values_of p.length (suc (suc s.sent.nibbles)) ps)) (at_fall (Bad p.place rule.NoCalibration) 0 es))
    by_test true calibrates = frame_means s edges code es p ps _ answer calibrates (values_mean p.length (suc (suc s.sent.nibbles)) ps)
    by_test false none = (record { code = code; first = p; rest = ps; answer = answer; none = none; here = refl }, tt)

started_means : (s : Settings) (edges : List NumberedEdge) (code : ℕ) (rise start : NumberedEdge) (es : List NumberedEdge) → IsTriggerBefore s edges code rise start es → FoundMeans s edges (after_trigger s code rise (start ∷ es))
started_means s edges code rise start es triggered = by_quiet (is_after_quiet s rise.edge.time start.edge) refl
  where
    by_delay : (test : Bool) → lasts s.sent.tick s.delay (start.edge.time - rise.edge.time) ≡ test → is_after_quiet s rise.edge.time start.edge ≡ false
        → FoundMeans s edges (cond test (answer_of s code es (pulses_after start.edge.time (falls_in es))) (ended (Bad start.number rule.Delay) 2))
    by_delay true inside passed =
        answer_means s edges code es (pulses_after start.edge.time (falls_in es)) (record { rise = rise; start = start; back = es; triggered = triggered; not_quiet = passed; in_delay = inside; made = refl })
    by_delay false outside passed = (record { code = code; rise = rise; start = start; back = es; triggered = triggered; not_quiet = passed; outside = outside; here = refl }, tt)

    by_quiet : (test : Bool) → is_after_quiet s rise.edge.time start.edge ≡ test
        → FoundMeans s edges (cond test (ended (NoAnswer rise.number code) 1) (cond (lasts s.sent.tick s.delay (start.edge.time - rise.edge.time)) (answer_of s code es (pulses_after start.edge.time (falls_in es))) (ended (Bad start.number rule.Delay) 2)))
    by_quiet true quiet = (record { rise = rise; next = start; back = es; triggered = triggered; quiet = quiet; here = refl }, tt)
    by_quiet false passed = by_delay (lasts s.sent.tick s.delay (start.edge.time - rise.edge.time)) refl passed

code_means : (s : Settings) (edges front : List NumberedEdge) (before fall rise : NumberedEdge) (es : List NumberedEdge) (code : Option ℕ) → edges ≡ front ++ before ∷ fall ∷ rise ∷ es
    → is_after_quiet s before.edge.time fall.edge ≡ true → code_of s (rise.edge.time - fall.edge.time) ≡ code → FoundMeans s edges (by_code s rise es code)
code_means s edges front before fall rise es None stands quiet none = (
  record {
    front = front;
    before = before;
    fall = fall;
    rise = rise;
    back = es;
    stands = stands;
    after_quiet = quiet;
    none = no_window s (rise.edge.time - fall.edge.time) none;
    here = refl;
  },
  tt,
)
code_means s edges front before fall rise [] (Some code) stands quiet asks = All-cons (MeansAtEnd s edges) (NoAnswer rise.number code) [] (record {
  front = front;
  before = before;
  fall = fall;
  rise = rise;
  stands = stands;
  trigger = record { after_quiet = quiet; width = window_there s (rise.edge.time - fall.edge.time) code asks };
  here = refl;
}) (All-nil (MeansAtEnd s edges))
code_means s edges front before fall rise (start ∷ es) (Some code) stands quiet asks = started_means s edges code rise start es (record {
  front = front;
  before = before;
  fall = fall;
  stands = stands;
  trigger = record { after_quiet = quiet; width = window_there s (rise.edge.time - fall.edge.time) code asks };
})

trigger_means : (s : Settings) (edges front : List NumberedEdge) (before fall : NumberedEdge) (es : List NumberedEdge) → edges ≡ front ++ before ∷ fall ∷ es → is_after_quiet s before.edge.time fall.edge ≡ true
    → FoundMeans s edges (triggered s fall es)
trigger_means s edges front before fall [] stands quiet = All-nil (MeansAtEnd s edges)
trigger_means s edges front before fall (rise ∷ es) stands quiet = code_means s edges front before fall rise es _ stands quiet refl

found_means : (s : Settings) (edges front : List NumberedEdge) (before : NumberedEdge) (es : List NumberedEdge) → edges ≡ front ++ before ∷ es → FoundMeans s edges (found s tt before es)
unfolding found
found_means s edges front before [] stands = All-nil (MeansAtEnd s edges)
found_means s edges front before (fall ∷ es) stands = by_test (is_after_quiet s before.edge.time fall.edge) refl
  where
    by_test : (test : Bool) → is_after_quiet s before.edge.time fall.edge ≡ test → FoundMeans s edges (cond test (triggered s fall es) skipped)
    by_test true quiet = trigger_means s edges front before fall es stands quiet
    by_test false passed = tt

-- ---- what is reported
on_read : (s : Settings) (edges : List NumberedEdge) (f : Found SpcStep (Unit {0})) (later : ℕ → Unit {0} → List SpcStep) → FoundMeans s edges f → ((used : ℕ) → All (Means s edges) (later used tt)) → All (Means s edges) (go_on f later)
on_read s edges (Waiting ends) later mean all = All-nil (Means s edges)
on_read s edges (Past used next) later mean all = all used
on_read s edges (Reported report f) later mean all = All-cons (Means s edges) report (go_on f later) mean.0 (on_read s edges f later mean.1 all)

on_end : (s : Settings) (edges : List NumberedEdge) (f : Found SpcStep (Unit {0})) (later : ℕ → Unit {0} → List SpcStep) → FoundMeans s edges f → ((used : ℕ) → All (MeansAtEnd s edges) (later used tt)) → All (MeansAtEnd s edges) (end_on f later)
on_end s edges (Waiting ends) later mean all = mean
on_end s edges (Past used next) later mean all = all used
on_end s edges (Reported report f) later mean all = on_end s edges f later mean.1 all

behind : (front : List NumberedEdge) (e : NumberedEdge) (edges es : List NumberedEdge) → edges ≡ front ++ e ∷ es → edges ≡ (front ++ e ∷ []) ++ es
behind front e edges es stands = stands ∙ sym (append_assoc front (e ∷ []) es)

read_means : (s : Settings) (edges : List NumberedEdge) (skip : ℕ) (front rest : List NumberedEdge) → edges ≡ front ++ rest → All (Means s edges) (read_past (found s) skip tt rest)
unfolding read_past
read_means s edges skip front [] stands = All-nil (Means s edges)
read_means s edges (suc skip) front (e ∷ es) stands = read_means s edges skip (front ++ e ∷ []) es (behind front e edges es stands)
read_means s edges zero front (e ∷ es) stands =
    on_read s edges (found s tt e es) (λ used next. read_past (found s) used next es) (found_means s edges front e es stands) (λ used. read_means s edges used (front ++ e ∷ []) es (behind front e edges es stands))

end_means : (s : Settings) (edges : List NumberedEdge) (skip : ℕ) (front rest : List NumberedEdge) → edges ≡ front ++ rest → All (MeansAtEnd s edges) (end_past (found s) skip tt rest)
unfolding end_past
end_means s edges skip front [] stands = All-nil (MeansAtEnd s edges)
end_means s edges (suc skip) front (e ∷ es) stands = end_means s edges skip (front ++ e ∷ []) es (behind front e edges es stands)
end_means s edges zero front (e ∷ es) stands =
    on_end s edges (found s tt e es) (λ used next. end_past (found s) used next es) (found_means s edges front e es stands) (λ used. end_means s edges used (front ++ e ∷ []) es (behind front e edges es stands))

-- each report of a list of edges means something in these edges
pub reports-mean : (s : Settings) (edges : List NumberedEdge) → All (Means s edges) (spc_reading s edges)
reports-mean s edges = read_means s edges 0 [] edges refl

-- and so does each that the end adds
pub ends-mean : (s : Settings) (edges : List NumberedEdge) → All (MeansAtEnd s edges) (spc_ends s edges)
ends-mean s edges = end_means s edges 0 [] edges refl

-- what holds of each report of a list holds of each of the last ones
pub later-mean : (P : SpcStep → Type 0) (all before later : List SpcStep) → all ≡ before ++ later → All P all → All P later
later-mean P all before later e each =
    All-same P later (drop (length before) (before ++ later)) (sym (drop_at before later (length before) refl))
    (All-drop P (length before) (before ++ later) (All-same P (before ++ later) all (sym e) each))

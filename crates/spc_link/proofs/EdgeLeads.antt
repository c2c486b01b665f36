-- Where the next edge leads an SPC reader.
--     begin-low, begin-idle, lead-fresh, lead-idle      outside a transaction
--     lead-width, lead-code      behind a trigger's fall
--     lead-silent, lead-answer, lead-late      behind a trigger's rise
--     answer-rises, answer-falls, answer-ends      in an answer, whatever it has said
--     lead-none, lead-calibrates      at its first pulse
--     frame-rises, frame-keeps, frame-breaks, frame-whole, steps-checked      at the pulses after it
--     state-waits      what is kept has no report yet, and these at the end
use Rattle.std.proofs.Common.{◌≡◌, ℕ, suc, ◌-◌, ◌<◌, List, [], ◌∷◌, ◌++◌, Bool, true, false, ◌==◌, cond, Option, None, Some, length, length-append, take, slice_index, refl, sym, ap, ap₂, ◌∙◌, append_assoc, append-nil, arith}
use Rattle.line_base.specs.Edges.{NumberedEdge}
use Rattle.line_base.specs.Readings.{told, ended, skipped}
use Rattle.line_base.specs.Readings.Found.{Waiting}
use Rattle.line_base.specs.Standing.{Led}
use Rattle.line_base.specs.declared.rule.Rule.TheVariants as rule
use Rattle.line_base.proofs.Readings.{end-nil, end-waits, read-nil, read-waits}
use Rattle.line_base.proofs.Standing.{Waits, leads-past, led-kept, led-past, led-then}
use Rattle.link_math.specs.Sent.{value_of}
use Rattle.sent_frame.specs.declared.frame.SentFrame.{SentFrame}
use Rattle.sent_frame.specs.declared.frame.SentStep.TheVariants as sent
use Rattle.sent_frame.specs.Pulses.{Pulse, falls_in, pulses_after}
use Rattle.sent_frame.specs.Reading.{Values, Carried, values_of, may_calibrate, place_at, checked_over, covered, crc_of}
use Rattle.sent_frame.proofs.Prefixes.{falls_in-append}
use Rattle.sent_frame.proofs.PulseLeads.{place-last, values-broken, values-more, values-none, values-short}
use Rattle.spc_link.specs.declared.state.Answer.{Answer}
use Rattle.spc_link.specs.declared.state.State.{State}
use Rattle.spc_link.specs.declared.state.State.TheVariants as state
use Rattle.spc_link.specs.declared.step.SpcStep.{SpcStep}
use Rattle.spc_link.specs.declared.step.SpcStep.TheVariants.{Bad, NoAnswer}
use Rattle.spc_link.specs.Setup.{Settings}
use Rattle.spc_link.specs.Reading.{after_trigger, answer_of, answered, at_fall, by_code, code_of, edges_before, found, frame_of, is_after_quiet, lasts, steps_of, triggered}
use Rattle.spc_link.specs.Kept.{AgreesState, EdgeLeads, IsInAnswer, IsLast, IsState, ends_of}
use Rattle.spc_link.proofs.FallCounts.{edges-here}
use Rattle.spc_link.proofs.Prefixes.{found-keeps}

-- ---- outside a transaction
at_quiet : (s : Settings) (before fall : NumberedEdge) (more : List NumberedEdge) → is_after_quiet s before.edge.time fall.edge ≡ true → found s tt before (fall ∷ more) ≡ triggered s fall more
unfolding found
at_quiet s before fall more quiet = rw quiet refl

at_passed : (s : Settings) (before e : NumberedEdge) (more : List NumberedEdge) → is_after_quiet s before.edge.time e.edge ≡ false → found s tt before (e ∷ more) ≡ skipped
unfolding found
at_passed s before e more passed = rw passed refl

is_last : (e : NumberedEdge) → IsLast e.edge.time (e ∷ [])
is_last e = record { last = e; stands = refl; there = refl }

pub begin-low : (s : Settings) (last e : NumberedEdge) → is_after_quiet s last.edge.time e.edge ≡ true → Led (found s) (AgreesState s (state.Low e.edge.time)) tt (last ∷ e ∷ []) []
begin-low s last e quiet = led-kept tt (last ∷ e ∷ []) (record { before = last; fall = e; stands = refl; quiet = quiet; there = refl })

pub begin-idle : (s : Settings) (last e : NumberedEdge) → is_after_quiet s last.edge.time e.edge ≡ false → Led (found s) (AgreesState s (state.Idle e.edge.time)) tt (last ∷ e ∷ []) []
begin-idle s last e passed = led-past (found-keeps s) tt tt last [] (e ∷ []) [] (at_passed s last e [] passed) (is_last e)

pub lead-fresh : (s : Settings) (e : NumberedEdge) → EdgeLeads s state.Fresh (state.Idle e.edge.time) e []
lead-fresh s e = record { each = λ due kept none. rw none (led-kept tt (e ∷ []) (is_last e)) }

pub lead-idle : (s : Settings) (time : ℕ) (next : State) (e : NumberedEdge) → ((last : NumberedEdge) → last.edge.time ≡ time → Led (found s) (AgreesState s next) tt (last ∷ e ∷ []) []) → EdgeLeads s (state.Idle time) next e []
lead-idle s time next e led = record { each = λ due kept agrees. rw agrees.stands (led agrees.last agrees.there) }

-- ---- behind a trigger's fall
width_of : (s : Settings) (fall e : NumberedEdge) (time : ℕ) (code : Option ℕ) → fall.edge.time ≡ time → code_of s (e.edge.time - time) ≡ code → code_of s (e.edge.time - fall.edge.time) ≡ code
width_of s fall e time code there asks = ap (λ t. code_of s (e.edge.time - t)) there ∙ asks

pub lead-code : (s : Settings) (time code : ℕ) (e : NumberedEdge) → code_of s (e.edge.time - time) ≡ Some code → EdgeLeads s (state.Low time) (state.Risen e.number e.edge.time code) e []
lead-code s time code e asks = record {
  each = λ due kept low.
      rw low.stands (led-kept tt (low.before ∷ low.fall ∷ e ∷ []) (record {
        before = low.before;
        fall = low.fall;
        rise = e;
        stands = refl;
        quiet = low.quiet;
        asks = width_of s low.fall e time (Some code) low.there asks;
        number = refl;
        there = refl;
      }));
}

pub lead-width : (s : Settings) (time : ℕ) (e : NumberedEdge) → code_of s (e.edge.time - time) ≡ None → EdgeLeads s (state.Low time) (state.Idle e.edge.time) e (Bad e.number rule.TriggerWidth ∷ [])
lead-width s time e none = record {
  each = λ due kept low.
      rw low.stands (led-past (found-keeps s) tt tt low.before (low.fall ∷ []) (e ∷ []) (Bad e.number rule.TriggerWidth ∷ [])
      (at_quiet s low.before low.fall (e ∷ []) low.quiet ∙ ap (by_code s e []) (width_of s low.fall e time None low.there none)) (is_last e));
}

-- ---- behind a trigger's rise
behind_rise : (s : Settings) (before fall rise : NumberedEdge) (code : ℕ) (more : List NumberedEdge) → is_after_quiet s before.edge.time fall.edge ≡ true → code_of s (rise.edge.time - fall.edge.time) ≡ Some code
    → found s tt before (fall ∷ rise ∷ more) ≡ after_trigger s code rise more
behind_rise s before fall rise code more quiet asks = at_quiet s before fall (rise ∷ more) quiet ∙ ap (by_code s rise more) asks

silent_after : (s : Settings) (code : ℕ) (rise start : NumberedEdge) (more : List NumberedEdge) → is_after_quiet s rise.edge.time start.edge ≡ true → after_trigger s code rise (start ∷ more) ≡ ended (NoAnswer rise.number code) 1
silent_after s code rise start more quiet = rw quiet refl

late_after : (s : Settings) (code : ℕ) (rise start : NumberedEdge) (more : List NumberedEdge) → is_after_quiet s rise.edge.time start.edge ≡ false → lasts s.sent.tick s.delay (start.edge.time - rise.edge.time) ≡ false
    → after_trigger s code rise (start ∷ more) ≡ ended (Bad start.number rule.Delay) 2
late_after s code rise start more passed outside = rw (passed, outside) refl

answer_after : (s : Settings) (code : ℕ) (rise start : NumberedEdge) (more : List NumberedEdge) → is_after_quiet s rise.edge.time start.edge ≡ false → lasts s.sent.tick s.delay (start.edge.time - rise.edge.time) ≡ true
    → after_trigger s code rise (start ∷ more) ≡ answer_of s code more (pulses_after start.edge.time (falls_in more))
answer_after s code rise start more passed inside = rw (passed, inside) refl

-- the next fall after quiet begins the next trigger
pub lead-silent : (s : Settings) (place time code : ℕ) (e : NumberedEdge) → is_after_quiet s time e.edge ≡ true → EdgeLeads s (state.Risen place time code) (state.Low e.edge.time) e (NoAnswer place code ∷ [])
lead-silent s place time code e quiet = record {
  each = λ due kept risen.
      let after : is_after_quiet s risen.rise.edge.time e.edge ≡ true = ap (λ t. is_after_quiet s t e.edge) risen.there ∙ quiet in
      rw risen.stands (led-past (found-keeps s) tt tt risen.before (risen.fall ∷ []) (risen.rise ∷ e ∷ []) (NoAnswer place code ∷ [])
      (behind_rise s risen.before risen.fall risen.rise code (e ∷ []) risen.quiet risen.asks ∙ silent_after s code risen.rise e [] after ∙ ap (λ n. ended (NoAnswer n code) 1) risen.number)
      (record { before = risen.rise; fall = e; stands = refl; quiet = after; there = refl }));
}

pub lead-answer : (s : Settings) (place time code : ℕ) (e : NumberedEdge) → is_after_quiet s time e.edge ≡ false → lasts s.sent.tick s.delay (e.edge.time - time) ≡ true
    → EdgeLeads s (state.Risen place time code) (state.Calibrating (record { code = code; fall = e.edge.time; time = e.edge.time })) e []
lead-answer s place time code e passed inside = record {
  each = λ due kept risen.
      rw risen.stands (led-kept tt (risen.before ∷ risen.fall ∷ risen.rise ∷ e ∷ []) (record {
        before = risen.before;
        fall = risen.fall;
        rise = risen.rise;
        start = e;
        later = [];
        stands = refl;
        begins = λ more.
            behind_rise s risen.before risen.fall risen.rise code (e ∷ more) risen.quiet risen.asks
            ∙ answer_after s code risen.rise e more (ap (λ t. is_after_quiet s t e.edge) risen.there ∙ passed) (ap (λ t. lasts s.sent.tick s.delay (e.edge.time - t)) risen.there ∙ inside);
        as_many = refl;
        made = λ more. refl;
        behind = [];
        last = e;
        ends = refl;
        there = refl;
      }));
}

pub lead-late : (s : Settings) (place time code : ℕ) (e : NumberedEdge) → is_after_quiet s time e.edge ≡ false → lasts s.sent.tick s.delay (e.edge.time - time) ≡ false
    → EdgeLeads s (state.Risen place time code) (state.Idle e.edge.time) e (Bad e.number rule.Delay ∷ [])
lead-late s place time code e passed outside = record {
  each = λ due kept risen.
      rw risen.stands (led-past (found-keeps s) tt tt risen.before (risen.fall ∷ risen.rise ∷ []) (e ∷ []) (Bad e.number rule.Delay ∷ [])
      (behind_rise s risen.before risen.fall risen.rise code (e ∷ []) risen.quiet risen.asks
      ∙ late_after s code risen.rise e [] (ap (λ t. is_after_quiet s t e.edge) risen.there ∙ passed) (ap (λ t. lasts s.sent.tick s.delay (e.edge.time - t)) risen.there ∙ outside)) (is_last e));
}

-- ---- in an answer, whatever it has said
no_fall : (e : NumberedEdge) (more : List NumberedEdge) → e.edge.level ≡ true → falls_in (e ∷ more) ≡ falls_in more
no_fall e more up = rw up refl

one_fall : (e : NumberedEdge) (more : List NumberedEdge) → e.edge.level ≡ false → falls_in (e ∷ more) ≡ record { number = e.number; time = e.edge.time } ∷ falls_in more
one_fall e more down = rw down refl

-- the pulse that ends at a fall
abbrev pub pulse_at : Answer → NumberedEdge → Pulse
pulse_at answer e = record { place = e.number; length = e.edge.time - answer.fall }

-- what is kept of an answer behind a rise, and behind a fall
abbrev pub risen_at : Answer → ℕ → Answer
risen_at answer time = record { code = answer.code; fall = answer.fall; time = time }

abbrev pub fallen_at : Answer → ℕ → Answer
fallen_at answer time = record { code = answer.code; fall = time; time = time }

pub answer-rises : (s : Settings) (answer : Answer) (pulses : List Pulse) (kept : List NumberedEdge) (e : NumberedEdge) → IsInAnswer s answer pulses kept → e.edge.level ≡ true → IsInAnswer s (risen_at answer e.edge.time) pulses (kept ++ e ∷ [])
answer-rises s answer pulses kept e inside up = record {
  before = inside.before;
  fall = inside.fall;
  rise = inside.rise;
  start = inside.start;
  later = inside.later ++ e ∷ [];
  stands = ap (λ k. k ++ e ∷ []) inside.stands;
  begins = inside.begins;
  as_many = ap length (falls_in-append inside.later (e ∷ []) ∙ ap (λ l. falls_in inside.later ++ l) (no_fall e [] up) ∙ append-nil (falls_in inside.later)) ∙ inside.as_many;
  made = λ more.
      ap (λ l. pulses_after inside.start.edge.time (falls_in l)) (append_assoc inside.later (e ∷ []) more)
      ∙ inside.made (e ∷ more) ∙ ap (λ l. pulses ++ pulses_after answer.fall l) (no_fall e more up);
  behind = inside.start ∷ inside.later;
  last = e;
  ends = refl;
  there = refl;
}

made_at : (answer : Answer) (pulses : List Pulse) (e : NumberedEdge) (more : List NumberedEdge) → e.edge.level ≡ false
    → pulses ++ pulses_after answer.fall (falls_in (e ∷ more)) ≡ (pulses ++ pulse_at answer e ∷ []) ++ pulses_after e.edge.time (falls_in more)
made_at answer pulses e more down = ap (λ l. pulses ++ pulses_after answer.fall l) (one_fall e more down) ∙ sym (append_assoc pulses (pulse_at answer e ∷ []) (pulses_after e.edge.time (falls_in more)))

pub answer-falls : (s : Settings) (answer : Answer) (pulses : List Pulse) (kept : List NumberedEdge) (e : NumberedEdge) → IsInAnswer s answer pulses kept → e.edge.level ≡ false
    → IsInAnswer s (fallen_at answer e.edge.time) (pulses ++ pulse_at answer e ∷ []) (kept ++ e ∷ [])
answer-falls s answer pulses kept e inside down =
    let one = length-append (falls_in inside.later) (record { number = e.number; time = e.edge.time } ∷ []) in
    let falls : length (falls_in (inside.later ++ e ∷ [])) ≡ length (falls_in inside.later ++ record { number = e.number; time = e.edge.time } ∷ []) =
    ap length (falls_in-append inside.later (e ∷ []) ∙ ap (λ l. falls_in inside.later ++ l) (one_fall e [] down)) in
    record {
      before = inside.before;
      fall = inside.fall;
      rise = inside.rise;
      start = inside.start;
      later = inside.later ++ e ∷ [];
      stands = ap (λ k. k ++ e ∷ []) inside.stands;
      begins = inside.begins;
      as_many = omega (arith, falls, one, inside.as_many, length-append pulses (pulse_at answer e ∷ []));
      made = λ more.
          ap (λ l. pulses_after inside.start.edge.time (falls_in l)) (append_assoc inside.later (e ∷ []) more)
          ∙ inside.made (e ∷ more) ∙ made_at answer pulses e more down;
      behind = inside.start ∷ inside.later;
      last = e;
      ends = refl;
      there = refl;
    }

-- the fall that ends the answer is read again, behind the edge before it
pub answer-ends : (s : Settings) (answer : Answer) (pulses : List Pulse) (kept : List NumberedEdge) (e : NumberedEdge) (report : SpcStep) (next : State) (inside : IsInAnswer s answer pulses kept) → e.edge.level ≡ false
    → answer_of s answer.code (inside.later ++ e ∷ []) (pulses ++ pulse_at answer e ∷ []) ≡ at_fall report (length pulses) (inside.later ++ e ∷ [])
    → ((last : NumberedEdge) → last.edge.time ≡ answer.time → Led (found s) (AgreesState s next) tt (last ∷ e ∷ []) [])
    → Led (found s) (AgreesState s next) tt (kept ++ e ∷ []) (report ∷ [])
answer-ends s answer pulses kept e report next inside down decides led =
    let later = inside.later in
    let front = inside.fall ∷ inside.rise ∷ inside.behind in
    let rest = inside.last ∷ e ∷ [] in
    let same : inside.start ∷ (later ++ e ∷ []) ≡ inside.behind ++ rest = ap (λ l. l ++ e ∷ []) inside.ends ∙ append_assoc inside.behind (inside.last ∷ []) (e ∷ []) in
    let made : pulses_after inside.start.edge.time (falls_in (later ++ e ∷ [])) ≡ pulses ++ pulse_at answer e ∷ [] =
    inside.made (e ∷ []) ∙ made_at answer pulses e [] down ∙ append-nil (pulses ++ pulse_at answer e ∷ []) in
    let count : edges_before (length pulses) (later ++ e ∷ []) ≡ length later = ap (λ n. edges_before n (later ++ e ∷ [])) (sym inside.as_many) ∙ edges-here later e [] down in
    let long : length later ≡ length inside.behind = omega (arith, ap length inside.ends, length-append inside.behind (inside.last ∷ [])) in
    let finds : found s tt inside.before (front ++ rest) ≡ told (report ∷ []) (length front) tt =
    ap (λ l. found s tt inside.before (inside.fall ∷ inside.rise ∷ l)) (sym same)
    ∙ inside.begins (later ++ e ∷ [])
    ∙ ap (answer_of s answer.code (later ++ e ∷ [])) made
    ∙ decides
    ∙ ap (λ n. ended report (suc (suc n))) (count ∙ long) in
    let all : kept ++ e ∷ [] ≡ inside.before ∷ (front ++ rest) = ap (λ k. k ++ e ∷ []) inside.stands ∙ ap (λ l. inside.before ∷ inside.fall ∷ inside.rise ∷ l) same in
    rw all (led-then tt tt (inside.before ∷ front ++ rest) rest (report ∷ []) [] (leads-past (found s) (found-keeps s) tt tt inside.before front rest (report ∷ []) finds) (led inside.last inside.there))

-- ---- at its first pulse
none_decides : (s : Settings) (code : ℕ) (es : List NumberedEdge) (p : Pulse) → may_calibrate s.sent p ≡ false → answer_of s code es (p ∷ []) ≡ at_fall (Bad p.place rule.NoCalibration) 0 es
none_decides s code es p none = rw none refl

pub lead-none : (s : Settings) (answer : Answer) (e : NumberedEdge) (next : State) → e.edge.level ≡ false → may_calibrate s.sent (pulse_at answer e) ≡ false
    → ((last : NumberedEdge) → last.edge.time ≡ answer.time → Led (found s) (AgreesState s next) tt (last ∷ e ∷ []) [])
    → EdgeLeads s (state.Calibrating answer) next e (Bad e.number rule.NoCalibration ∷ [])
lead-none s answer e next down none led = record {
  each = λ due kept inside. answer-ends s answer [] kept e (Bad e.number rule.NoCalibration) next inside down (none_decides s answer.code (inside.later ++ e ∷ []) (pulse_at answer e) none) led;
}

pub lead-calibrates : (s : Settings) (answer : Answer) (e : NumberedEdge) → e.edge.level ≡ false → may_calibrate s.sent (pulse_at answer e) ≡ true
    → EdgeLeads s (state.Calibrating answer) (state.Values (fallen_at answer e.edge.time) (e.edge.time - answer.fall) []) e []
lead-calibrates s answer e down calibrates = record {
  each = λ due kept inside. led-kept tt (kept ++ e ∷ []) (record {
    first = pulse_at answer e;
    others = [];
    inside = answer-falls s answer [] kept e inside down;
    long = refl;
    calibrates = calibrates;
    as_many = refl;
    carried = values-none (e.edge.time - answer.fall);
  });
}

pub lead-rises : (s : Settings) (answer : Answer) (e : NumberedEdge) → e.edge.level ≡ true → EdgeLeads s (state.Calibrating answer) (state.Calibrating (risen_at answer e.edge.time)) e []
lead-rises s answer e up = record { each = λ due kept inside. led-kept tt (kept ++ e ∷ []) (answer-rises s answer [] kept e inside up) }

-- ---- at the pulses after it
pub frame-rises : (s : Settings) (answer : Answer) (c : ℕ) (values : List ℕ) (e : NumberedEdge) → e.edge.level ≡ true → EdgeLeads s (state.Values answer c values) (state.Values (risen_at answer e.edge.time) c values) e []
frame-rises s answer c values e up = record {
  each = λ due kept frame. led-kept tt (kept ++ e ∷ []) (record {
    first = frame.first;
    others = frame.others;
    inside = answer-rises s answer (frame.first ∷ frame.others) kept e frame.inside up;
    long = frame.long;
    calibrates = frame.calibrates;
    as_many = frame.as_many;
    carried = frame.carried;
  });
}

-- a pulse that carries a value, which isn't the last, is kept
pub frame-keeps : (s : Settings) (answer : Answer) (c : ℕ) (values : List ℕ) (v : ℕ) (e : NumberedEdge) → e.edge.level ≡ false → value_of (e.edge.time - answer.fall) c ≡ Some v
    → EdgeLeads s (state.Values answer c values) (state.Values (fallen_at answer e.edge.time) c (values ++ v ∷ [])) e []
frame-keeps s answer c values v e down carries = record {
  each = λ due kept frame. led-kept tt (kept ++ e ∷ []) (record {
    first = frame.first;
    others = frame.others ++ pulse_at answer e ∷ [];
    inside = answer-falls s answer (frame.first ∷ frame.others) kept e frame.inside down;
    long = frame.long;
    calibrates = frame.calibrates;
    as_many = omega (arith, length-append values (v ∷ []), length-append frame.others (pulse_at answer e ∷ []), frame.as_many);
    carried = values-more c frame.others values (pulse_at answer e) v frame.carried carries;
  });
}

calibrated : (s : Settings) (code c : ℕ) (es : List NumberedEdge) (first : Pulse) (ps : List Pulse) (values : Values) → may_calibrate s.sent first ≡ true → first.length ≡ c → values_of c (suc (suc s.sent.nibbles)) ps ≡ values
    → answer_of s code es (first ∷ ps) ≡ frame_of s code es ps values
calibrated s code c es first ps values calibrates long says =
    ap (λ test. cond test (frame_of s code es ps (values_of first.length (suc (suc s.sent.nibbles)) ps)) (at_fall (Bad first.place rule.NoCalibration) 0 es)) calibrates
    ∙ ap (λ l. frame_of s code es ps (values_of l (suc (suc s.sent.nibbles)) ps)) long ∙ ap (frame_of s code es ps) says

-- a pulse that carries no value breaks the frame
pub frame-breaks : (s : Settings) (answer : Answer) (c : ℕ) (values : List ℕ) (e : NumberedEdge) (next : State) → e.edge.level ≡ false → length values < suc (suc s.sent.nibbles) → value_of (e.edge.time - answer.fall) c ≡ None
    → ((last : NumberedEdge) → last.edge.time ≡ answer.time → Led (found s) (AgreesState s next) tt (last ∷ e ∷ []) [])
    → EdgeLeads s (state.Values answer c values) next e (Bad e.number rule.NibbleRange ∷ [])
frame-breaks s answer c values e next down fewer none led = record {
  each = λ due kept frame.
      let p = pulse_at answer e in
      let es = frame.inside.later ++ e ∷ [] in
      answer-ends s answer (frame.first ∷ frame.others) kept e (Bad e.number rule.NibbleRange) next frame.inside down
      (calibrated s answer.code c es frame.first (frame.others ++ p ∷ []) _ frame.calibrates frame.long
      (values-broken c (suc (suc s.sent.nibbles)) frame.others values p [] frame.carried (omega (arith, fewer, frame.as_many)) none))
      led;
}

-- the last pulse carries a value, and the frame is checked
pub frame-whole : (s : Settings) (answer : Answer) (c : ℕ) (values : List ℕ) (v : ℕ) (e : NumberedEdge) (next : State) → e.edge.level ≡ false → length values ≡ suc s.sent.nibbles → value_of (e.edge.time - answer.fall) c ≡ Some v
    → ((last : NumberedEdge) → last.edge.time ≡ answer.time → Led (found s) (AgreesState s next) tt (last ∷ e ∷ []) [])
    → EdgeLeads s (state.Values answer c values) next e (answered answer.code (checked_over s.cover s.sent e.number (values ++ v ∷ [])) ∷ [])
frame-whole s answer c values v e next down all carries led = record {
  each = λ due kept frame.
      let p = pulse_at answer e in
      let es = frame.inside.later ++ e ∷ [] in
      let ps = frame.others ++ p ∷ [] in
      let whole : suc (suc s.sent.nibbles) ≡ length ps = omega (arith, length-append frame.others (p ∷ []), frame.as_many, all) in
      let place : place_at ps (suc s.sent.nibbles) ≡ e.number = place-last frame.others p (suc s.sent.nibbles) (omega (arith, frame.as_many, all)) in
      let says : values_of c (suc (suc s.sent.nibbles)) ps ≡ Carried (values ++ v ∷ []) = ap (λ n. values_of c n ps) whole ∙ values-more c frame.others values p v frame.carried carries in
      let count : suc (suc s.sent.nibbles) ≡ length (frame.first ∷ frame.others) = omega (arith, frame.as_many, all) in
      answer-ends s answer (frame.first ∷ frame.others) kept e (answered answer.code (checked_over s.cover s.sent e.number (values ++ v ∷ []))) next frame.inside down
      (calibrated s answer.code c es frame.first ps _ frame.calibrates frame.long says
      ∙ ap₂ (λ at n. at_fall (answered answer.code (checked_over s.cover s.sent at (values ++ v ∷ []))) n es) place count)
      led;
}

one_step : (code place : ℕ) (frame : SentFrame) (right : Bool) → steps_of (answered code (cond right (sent.Good place frame) (sent.Bad place rule.Check))) ≡ answered code (cond right (sent.Good place frame) (sent.Bad place rule.Check)) ∷ []
one_step code place frame true = refl
one_step code place frame false = refl

-- a checked frame is a report
pub steps-checked : (s : Settings) (code place : ℕ) (values : List ℕ) → steps_of (answered code (checked_over s.cover s.sent place values)) ≡ answered code (checked_over s.cover s.sent place values) ∷ []
steps-checked s code place [] = refl
steps-checked s code place (status ∷ values) =
    one_step code place (record { status = status; nibbles = take s.sent.nibbles values }) (crc_of s.sent.crc (covered s.cover status (take s.sent.nibbles values)) == slice_index values s.sent.nibbles)

-- ---- what is kept
at_edge : (s : Settings) (e : NumberedEdge) → found s tt e [] ≡ Waiting []
unfolding found
at_edge s e = refl

in_answer : (s : Settings) (answer : Answer) (pulses : List Pulse) (kept : List NumberedEdge) (inside : IsInAnswer s answer pulses kept)
    → found s tt inside.before (inside.fall ∷ inside.rise ∷ inside.start ∷ inside.later) ≡ answer_of s answer.code inside.later pulses
in_answer s answer pulses kept inside =
    inside.begins inside.later
    ∙ ap (answer_of s answer.code inside.later) (ap (λ l. pulses_after inside.start.edge.time (falls_in l)) (sym (append-nil inside.later)) ∙ inside.made [] ∙ append-nil pulses)

-- what a state keeps waits, with these reports at the end
waits : (s : Settings) (state : State) (ends : List SpcStep)
    → ((kept : List NumberedEdge) → AgreesState s state tt kept → (first : NumberedEdge) × (rest : List NumberedEdge) × (kept ≡ first ∷ rest) × (found s tt first rest ≡ Waiting ends)) → Waits (found s) (AgreesState s state) ends
waits s state ends h = record {
  none = λ due kept agrees. let w = h kept agrees in rw w.2 (read-waits (found s) tt w.0 w.1 ends w.3);
  at_end = λ due kept agrees. let w = h kept agrees in rw w.2 (end-waits (found s) tt w.0 w.1 ends w.3);
}

-- what is kept has no report yet, and these at the end
pub state-waits : (s : Settings) (now : State) → IsState s now → Waits (found s) (AgreesState s now) (ends_of now)
state-waits s state.Fresh valid = record { none = λ due kept none. rw none (read-nil (found s) tt); at_end = λ due kept none. rw none (end-nil (found s) tt) }
state-waits s (state.Idle time) valid = waits s (state.Idle time) [] (λ kept agrees. (agrees.last, [], agrees.stands, at_edge s agrees.last))
state-waits s (state.Low time) valid = waits s (state.Low time) [] (λ kept low. (low.before, low.fall ∷ [], low.stands, at_quiet s low.before low.fall [] low.quiet))
state-waits s (state.Risen place time code) valid = waits s (state.Risen place time code) (NoAnswer place code ∷ []) (λ kept risen. (
  risen.before,
  risen.fall ∷ risen.rise ∷ [],
  risen.stands,
  behind_rise s risen.before risen.fall risen.rise code [] risen.quiet risen.asks ∙ ap (λ n. Waiting (NoAnswer n code ∷ [])) risen.number,
))
state-waits s (state.Calibrating answer) valid = waits s (state.Calibrating answer) [] (λ kept inside. (
  inside.before,
  inside.fall ∷ inside.rise ∷ inside.start ∷ inside.later,
  inside.stands,
  in_answer s answer [] kept inside,
))
state-waits s (state.Values answer c values) valid = waits s (state.Values answer c values) [] (λ kept frame. (
  frame.inside.before,
  frame.inside.fall ∷ frame.inside.rise ∷ frame.inside.start ∷ frame.inside.later,
  frame.inside.stands,
  in_answer s answer (frame.first ∷ frame.others) kept frame.inside
      ∙ calibrated s answer.code c frame.inside.later frame.first frame.others _ frame.calibrates frame.long
      (values-short c (suc (suc s.sent.nibbles)) frame.others values frame.carried (omega (arith, valid.1, frame.as_many))),
))

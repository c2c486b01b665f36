-- What is said in a stretch of a SENT line's edges stands there.
--     stretch-stands      all that is said in a stretch
use Rattle.std.proofs.Common.{◌≡◌, ℕ, ◌+◌, ◌-◌, ◌*◌, ◌%◌, ◌==◌, Bool, true, false, cond, List, [], ◌∷◌, ◌++◌, Option, None, Some, Ok, Err, flat_map, refl, sym, ap, ◌∙◌, subst, append_assoc}
use Rattle.std.specs.List.{All, last_or}
use Rattle.std.proofs.lemmas.Bool.{eqb-false}
use Rattle.std.proofs.lemmas.List.{map-append}
use Rattle.std.proofs.lemmas.List.Elements.{All-append, All-cons, All-head, All-nil, All-tail}
use Rattle.line_base.specs.Edges.{NumberedEdge}
use Rattle.line_base.specs.declared.rule.Rule.{Rule}
use Rattle.line_base.specs.declared.rule.Rule.TheVariants as rule
use Rattle.sent_frame.specs.declared.frame.SentFrame.{SentFrame}
use Rattle.sent_frame.specs.declared.frame.SentStep.{SentStep}
use Rattle.sent_frame.specs.declared.frame.SentStep.TheVariants.{Nothing, Good, Bad}
use Rattle.sent_frame.specs.Setup.{Settings}
use Rattle.sent_frame.specs.Pulses.{pulses_of}
use Rattle.sent_frame.specs.Reading.{sent_reading}
use Rattle.sent_frame.specs.Frames.{HasFrame, Means, MeansFault}
use Rattle.sent_frame.proofs.Meanings.{reports_mean}
use Rattle.sent_fast.specs.declared.layout.Layout.{Layout}
use Rattle.sent_fast.specs.declared.layout.Layout.TheVariants as layouts
use Rattle.sent_fast.specs.declared.layout.Fast.TheVariants as fast
use Rattle.sent_fast.specs.Layouts.{fast_of, nibble, value_of_first_three}
use Rattle.sent_serial.specs.declared.step.SerialStep.{SerialStep}
use Rattle.sent_serial.specs.declared.step.SerialStep.TheVariants as serial
use Rattle.sent_serial.specs.Short.{short_reading}
use Rattle.sent_serial.specs.Enhanced.{enhanced_reading}
use Rattle.sent_serial.specs.Meanings.{ShortMeans, EnhancedMeans}
use Rattle.line_base.proofs.ReportMeanings.{last-have}
use Rattle.sent_serial.proofs.ShortMeanings.{short-grows}
use Rattle.sent_serial.proofs.EnhancedMeanings.{enhanced-grows}
use Rattle.receiver_core.specs.declared.report.Report.{Report}
use Rattle.receiver_core.specs.declared.report.What.TheVariants as what
use Rattle.receiver_core.specs.declared.setup.Serial.{Serial}
use Rattle.receiver_core.specs.declared.setup.Serial.TheVariants as form
use Rattle.receiver_core.specs.declared.setup.ChannelSetup.{ChannelSetup}
use Rattle.receiver_core.specs.declared.setup.ChannelSetup.TheVariants.{Sent, Psi5, Spc, Tooth}
use Rattle.receiver_core.specs.Serials.{serial_steps}
use Rattle.receiver_core.specs.SentReports.{report, counter_reports, value_reports, serial_report, serial_reports, step_reports, counter_in, counter_of, last_counter, statuses_of, frames_with, sent_reports, frames_past}
use Rattle.receiver_core.proofs.SpcReports.{spc-stand, spc-end-stand}
use Rattle.receiver_core.proofs.ToothReports.{tooth-stand}
use Rattle.receiver_core.proofs.Psi5Meanings.{psi5-stand, psi5-end-stand}
use Rattle.receiver_core.specs.Channels.{stretch_reports, end_reports}
use Rattle.receiver_core.specs.Meanings.{AreFramesTo, SerialMeans, HasSerial, RuleStands, SaidStands, StretchStands}
use Rattle.receiver_core.proofs.SentReports.{frames_past-append}

-- what a report says stands in a stretch of a SENT line
abbrev Stands : Settings → Layout → Serial → List NumberedEdge → Report → Type 0
Stands s l f edges r = SaidStands s l f edges r.place r.what

one : (s : Settings) (l : Layout) (f : Serial) (edges : List NumberedEdge) (r : Report) → Stands s l f edges r → All (Stands s l f edges) (r ∷ [])
one s l f edges r stands = All-cons (Stands s l f edges) r [] stands (All-nil (Stands s l f edges))

-- ---- how far the steps are told
-- these steps are the last of the edges' steps, and these are the good frames since the last break before them
record IsReached (s : Settings) (edges : List NumberedEdge) (frames : List SentFrame) (steps : List SentStep) : Type 0 where
  pub before : List SentStep
  pub stands : sent_reading s edges ≡ before ++ steps
  pub are : frames ≡ frames_past [] before

one-past : (frames : List SentFrame) (step : SentStep) → frames_past frames (step ∷ []) ≡ frames_with frames step
unfolding frames_past
one-past frames step = refl

next-reached : (s : Settings) (edges : List NumberedEdge) (frames : List SentFrame) (step : SentStep) (steps : List SentStep) → IsReached s edges frames (step ∷ steps) → IsReached s edges (frames_with frames step) steps
next-reached s edges frames step steps reached = record {
  before = reached.before ++ step ∷ [];
  stands = reached.stands ∙ sym (append_assoc reached.before (step ∷ []) steps);
  are = ap (λ (l : List SentFrame). frames_with l step) reached.are ∙ sym (one-past (frames_past [] reached.before) step) ∙ sym (frames_past-append [] reached.before (step ∷ []));
}

frames-to : (s : Settings) (edges : List NumberedEdge) (frames : List SentFrame) (place : ℕ) (frame : SentFrame) (steps : List SentStep) → IsReached s edges frames (Good place frame ∷ steps)
    → AreFramesTo s edges place (frames ++ frame ∷ [])
frames-to s edges frames place frame steps reached = record {
  before = reached.before;
  last = frame;
  after = steps;
  stands = reached.stands;
  are = ap (λ (l : List SentFrame). l ++ frame ∷ []) reached.are;
}

-- ---- serial messages
serials-mean : (f : Serial) (before : List ℕ) (status : ℕ) → All (SerialMeans f (before ++ status ∷ [])) (serial_steps f before status)
unfolding serial_steps
serials-mean form.Absent before status = All-nil (SerialMeans form.Absent (before ++ status ∷ []))
serials-mean form.Short before status = last-have (ShortMeans (before ++ status ∷ [])) (short_reading before) (short_reading (before ++ status ∷ [])) (short-grows before status)
serials-mean form.Enhanced before status = last-have (EnhancedMeans (before ++ status ∷ [])) (enhanced_reading before) (enhanced_reading (before ++ status ∷ [])) (enhanced-grows before status)

-- no other step has a meaning
no-other : (f : Serial) (statuses : List ℕ) (step : SerialStep) → (ShortMeans statuses step → ⊥) → (EnhancedMeans statuses step → ⊥) → SerialMeans f statuses step → ⊥
no-other form.Absent statuses step short enhanced means = means
no-other form.Short statuses step short enhanced means = short means
no-other form.Enhanced statuses step short enhanced means = enhanced means

rule-stands : (s : Settings) (l : Layout) (f : Serial) (edges : List NumberedEdge) (place : ℕ) (r : Rule) → HasSerial s f edges place (serial.Bad r) → RuleStands s l f edges place r
rule-stands s l f edges place rule.Restart has = has
rule-stands s l f edges place rule.Zero13 has = has
rule-stands s l f edges place rule.Zero18 has = has
rule-stands s l f edges place rule.SerialCheck has = has
rule-stands s l f edges place _ has = absurd (no-other f _ _ (λ means. means) (λ means. means) has.means)

serial-stands : (s : Settings) (l : Layout) (f : Serial) (edges : List NumberedEdge) (place : ℕ) (step : SerialStep) → HasSerial s f edges place step → All (Stands s l f edges) (serial_report place step)
serial-stands s l f edges place serial.Nothing has = All-nil (Stands s l f edges)
serial-stands s l f edges place (serial.Short id value) has = one s l f edges (report place (what.Short id value)) has
serial-stands s l f edges place (serial.Enhanced id value wide) has = one s l f edges (report place (what.Enhanced id value wide)) has
serial-stands s l f edges place (serial.Bad r) has = one s l f edges (report place (what.Bad r)) (rule-stands s l f edges place r has)

serials-stand : (s : Settings) (l : Layout) (f : Serial) (edges : List NumberedEdge) (place : ℕ) (frames : List SentFrame) (steps : List SerialStep) → AreFramesTo s edges place frames → All (SerialMeans f (statuses_of frames)) steps
    → All (Stands s l f edges) (flat_map (serial_report place) steps)
serials-stand s l f edges place frames [] are mean = All-nil (Stands s l f edges)
serials-stand s l f edges place frames (step ∷ steps) are mean =
    All-append (Stands s l f edges) (serial_report place step) (flat_map (serial_report place) steps)
    (serial-stands s l f edges place step (record { frames = frames; are = are; means = All-head (SerialMeans f (statuses_of frames)) step steps mean }))
    (serials-stand s l f edges place frames steps are (All-tail (SerialMeans f (statuses_of frames)) step steps mean))

status-stands : (s : Settings) (l : Layout) (f : Serial) (edges : List NumberedEdge) (place : ℕ) (frames : List SentFrame) (frame : SentFrame) → AreFramesTo s edges place (frames ++ frame ∷ [])
    → All (Stands s l f edges) (serial_reports f place (statuses_of frames) frame.status)
status-stands s l f edges place frames frame are =
    serials-stand s l f edges place (frames ++ frame ∷ []) (serial_steps f (statuses_of frames) frame.status) are
    (subst (λ (statuses : List ℕ). All (SerialMeans f statuses) (serial_steps f (statuses_of frames) frame.status)) (sym (map-append (λ g. g.status) frames (frame ∷ []))) (serials-mean f (statuses_of frames) frame.status))

-- ---- counters
-- the last of these frames
record IsLast (frames : List SentFrame) (last : SentFrame) : Type 0 where
  pub others : List SentFrame
  pub are : frames ≡ others ++ last ∷ []

last-behind : (first : SentFrame) (frames : List SentFrame) (last : SentFrame) → last_or (Some first) frames ≡ Some last → IsLast (first ∷ frames) last
last-behind first [] last is = let same : first ≡ last = cc in record { others = []; are = ap (λ (f : SentFrame). f ∷ []) same }
last-behind first (frame ∷ frames) last is = let rest = last-behind frame frames last is in record { others = first ∷ rest.others; are = ap (λ l. first ∷ l) rest.are }

last-is : (frames : List SentFrame) (last : SentFrame) → last_or None frames ≡ Some last → IsLast frames last
last-is [] last is = absurd (cc)
last-is (frame ∷ frames) last is = last-behind frame frames last is

jump-stands : (s : Settings) (l : Layout) (f : Serial) (edges : List NumberedEdge) (place : ℕ) (frames : List SentFrame) (earlier later : SentFrame) (before now : ℕ) (follows : Bool)
    → AreFramesTo s edges place (frames ++ later ∷ []) → IsLast frames earlier → counter_of l (Some earlier) ≡ Some before → counter_of l (Some later) ≡ Some now → (now == (before + 1) % 256) ≡ follows
    → All (Stands s l f edges) (cond follows [] (report place (what.Counter before now) ∷ []))
jump-stands s l f edges place frames earlier later before now true are last says_before says_now is = All-nil (Stands s l f edges)
jump-stands s l f edges place frames earlier later before now false are last says_before says_now is =
    one s l f edges (report place (what.Counter before now)) (record {
      others = last.others;
      earlier = earlier;
      later = later;
      frames = subst (λ (all : List SentFrame). AreFramesTo s edges place all) (ap (λ (all : List SentFrame). all ++ later ∷ []) last.are ∙ append_assoc last.others (earlier ∷ []) (later ∷ [])) are;
      says_before = says_before;
      says_now = says_now;
      jumps = eqb-false now ((before + 1) % 256) is;
    })

counter-stands : (s : Settings) (l : Layout) (f : Serial) (edges : List NumberedEdge) (place : ℕ) (frames : List SentFrame) (later : SentFrame) (now : ℕ) (last : Option SentFrame) (before : Option ℕ)
    → AreFramesTo s edges place (frames ++ later ∷ []) → counter_of l (Some later) ≡ Some now → last_or None frames ≡ last → counter_of l last ≡ before
    → All (Stands s l f edges) (counter_reports place before now)
counter-stands s l f edges place frames later now last None are says_now is says = All-nil (Stands s l f edges)
counter-stands s l f edges place frames later now None (Some before) are says_now is says = absurd (cc)
counter-stands s l f edges place frames later now (Some earlier) (Some before) are says_now is says =
    jump-stands s l f edges place frames earlier later before now (now == (before + 1) % 256) are (last-is frames earlier is) says says_now refl

-- ---- what the nibbles of a frame say
secure-stands : (s : Settings) (f : Serial) (edges : List NumberedEdge) (place : ℕ) (frames : List SentFrame) (frame : SentFrame) (right : Bool) → HasFrame s (pulses_of edges) place frame
    → AreFramesTo s edges place (frames ++ frame ∷ []) → (nibble frame.nibbles 6 == 15 - nibble frame.nibbles 1) ≡ right
    → All (Stands s layouts.Secure12 f edges) (value_reports place (last_counter layouts.Secure12 frames)
    (cond right (Ok (fast.Secure (value_of_first_three frame.nibbles) (16 * nibble frame.nibbles 4 + nibble frame.nibbles 5))) (Err rule.Copy)))
secure-stands s f edges place frames frame true has are is =
    let a = value_of_first_three frame.nibbles in
    let counter = 16 * nibble frame.nibbles 4 + nibble frame.nibbles 5 in
    let says : fast_of layouts.Secure12 frame.nibbles ≡ Ok (fast.Secure a counter) = ap (λ (t : Bool). cond t (Ok (fast.Secure a counter)) (Err rule.Copy)) is in
    All-cons (Stands s layouts.Secure12 f edges) (report place (what.Fast (fast.Secure a counter))) (counter_reports place (last_counter layouts.Secure12 frames) counter)
    (record { frame = frame; stands = has; says = says; not_raw = λ same. absurd (cc) })
    (counter-stands s layouts.Secure12 f edges place frames frame counter (last_or None frames) (last_counter layouts.Secure12 frames) are (ap counter_in says) refl refl)
secure-stands s f edges place frames frame false has are is =
    one s layouts.Secure12 f edges (report place (what.Bad rule.Copy))
    (record { frame = frame; stands = has; secure = refl; wrong = eqb-false (nibble frame.nibbles 6) (15 - nibble frame.nibbles 1) is })

value-stands : (s : Settings) (l : Layout) (f : Serial) (edges : List NumberedEdge) (place : ℕ) (frames : List SentFrame) (frame : SentFrame) → HasFrame s (pulses_of edges) place frame
    → AreFramesTo s edges place (frames ++ frame ∷ []) → All (Stands s l f edges) (value_reports place (last_counter l frames) (fast_of l frame.nibbles))
value-stands s layouts.Raw f edges place frames frame has are = All-nil (Stands s layouts.Raw f edges)
value-stands s layouts.One12 f edges place frames frame has are = one s layouts.One12 f edges _ (record { frame = frame; stands = has; says = refl; not_raw = λ same. absurd (cc) })
value-stands s layouts.Two12 f edges place frames frame has are = one s layouts.Two12 f edges _ (record { frame = frame; stands = has; says = refl; not_raw = λ same. absurd (cc) })
value-stands s layouts.Secure12 f edges place frames frame has are = secure-stands s f edges place frames frame (nibble frame.nibbles 6 == 15 - nibble frame.nibbles 1) has are refl
value-stands s layouts.Split16x8 f edges place frames frame has are = one s layouts.Split16x8 f edges _ (record { frame = frame; stands = has; says = refl; not_raw = λ same. absurd (cc) })

-- ---- all steps
frame-rule : (s : Settings) (l : Layout) (f : Serial) (edges : List NumberedEdge) (place : ℕ) (r : Rule) → MeansFault s (pulses_of edges) place r → RuleStands s l f edges place r
frame-rule s l f edges place rule.NoCalibration means = means
frame-rule s l f edges place rule.Drift means = means
frame-rule s l f edges place rule.NibbleRange means = means
frame-rule s l f edges place rule.Check means = means
frame-rule s l f edges place rule.PauseRange means = means
frame-rule s l f edges place _ means = absurd means

step-stands : (s : Settings) (l : Layout) (f : Serial) (edges : List NumberedEdge) (frames : List SentFrame) (step : SentStep) (steps : List SentStep) → IsReached s edges frames (step ∷ steps) → Means s (pulses_of edges) step
    → All (Stands s l f edges) (step_reports l f (last_counter l frames) (statuses_of frames) step)
step-stands s l f edges frames Nothing steps reached means = absurd means
step-stands s l f edges frames (Good place frame) steps reached means =
    let are = frames-to s edges frames place frame steps reached in
    All-cons (Stands s l f edges) (report place (what.Frame frame)) (value_reports place (last_counter l frames) (fast_of l frame.nibbles) ++ serial_reports f place (statuses_of frames) frame.status) means
    (All-append (Stands s l f edges) (value_reports place (last_counter l frames) (fast_of l frame.nibbles)) (serial_reports f place (statuses_of frames) frame.status)
    (value-stands s l f edges place frames frame means are) (status-stands s l f edges place frames frame are))
step-stands s l f edges frames (Bad place r) steps reached means = one s l f edges (report place (what.Bad r)) (frame-rule s l f edges place r means)

steps-stand : (s : Settings) (l : Layout) (f : Serial) (edges : List NumberedEdge) (frames : List SentFrame) (steps : List SentStep) → IsReached s edges frames steps → All (Means s (pulses_of edges)) steps
    → All (Stands s l f edges) (sent_reports l f frames steps)
unfolding sent_reports
steps-stand s l f edges frames [] reached mean = All-nil (Stands s l f edges)
steps-stand s l f edges frames (step ∷ steps) reached mean =
    All-append (Stands s l f edges) (step_reports l f (last_counter l frames) (statuses_of frames) step) (sent_reports l f (frames_with frames step) steps)
    (step-stands s l f edges frames step steps reached (All-head (Means s (pulses_of edges)) step steps mean))
    (steps-stand s l f edges (frames_with frames step) steps (next-reached s edges frames step steps reached) (All-tail (Means s (pulses_of edges)) step steps mean))

all-reached : (s : Settings) (edges : List NumberedEdge) → IsReached s edges [] (sent_reading s edges)
unfolding frames_past
all-reached s edges = record { before = []; stands = refl; are = refl }

-- what the reports of a stretch say stands in it
pub stretch-stands : (setup : ChannelSetup) (edges : List NumberedEdge) → All (λ (r : Report). StretchStands setup edges r.place r.what) (stretch_reports setup edges)
unfolding stretch_reports
stretch-stands (Sent line s l f) edges = steps-stand s l f edges [] (sent_reading s edges) (all-reached s edges) (reports_mean s (pulses_of edges))
stretch-stands (Psi5 line s slots init) edges = psi5-stand s slots init edges
stretch-stands (Spc line s) edges = spc-stand s edges
stretch-stands (Tooth line s) edges = tooth-stand s edges

-- and so does what the end adds
pub end-stands : (setup : ChannelSetup) (edges : List NumberedEdge) → All (λ (r : Report). StretchStands setup edges r.place r.what) (end_reports setup edges)
unfolding end_reports
end-stands (Sent line s l f) edges = All-nil (λ (r : Report). StretchStands (Sent line s l f) edges r.place r.what)
end-stands (Psi5 line s slots init) edges = psi5-end-stand s slots init edges
end-stands (Spc line s) edges = spc-end-stand s edges
end-stands (Tooth line s) edges = All-nil (λ (r : Report). StretchStands (Tooth line s) edges r.place r.what)

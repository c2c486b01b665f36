-- The falls of frames that are sent.
--     pulses-many       a frame that is drawn has as many pulses as the setup says
--     frame-falls       so it has as many falls, and the first frame one more
--     kept-run          as many falls are sent as frames have
--     turns-heard       so each frame is heard
use Rattle.std.proofs.Common.{◌≡◌, ℕ, suc, ◌+◌, ◌-◌, ◌*◌, ◌^◌, ◌≤◌, Bool, true, false, Option, None, Some, List, [], ◌∷◌, ◌++◌, length, map, flat_map, refl, ap, sym, subst, ◌∙◌, append-nil, add-zero, if◌then◌else◌, ltb, eqb, eqb-true, arith}
use Rattle.std.proofs.lemmas.List.{length-append, length-map}
use Rattle.std.proofs.lemmas.Grind.{flat_map-append}
use Rattle.std.proofs.lemmas.Nat.{mul-le}
use Rattle.rand_pcg.specs.Lcg.{Lcg}
use Rattle.line_base.specs.Edges.{NumberedEdge}
use Rattle.line_base.specs.declared.edge.Edge.{Edge}
use Rattle.sent_frame.specs.declared.frame.SentFrame.{SentFrame}
use Rattle.sent_frame.specs.Frames.{ticks_of}
use Rattle.sent_frame.specs.Pulses.{Fall, falls_in, falls_of}
use Rattle.sent_frame.specs.Setup.{Settings}
use Rattle.sent_serial.specs.Sendings.{SentStatus}
use Rattle.sent_serial.specs.SentStatuses.{statuses_sent}
use Rattle.sent_serial.specs.declared.step.SerialStep.TheVariants as step
use Rattle.link_tolerance.specs.Pulses.{falls_behind, lengths_of}
use Rattle.sent_tolerance.specs.FromFirst.{heard_from, heard_of, pulse_count}
use Rattle.sent_tolerance.specs.Trains.{Sending, pulses_sent}
use Rattle.receiver_core.specs.declared.message.Message.{Message}
use Rattle.receiver_core.specs.declared.message.Message.TheVariants as message
use Rattle.receiver_core.specs.declared.setup.Serial.{Serial}
use Rattle.receiver_core.specs.SentTraces.{SentTurn, frame_in, turns_of}
use Rattle.receiver_core.specs.Traces.{numbered}
use Rattle.sim_base.specs.declared.sim_fault.SimFault.{SimFault}
use Rattle.sim_base.specs.declared.sim_fault.SimFault.TheVariants as fault
use Rattle.sim_base.specs.DrawnTicks.{own_tick}
use Rattle.sim_base.specs.FittingNibbles.{are_nibbles, fits_nibbles}
use Rattle.sim_base.specs.Outcomes.{Outcome, Sent, Refused}
use Rattle.sim_base.specs.Recordings.{edge_at, falls_with_rises, opening_of, recorded_by}
use Rattle.sim_base.specs.Runs.{HasRun, NotYet, OneMore}
use Rattle.sim_base.specs.Wobbles.{behind_word, past, words as drawn_words}
use Rattle.sim_base.proofs.FittingNibbles.{both}
use Rattle.sim_base.proofs.PulseEdges.{fall_times, falls-heard, times-append, times-heard}
use Rattle.sim_base.proofs.RecordedTimes.{length-falls, length-recorded, length-words}
use Rattle.sent_sim.specs.SentSims.{FrameWords, are_enhanced, are_short, begun, behind_frame, completed, ends_at, falls_sent, first_fall, fits_enhanced, fits_frame, fits_short, frame_edges, frame_next, frame_sent, frame_words, ideal_of, own_count, past_frame, pause_count, sent_next, started, statuses_below}
use Rattle.sent_sim.specs.SentStates.{SentState}
use Rattle.sent_sim.proofs.SentFrames.{as_many_own}

-- ---- the pulses of a frame
-- pulses with a tick for each are as many as their counts
length-lengths : (counts ticks : List ℕ) → length ticks ≡ length counts → length (lengths_of counts ticks) ≡ length counts
length-lengths [] ticks as_many = refl
length-lengths (count ∷ counts) [] as_many = absurd (omega arith)
length-lengths (count ∷ counts) (tick ∷ ticks) as_many = ap suc (length-lengths counts ticks (omega arith))

-- a frame that is drawn has as many pulses as the setup says
pulses-many : (s : Settings) (before : ℕ) (frame : SentFrame) (words : FrameWords) → length frame.nibbles ≡ s.nibbles → length words.own ≡ own_count s → length (pulses_sent s (frame_sent s before frame words)) ≡ pulse_count s
unfolding frame_sent
pulses-many s before frame words as_many own =
    let f = frame_sent s before frame words in
    let others = as_many_own s frame f.pause as_many in
    let ticks : length (f.tick ∷ f.own_ticks) ≡ length (ticks_of s frame f.pause) = ap suc (length-map words.own (own_tick f.tick) ∙ own ∙ sym others) in
    length-lengths (ticks_of s frame f.pause) (f.tick ∷ f.own_ticks) ticks ∙ ap suc others

-- with its serial bits a frame has the same nibbles
same-nibbles : (left : List ℕ) (frame : SentFrame) → (completed left frame).nibbles ≡ frame.nibbles
same-nibbles [] frame = refl
same-nibbles (bits ∷ left) frame = refl

-- a frame that fits has as many nibbles as the setup says
fits-many : (s : Settings) (form : Serial) (left : List ℕ) (frame : SentFrame) → fits_frame s form frame ≡ true → length (completed left frame).nibbles ≡ s.nibbles
fits-many s form left frame fits =
    let parts = both (fits_nibbles s frame.nibbles) (ltb frame.status (statuses_below form)) fits in
    let nibbles = both (eqb (length frame.nibbles) s.nibbles) (are_nibbles frame.nibbles) parts.0 in
    ap length (same-nibbles left frame) ∙ eqb-true (length frame.nibbles) s.nibbles nibbles.0

-- ---- the falls of frames
-- so many frames have been sent by these edges: where there was a last fall, one more fall stands behind the opening than the frames have pulses
abbrev pub FallsFor : Settings → ℕ → Option ℕ → List Edge → Type 0
FallsFor s count None edges = (edges ≡ []) × (count ≡ 0)
FallsFor s count (Some last) edges = (opening : Edge) × (later : List Edge) × (edges ≡ opening ∷ later) × (suc (count * pulse_count s) ≤ length (fall_times later))

-- the falls of pulses, each with its rise, are as many as were ideal
times-many : (line low jitter : ℕ) (ideals words : List ℕ) → length words ≡ length ideals → length (fall_times (falls_with_rises line low (recorded_by jitter ideals words))) ≡ length ideals
times-many line low jitter ideals words as_many = ap length (times-heard line low (recorded_by jitter ideals words)) ∙ length-recorded jitter ideals words as_many

-- a frame more has its falls
frame-falls : (s : Settings) (line low count : ℕ) (last : Option ℕ) (next : ℕ) (edges : List Edge) (f : Sending) (drawn : List ℕ) → FallsFor s count last edges → length (pulses_sent s f) ≡ pulse_count s → length drawn ≡ length (ideal_of s last f)
    → FallsFor s (count + 1) (Some next) (edges ++ (opening_of line true last ++ falls_with_rises line low (recorded_by s.jitter (ideal_of s last f) drawn)))
unfolding ideal_of
frame-falls s line low count None next edges f drawn falls many as_many =
    let ideals = ideal_of s None f in
    let new = falls_with_rises line low (recorded_by s.jitter ideals drawn) in
    let times : length (fall_times new) ≡ suc (length (falls_behind (first_fall s) (pulses_sent s f))) = times-many line low s.jitter ideals drawn as_many in
    let longer : (count + 1) * pulse_count s ≡ pulse_count s = ap (λ n. (n + 1) * pulse_count s) falls.1 ∙ omega arith in
    subst (λ (l : List Edge). FallsFor s (count + 1) (Some next) (l ++ (edge_at line 0 true ∷ new))) (sym falls.0)
    (edge_at line 0 true, new, refl, omega (arith, times, longer, length-falls (first_fall s) (pulses_sent s f), many))
frame-falls s line low count (Some last) next edges f drawn falls many as_many =
    let ideals = ideal_of s (Some last) f in
    let new = falls_with_rises line low (recorded_by s.jitter ideals drawn) in
    let times : length (fall_times new) ≡ length (falls_behind last (pulses_sent s f)) = times-many line low s.jitter ideals drawn as_many in
    let whole : length (fall_times (falls.1 ++ new)) ≡ length (fall_times falls.1) + length (fall_times new) = ap length (times-append falls.1 new) ∙ length-append (fall_times falls.1) (fall_times new) in
    let longer : (count + 1) * pulse_count s ≡ count * pulse_count s + pulse_count s = omega arith in
    (falls.0, falls.1 ++ new, ap (λ (l : List Edge). l ++ new) falls.2, omega (arith, times, whole, longer, length-falls last (pulses_sent s f), many, falls.3))

-- ---- one message more
-- a sensor that has sent these edges keeps its setup, and so many frames have their falls
record FallsKept (s : Settings) (state : SentState) (count : ℕ) (edges : List Edge) : Type 0 where
  pub setup_is : state.setup ≡ s
  pub falls : FallsFor s count state.last edges

-- what is sent is sent by one way alone
sent-same : {edges edges' : List Edge} {state state' : SentState} {g g' : Lcg} → Sent edges state g ≡ Sent edges' state' g' → (edges ≡ edges') × (state ≡ state')
sent-same same = (cc, cc)

-- what is refused isn't sent
refused-not : {refused : SimFault} {edges : List Edge} {state state' : SentState} {g g' : Lcg} {X : Type 0} → Refused refused state g ≡ Sent edges state' g' → X
refused-not same = absurd cc

-- a frame is sent, or it comes too late
abbrev by_late : SentState → Sending → Lcg → Bool → Outcome SentState
by_late state f g late =
    if late then Refused fault.Late state g
    else Sent (frame_edges state f (drawn_words (length (ideal_of state.setup state.last f)) g)) (behind_frame state f) (past (length (ideal_of state.setup state.last f)) g)

module _ (s : Settings) (state : SentState) (count : ℕ) (edges : List Edge) (kept : FallsKept s state count edges) (more : List Edge) (behind : SentState) (later : Lcg) where
  -- what holds of what is sent holds of this
  goes : (n : ℕ) (now : List Edge) (next : SentState) (g : Lcg) → FallsKept s next n (edges ++ now) → Sent now next g ≡ Sent more behind later → FallsKept s behind n (edges ++ more)
  goes n now next g holds same =
      let parts = sent-same same in
      subst (λ u. FallsKept s u n (edges ++ more)) parts.1 (subst (λ l. FallsKept s next n (edges ++ l)) parts.0 holds)

  -- a frame's falls are sent
  frame-kept : (f : Sending) (g : Lcg) → length (pulses_sent state.setup f) ≡ pulse_count state.setup
      → FallsKept s (behind_frame state f) (count + 1) (edges ++ frame_edges state f (drawn_words (length (ideal_of state.setup state.last f)) g))
  unfolding frame_edges
  frame-kept f g many =
      let u = state.setup in
      let end = ends_at u state.last f in
      let drawn = drawn_words (length (ideal_of u state.last f)) g in
      let own : FallsFor u count state.last edges = subst (λ (v : Settings). FallsFor v count state.last edges) (sym kept.setup_is) kept.falls in
      let falls = frame-falls u state.line (4 * u.tick) count state.last end edges f drawn own many (length-words (length (ideal_of u state.last f)) g) in
      let all = edges ++ (opening_of state.line true state.last ++ falls_with_rises state.line (4 * u.tick) (recorded_by u.jitter (ideal_of u state.last f) drawn)) in
      record { setup_is = kept.setup_is; falls = subst (λ (v : Settings). FallsFor v (count + 1) (Some end) all) kept.setup_is falls }

  -- by whether it comes too late
  frame-late : (f : Sending) (g : Lcg) (late : Bool) → length (pulses_sent state.setup f) ≡ pulse_count state.setup → by_late state f g late ≡ Sent more behind later → FallsKept s behind (count + 1) (edges ++ more)
  frame-late f g true many same = refused-not same
  frame-late f g false many same =
      let ideals = length (ideal_of state.setup state.last f) in
      goes (count + 1) (frame_edges state f (drawn_words ideals g)) (behind_frame state f) (past ideals g) (frame-kept f g many) same

  -- by whether it fits
  frame-kept-by : (frame : SentFrame) (g : Lcg) (fits : Bool) → fits_frame state.setup state.serial frame ≡ fits → (if fits then frame_next state frame g else Refused fault.Range state g) ≡ Sent more behind later
      → FallsKept s behind (count + 1) (edges ++ more)
  unfolding frame_next falls_sent frame_words
  frame-kept-by frame g false fits same = refused-not same
  frame-kept-by frame g true fits same =
      let u = state.setup in
      let f = frame_sent u state.tick (completed state.left frame) (frame_words u g) in
      let many = pulses-many u state.tick (completed state.left frame) (frame_words u g) (fits-many u state.serial state.left frame fits) (length-words (own_count u) (past (pause_count u) (behind_word g))) in
      frame-late f (past_frame u g) (ltb (9 * 10 ^ 17) (ends_at u state.last f)) many same

  -- a serial message sends no edge
  serial-kept : (statuses : List ℕ) (g : Lcg) (none : Bool) → (if none then Sent [] (record state { left = statuses }) g else Refused fault.Order state g) ≡ Sent more behind later → FallsKept s behind (count + 0) (edges ++ more)
  serial-kept statuses g false same = refused-not same
  serial-kept statuses g true same =
      goes (count + 0) [] (record state { left = statuses }) g
      (record {
        setup_is = kept.setup_is;
        falls = subst (λ n. FallsFor s n state.last (edges ++ [])) (sym (add-zero count)) (subst (λ (l : List Edge). FallsFor s count state.last l) (sym (append-nil edges)) kept.falls);
      }) same

  -- by whether it is of the form and fits
  serial-by : (statuses : List ℕ) (g : Lcg) (kind fits : Bool) → (if kind then (if fits then begun state statuses g else Refused fault.Range state g) else Refused fault.Kind state g) ≡ Sent more behind later → FallsKept s behind (count + 0) (edges ++ more)
  unfolding begun
  serial-by statuses g false fits same = refused-not same
  serial-by statuses g true false same = refused-not same
  serial-by statuses g true true same = serial-kept statuses g (eqb (length state.left) 0) same

  -- each message that is sent has its falls
  next-kept : (m : Message) (g : Lcg) → sent_next state m g ≡ Sent more behind later → FallsKept s behind (count + length (frame_in m)) (edges ++ more)
  unfolding sent_next
  next-kept (message.Frame frame) g same = frame-kept-by frame g (fits_frame state.setup state.serial frame) refl same
  next-kept (message.Short id value) g same = serial-by (statuses_sent (step.Short id value)) g (are_short state.serial) (fits_short id value) same
  next-kept (message.Enhanced id value wide) g same = serial-by (statuses_sent (step.Enhanced id value wide)) g (are_enhanced state.serial) (fits_enhanced id value wide) same
  next-kept (message.Answer code frame) g same = refused-not same
  next-kept (message.Silent code) g same = refused-not same
  next-kept message.Sync g same = refused-not same
  next-kept (message.Burst slot payload) g same = refused-not same
  next-kept (message.Down down) g same = refused-not same

-- ---- of each sensor that has run
-- one message more is as many frames more as it is
frames-push : (messages : List Message) (m : Message) → length (flat_map frame_in (messages ++ m ∷ [])) ≡ length (flat_map frame_in messages) + length (frame_in m)
frames-push messages m =
    ap length (flat_map-append frame_in messages (m ∷ [])) ∙ length-append (flat_map frame_in messages) (frame_in m ++ []) ∙ ap (λ l. length (flat_map frame_in messages) + length l) (append-nil (frame_in m))

-- as many falls are sent as frames have
kept-run : (line : ℕ) (s : Settings) (form : Serial) (state : SentState) (messages : List Message) (edges : List Edge) → HasRun SentState sent_next (started line s form) state messages edges → FallsKept s state (length (flat_map frame_in messages)) edges
kept-run line s form _ _ _ NotYet = record { setup_is = refl; falls = (refl, refl) }
kept-run line s form _ _ _ (OneMore {state} {behind} {messages} {edges} {more} run m g later same) =
    subst (λ n. FallsKept s behind n (edges ++ more)) (sym (frames-push messages m)) (next-kept s state (length (flat_map frame_in messages)) edges (kept-run line s form state messages edges run) more behind later m g same)

-- ---- what is heard
-- the numbers of a line's falls
abbrev pub numbers_of : List NumberedEdge → List ℕ
numbers_of edges = map (λ (fall : Fall). fall.number) (falls_of edges)

-- there are no more turns than frames
turns-few : (frames : List SentFrame) (statuses : List SentStatus) → length (turns_of frames statuses) ≤ length frames
turns-few [] statuses = omega arith
turns-few (frame ∷ frames) [] = omega arith
turns-few (frame ∷ frames) (status ∷ statuses) = omega (arith, turns-few frames statuses)

-- where no fall is missing, each turn is heard
none-missing : (s : Settings) (turns : List SentTurn) (edges : List NumberedEdge) → suc (length turns * pulse_count s) ≤ length (falls_of edges) → heard_of s turns edges ≡ heard_from s 0 turns (numbers_of edges)
unfolding heard_of
none-missing s turns edges enough =
    let none : suc (length turns * pulse_count s) - length (falls_of edges) ≡ 0 = omega (arith, enough) in
    ap (λ n. heard_from s n turns (numbers_of edges)) none

-- and so is each of none
none-sent : (s : Settings) (edges : List NumberedEdge) (turns : List SentTurn) → length turns ≡ 0 → heard_of s turns edges ≡ heard_from s 0 turns (numbers_of edges)
unfolding heard_of heard_from
none-sent s edges [] none = refl
none-sent s edges (turn ∷ turns) none = absurd (omega (arith, none))

-- the falls behind an opening
falls-many : (opening : Edge) (later : List Edge) → length (falls_of (numbered 0 (opening ∷ later))) ≡ length (fall_times later)
unfolding numbered
falls-many opening later = sym (length-map (falls_in (numbered (0 + 1) later)) (λ (fall : Fall). fall.time)) ∙ ap length (falls-heard (0 + 1) later)

-- so each turn of these frames is heard
turns-from : (s : Settings) (last : Option ℕ) (edges : List Edge) (frames : List SentFrame) (statuses : List SentStatus) → FallsFor s (length frames) last edges
    → heard_of s (turns_of frames statuses) (numbered 0 edges) ≡ heard_from s 0 (turns_of frames statuses) (numbers_of (numbered 0 edges))
turns-from s None edges frames statuses falls = none-sent s (numbered 0 edges) (turns_of frames statuses) (omega (arith, turns-few frames statuses, falls.1))
turns-from s (Some last) edges frames statuses falls =
    let turns = turns_of frames statuses in
    let few = mul-le (length turns) (pulse_count s) (length frames) (pulse_count s) (turns-few frames statuses) (omega arith) in
    subst (λ (l : List Edge). heard_of s turns (numbered 0 l) ≡ heard_from s 0 turns (numbers_of (numbered 0 l))) (sym falls.2)
    (none-missing s turns (numbered 0 (falls.0 ∷ falls.1)) (omega (arith, few, falls-many falls.0 falls.1, falls.3)))

-- each turn of a sensor that has run is heard
pub turns-heard : (line : ℕ) (s : Settings) (form : Serial) (state : SentState) (messages : List Message) (edges : List Edge) (statuses : List SentStatus) → HasRun SentState sent_next (started line s form) state messages edges
    → heard_of s (turns_of (flat_map frame_in messages) statuses) (numbered 0 edges) ≡ heard_from s 0 (turns_of (flat_map frame_in messages) statuses) (numbers_of (numbered 0 edges))
turns-heard line s form state messages edges statuses run = turns-from s state.last edges (flat_map frame_in messages) statuses (kept-run line s form state messages edges run).falls

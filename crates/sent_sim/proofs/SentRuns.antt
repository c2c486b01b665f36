-- What a SENT sensor has sent of the messages that it has accepted is an honest trace of them.
--     SentKeeps        what holds of a sensor that has accepted these messages and sent these edges
--     keeps-started    of a new one
--     keeps-next       of one that accepts a message more
--     keeps-run        so of each
--     run-honest, run-orderly
use Rattle.std.proofs.Common.{◌≡◌, ℕ, ◌+◌, ◌*◌, ◌^◌, ◌<◌, ◌≤◌, Bool, true, false, Option, None, Some, List, [], ◌∷◌, ◌++◌, length, drop, map, flat_map, sum, refl, ap, ap₂, sym, subst, ◌∙◌, append-nil, if◌then◌else◌, ltb, eqb, eqb-true, ltb-false, arith}
use Rattle.std.specs.List.{All}
use Rattle.std.proofs.lemmas.Bool.{false≢true}
use Rattle.std.proofs.lemmas.List.{map-append, nil_from_length}
use Rattle.std.proofs.lemmas.List.Elements.{All-nil, All-push, All-weaker}
use Rattle.std.proofs.lemmas.Grind.{flat_map-append}
use Rattle.std.proofs.lemmas.Nat.{mul-le}
use Rattle.rand_pcg.specs.Lcg.{Lcg}
use Rattle.line_base.specs.declared.edge.Edge.{Edge}
use Rattle.line_base.specs.declared.edge.Item.TheVariants as item
use Rattle.line_base.specs.Edges.{NumberedEdge}
use Rattle.line_base.specs.Orderly.{IsOrderly}
use Rattle.line_base.proofs.Orders.{IsOrderly-nil}
use Rattle.sent_frame.specs.declared.frame.SentFrame.{SentFrame}
use Rattle.sent_frame.specs.Setup.{InRange, Settings, fault_of}
use Rattle.sent_frame.specs.Pulses.{Fall, falls_of}
use Rattle.sent_serial.specs.declared.step.SerialStep.{SerialStep}
use Rattle.sent_serial.specs.declared.step.SerialStep.TheVariants as step
use Rattle.sent_serial.specs.SentStatuses.{statuses_sent}
use Rattle.sent_serial.specs.Statuses.{HasTwoBits}
use Rattle.sent_serial.specs.Sendings.{IsEnhanced, IsShort, sent_from}
use Rattle.sent_serial.specs.Sendings as serials
use Rattle.sent_serial.specs.Sendings.Sending.{Frame as FrameSending, Message as MessageSending}
use Rattle.link_tolerance.specs.Pulses.{falls_behind}
use Rattle.link_tolerance.specs.Recorded.{AreRecorded}
use Rattle.link_tolerance.specs.Ticks.{FollowsTick, IsTick}
use Rattle.sent_tolerance.specs.Trains.{IsSent, IsTrain, Sending, ideal_falls, pulses_sent}
use Rattle.sent_tolerance.specs.Traces.{OpensBehind}
use Rattle.sent_tolerance.proofs.FrameTicks.{setup_range}
use Rattle.receiver_core.specs.declared.message.Message.{Message}
use Rattle.receiver_core.specs.declared.message.Message.TheVariants as message
use Rattle.receiver_core.specs.declared.setup.Serial.{Serial}
use Rattle.receiver_core.specs.declared.setup.Serial.TheVariants as serial
use Rattle.receiver_core.specs.SentTraces.{FitSerial, IsFrame, IsOfSent, IsSentTrace, frame_in, sending_in, sent_turns}
use Rattle.receiver_core.specs.Traces.{numbered}
use Rattle.sim_base.specs.declared.sim_fault.SimFault.{SimFault}
use Rattle.sim_base.specs.declared.sim_fault.SimFault.TheVariants as fault
use Rattle.sim_base.specs.Outcomes.{Outcome, Sent, Refused}
use Rattle.sim_base.specs.Runs.{HasRun, NotYet, OneMore}
use Rattle.sim_base.specs.Wobbles.{behind_word, past, words as drawn_words}
use Rattle.sim_base.specs.Recordings.{edge_at, falls_with_rises, opening_of, pulses_at, recorded_at, recorded_by}
use Rattle.sent_sim.specs.SentSims.{FrameWords, are_enhanced, are_short, begun, behind_frame, completed, ends_at, falls_sent, first_fall, fits_enhanced, fits_frame, fits_short, frame_edges, frame_next, frame_sent, frame_words, ideal_of, own_count, past_frame, pause_count, sent_next, started, statuses_below}
use Rattle.sent_sim.specs.SentStates.{MayBeLeft, SentState}
use Rattle.sim_base.proofs.PulseEdges.{LeaveRoom, fall_times, falls-heard}
use Rattle.sim_base.proofs.OrderlyEdges.{so_far-orderly}
use Rattle.sim_base.proofs.RecordedTimes.{length-falls, length-words}
use Rattle.sent_sim.proofs.SentEdges.{FallsSent, first-sent, more-sent}
use Rattle.sent_sim.proofs.SentFits.{completed-fits, enhanced-fits, own-small, short-fits}
use Rattle.sent_sim.proofs.SentOutcomes.{left-drop}
use Rattle.sent_sim.proofs.SentTrains.{frame-is_sent, last_tick, last-push, pulses-long, train-push}
use Rattle.sent_sim.proofs.SentTurns.{frames_in, frames-push, frames-same, sendings_of}
use Rattle.sent_sim.proofs.SerialSendings.{fits-append, left_behind, left-append, two_bits-sent}
use Rattle.sim_base.proofs.PulseLengths.{many-long}
use Rattle.sim_base.proofs.TickBounds.{drifts, stays_tick}

-- ---- edges
-- the lengths of the pulses of these frames
abbrev all_pulses : Settings → List Sending → List ℕ
all_pulses s sent = flat_map (pulses_sent s) sent

-- the edges of these frames, the last of whose falls was ideal at this time; none where there was none
abbrev EdgesSent : ℕ → Settings → Option ℕ → List Sending → List Edge → Type 0
EdgesSent line s None sent edges = (sent ≡ []) × (edges ≡ [])
EdgesSent line s (Some last) sent edges =
    (first : Sending) × (others : List Sending) × (sent ≡ first ∷ others) × FallsSent line s.jitter (4 * s.tick) (first_fall s) last (all_pulses s sent) edges

module _ (line : ℕ) (s : Settings) (range : InRange s.tick s.jitter s.nibbles) where
  -- the pulses of a frame leave room for rises and jitter
  room : (f : Sending) → IsSent s f → LeaveRoom s.jitter (4 * s.tick) (pulses_sent s f)
  room f is_sent =
      All-weaker (λ pulse. 12 * (798 * s.tick) ≤ pulse) (λ pulse. 1000 * (4 * s.tick) + 2000 * s.jitter ≤ pulse) (λ pulse long. omega arith) (pulses_sent s f) (pulses-long s f is_sent)

  long : (f : Sending) → IsSent s f → length (pulses_sent s f) * 2000000 ≤ sum (pulses_sent s f)
  long f is_sent =
      let many = many-long (12 * (798 * s.tick)) (pulses_sent s f) (pulses-long s f is_sent) in
      let least = mul-le (length (pulses_sent s f)) 2000000 (length (pulses_sent s f)) (12 * (798 * s.tick)) (omega arith) (omega arith) in
      omega (arith, many, least)

  more-pulses : (sent : List Sending) (f : Sending) → all_pulses s (sent ++ f ∷ []) ≡ all_pulses s sent ++ pulses_sent s f
  more-pulses sent f = flat_map-append (pulses_sent s) sent (f ∷ []) ∙ ap (λ l. all_pulses s sent ++ l) (append-nil (pulses_sent s f))

  -- the edges of one frame more, in the words of the fall before it
  abbrev new_edges : Option ℕ → Sending → List ℕ → List Edge
  new_edges last f drawn = opening_of line true last ++ falls_with_rises line (4 * s.tick) (recorded_by s.jitter (ideal_of s last f) drawn)

  abbrev Behind : List Sending → Sending → ℕ → List Edge → Type 0
  Behind sent f last edges = EdgesSent line s (Some last) (sent ++ f ∷ []) edges

  -- a train with one more has a first
  has_first : (sent : List Sending) (f : Sending) → (first : Sending) × (others : List Sending) × (sent ++ f ∷ [] ≡ first ∷ others)
  has_first [] f = (f, [], refl)
  has_first (first ∷ sent) f = (first, sent ++ f ∷ [], refl)

  -- behind a last fall
  behind-last : (last : ℕ) (sent : List Sending) (edges : List Edge) (f : Sending) (drawn : List ℕ) → FallsSent line s.jitter (4 * s.tick) (first_fall s) last (all_pulses s sent) edges → IsSent s f
      → length drawn ≡ length (pulses_sent s f) → last + sum (pulses_sent s f) ≤ 9 * 10 ^ 17
      → Behind sent f (last + sum (pulses_sent s f)) (edges ++ falls_with_rises line (4 * s.tick) (recorded_by s.jitter (falls_behind last (pulses_sent s f)) drawn))
  behind-last last sent edges f drawn falls is_sent as_many in_time =
      let first = has_first sent f in
      let edges' = edges ++ falls_with_rises line (4 * s.tick) (recorded_by s.jitter (falls_behind last (pulses_sent s f)) drawn) in
      let more = more-sent line s.jitter (4 * s.tick) (omega arith) (omega arith) (first_fall s) last (all_pulses s sent) edges falls (pulses_sent s f) drawn (room f is_sent) (long f is_sent) as_many in_time in
      (first.0, first.1, first.2, subst (λ l. FallsSent line s.jitter (4 * s.tick) (first_fall s) (last + sum (pulses_sent s f)) l edges') (sym (more-pulses sent f)) more)

  edges-push : (last : Option ℕ) (sent : List Sending) (edges : List Edge) (f : Sending) (drawn : List ℕ) → EdgesSent line s last sent edges → IsSent s f → length drawn ≡ length (ideal_of s last f)
      → ends_at s last f ≤ 9 * 10 ^ 17 → Behind sent f (ends_at s last f) (edges ++ new_edges last f drawn)
  unfolding ends_at ideal_of pulses_at recorded_by
  edges-push None sent edges f [] none is_sent as_many in_time = absurd (omega arith)
  edges-push None sent edges f (word ∷ words) none is_sent as_many in_time =
      let first = first_fall s in
      let start = first-sent line s.jitter (4 * s.tick) (omega arith) (omega arith) first word (omega arith) (omega arith) in
      let begun = edge_at line 0 true ∷ falls_with_rises line (4 * s.tick) (recorded_at s.jitter first word ∷ []) in
      let count : length words ≡ length (pulses_sent s f) = omega (arith, as_many, length-falls first (pulses_sent s f)) in
      subst (λ (l : List Edge). Behind sent f (first + sum (pulses_sent s f)) (l ++ new_edges None f (word ∷ words))) (sym none.1)
      (subst (λ (l : List Sending). Behind l f (first + sum (pulses_sent s f)) ([] ++ new_edges None f (word ∷ words))) (sym none.0)
      (behind-last first [] begun f words start is_sent count in_time))
  edges-push (Some last) sent edges f drawn falls is_sent as_many in_time =
      behind-last last sent edges f drawn falls.3 is_sent (as_many ∙ length-falls last (pulses_sent s f)) in_time

-- ---- what holds of a sensor that has accepted these messages and sent these edges
record SentKeeps (first state : SentState) (messages : List Message) (edges : List Edge) : Type 0 where
  pub line_is : state.line ≡ first.line
  pub setup_is : state.setup ≡ first.setup
  pub serial_is : state.serial ≡ first.serial
  pub in_range : InRange state.setup.tick state.setup.jitter state.setup.nibbles
  pub all_sent : All IsOfSent messages
  pub serial_fits : FitSerial state.serial (sendings_of messages)
  pub left_is : state.left ≡ left_behind [] (sendings_of messages)
  pub may_be_left : MayBeLeft state.serial state.left
  pub sent : List Sending
  pub carries : map (λ (f : Sending). f.frame) sent ≡ frames_in (sent_turns messages)
  pub train : IsTrain state.setup sent
  pub tick_is : state.tick ≡ last_tick (1000 * state.setup.tick) sent
  pub is_tick : IsTick state.setup.tick state.tick
  pub edges_sent : EdgesSent state.line state.setup state.last sent edges

-- nothing may be left of any serial messages
none_left : (form : Serial) → MayBeLeft form []
none_left serial.Absent = refl
none_left serial.Short = All-nil HasTwoBits
none_left serial.Enhanced = All-nil HasTwoBits

none-fits : (form : Serial) → FitSerial form []
none-fits serial.Absent = All-nil IsFrame
none-fits serial.Short = tt
none-fits serial.Enhanced = tt

keeps-started : (line : ℕ) (s : Settings) (form : Serial) → InRange s.tick s.jitter s.nibbles → SentKeeps (started line s form) (started line s form) [] []
unfolding sent_from
keeps-started line s form range = record {
  line_is = refl;
  setup_is = refl;
  serial_is = refl;
  in_range = range;
  all_sent = All-nil IsOfSent;
  serial_fits = none-fits form;
  left_is = refl;
  may_be_left = none_left form;
  sent = [];
  carries = refl;
  train = tt;
  tick_is = refl;
  is_tick = record { not_below = omega arith; not_above = omega arith };
  edges_sent = (refl, refl);
}

-- ---- a frame more
-- a frame may be sent next among serial messages
frame-fits : (s : Settings) (form : Serial) (sendings : List serials.Sending) (frame : SentFrame) → FitSerial form sendings → frame.status < statuses_below form → FitSerial form (sendings ++ FrameSending frame.status ∷ [])
frame-fits s serial.Absent sendings frame fits small = All-push IsFrame sendings (FrameSending frame.status) fits tt
frame-fits s serial.Short sendings frame fits small = fits-append IsShort [] sendings (FrameSending frame.status ∷ []) fits (small, tt)
frame-fits s serial.Enhanced sendings frame fits small = fits-append IsEnhanced [] sendings (FrameSending frame.status ∷ []) fits (small, tt)

keeps-frame : (first state : SentState) (messages : List Message) (edges : List Edge) (frame : SentFrame) (words : FrameWords) (drawn : List ℕ) → SentKeeps first state messages edges
    → fits_frame state.setup state.serial frame ≡ true → length words.own ≡ own_count state.setup
    → length drawn ≡ length (ideal_of state.setup state.last (frame_sent state.setup state.tick (completed state.left frame) words))
    → ends_at state.setup state.last (frame_sent state.setup state.tick (completed state.left frame) words) ≤ 9 * 10 ^ 17
    → SentKeeps first (behind_frame state (frame_sent state.setup state.tick (completed state.left frame) words)) (messages ++ message.Frame frame ∷ [])
    (edges ++ frame_edges state (frame_sent state.setup state.tick (completed state.left frame) words) drawn)
unfolding frame_edges frame_sent
keeps-frame first state messages edges frame words drawn keeps fits own as_many in_time =
    let s = state.setup in
    let f = frame_sent s state.tick (completed state.left frame) words in
    let is_sent : IsSent s f = frame-is_sent s state.tick (completed state.left frame) words (completed-fits s state.serial state.left frame keeps.may_be_left fits) own in
    let sendings : sendings_of (messages ++ message.Frame frame ∷ []) ≡ sendings_of messages ++ FrameSending frame.status ∷ [] = flat_map-append sending_in messages (message.Frame frame ∷ []) in
    record {
      line_is = keeps.line_is;
      setup_is = keeps.setup_is;
      serial_is = keeps.serial_is;
      in_range = keeps.in_range;
      all_sent = All-push IsOfSent messages (message.Frame frame) keeps.all_sent tt;
      serial_fits = subst (FitSerial state.serial) (sym sendings) (frame-fits s state.serial (sendings_of messages) frame keeps.serial_fits (own-small s state.serial frame fits));
      left_is = ap (drop 1) keeps.left_is ∙ sym (ap (left_behind []) sendings ∙ left-append [] (sendings_of messages) (FrameSending frame.status ∷ []));
      may_be_left = left-drop state.serial state.left keeps.may_be_left;
      sent = keeps.sent ++ f ∷ [];
      carries = map-append (λ (f : Sending). f.frame) keeps.sent (f ∷ []) ∙ ap₂ (λ fs l. fs ++ completed l frame ∷ []) keeps.carries keeps.left_is ∙ sym (frames-push messages frame);
      train = train-push s (1000 * s.tick) keeps.sent f keeps.train is_sent
          (subst (λ t. FollowsTick t f.tick) keeps.tick_is (drifts s.tick state.tick words.tick keeps.is_tick));
      tick_is = sym (last-push (1000 * s.tick) keeps.sent f);
      is_tick = stays_tick s.tick state.tick words.tick;
      edges_sent = edges-push state.line s keeps.in_range state.last keeps.sent edges f drawn keeps.edges_sent is_sent as_many in_time;
    }

-- ---- a serial message more
keeps-message : (first state : SentState) (messages : List Message) (edges : List Edge) (m : Message) (sends : SerialStep) → SentKeeps first state messages edges → IsOfSent m → frame_in m ≡ [] → sending_in m ≡ MessageSending sends ∷ []
    → FitSerial state.serial (sendings_of messages ++ MessageSending sends ∷ []) → MayBeLeft state.serial (statuses_sent sends)
    → SentKeeps first (record state { left = statuses_sent sends }) (messages ++ m ∷ []) (edges ++ [])
keeps-message first state messages edges m sends keeps is_of no_frame sending fits may =
    let sendings : sendings_of (messages ++ m ∷ []) ≡ sendings_of messages ++ MessageSending sends ∷ [] = flat_map-append sending_in messages (m ∷ []) ∙ ap (λ l. sendings_of messages ++ (l ++ [])) sending in
    record {
      line_is = keeps.line_is;
      setup_is = keeps.setup_is;
      serial_is = keeps.serial_is;
      in_range = keeps.in_range;
      all_sent = All-push IsOfSent messages m keeps.all_sent is_of;
      serial_fits = subst (FitSerial state.serial) (sym sendings) fits;
      left_is = sym (ap (left_behind []) sendings ∙ left-append [] (sendings_of messages) (MessageSending sends ∷ []));
      may_be_left = may;
      sent = keeps.sent;
      carries = keeps.carries ∙ sym (frames-same messages m sends no_frame sending);
      train = keeps.train;
      tick_is = keeps.tick_is;
      is_tick = keeps.is_tick;
      edges_sent = subst (EdgesSent state.line state.setup state.last keeps.sent) (sym (append-nil edges)) keeps.edges_sent;
    }

-- ---- whatever becomes of a message
-- what is sent is sent by one way alone
sent-same : {edges edges' : List Edge} {state state' : SentState} {g g' : Lcg} → Sent edges state g ≡ Sent edges' state' g' → (edges ≡ edges') × (state ≡ state')
sent-same same = (cc, cc)

-- what is refused isn't sent
refused-not : {refused : SimFault} {edges : List Edge} {state state' : SentState} {g g' : Lcg} {X : Type 0} → Refused refused state g ≡ Sent edges state' g' → X
refused-not same = absurd cc

-- a frame is sent, or it comes too late
abbrev by_late : SentState → Sending → Lcg → Bool → Outcome SentState
by_late state f g late =
    if late then Refused fault.Late state g
    else Sent (frame_edges state f (drawn_words (length (ideal_of state.setup state.last f)) g)) (behind_frame state f) (past (length (ideal_of state.setup state.last f)) g)

module _ (first state : SentState) (messages : List Message) (edges : List Edge) (keeps : SentKeeps first state messages edges) (more : List Edge) (behind : SentState) (later : Lcg) where
  -- the message was accepted
  abbrev Goes : Message → Type 0
  Goes m = SentKeeps first behind (messages ++ m ∷ []) (edges ++ more)

  -- what holds of what is sent holds of this
  goes : (m : Message) (now : List Edge) (next : SentState) (g : Lcg) → SentKeeps first next (messages ++ m ∷ []) (edges ++ now) → Sent now next g ≡ Sent more behind later → Goes m
  goes m now next g holds same =
      let parts = sent-same same in
      subst (λ s. SentKeeps first s (messages ++ m ∷ []) (edges ++ more)) parts.1 (subst (λ l. SentKeeps first next (messages ++ m ∷ []) (edges ++ l)) parts.0 holds)

  frame-late : (frame : SentFrame) (words : FrameWords) (g : Lcg) → fits_frame state.setup state.serial frame ≡ true → length words.own ≡ own_count state.setup → (late : Bool)
      → ltb (9 * 10 ^ 17) (ends_at state.setup state.last (frame_sent state.setup state.tick (completed state.left frame) words)) ≡ late → by_late state (frame_sent state.setup state.tick (completed state.left frame) words) g late ≡ Sent more behind later → Goes (message.Frame frame)
  frame-late frame words g fits own true late same = refused-not same
  frame-late frame words g fits own false late same =
      let f = frame_sent state.setup state.tick (completed state.left frame) words in
      let count = length (ideal_of state.setup state.last f) in
      goes (message.Frame frame) (frame_edges state f (drawn_words count g)) (behind_frame state f) (past count g)
      (keeps-frame first state messages edges frame words (drawn_words count g) keeps fits own (length-words count g) (ltb-false (9 * 10 ^ 17) (ends_at state.setup state.last f) late)) same

  frame-step : (frame : SentFrame) (g : Lcg) (fits : Bool) → fits_frame state.setup state.serial frame ≡ fits → (if fits then frame_next state frame g else Refused fault.Range state g) ≡ Sent more behind later → Goes (message.Frame frame)
  unfolding frame_next falls_sent frame_words
  frame-step frame g false fits same = refused-not same
  frame-step frame g true fits same =
      frame-late frame (frame_words state.setup g) (past_frame state.setup g) fits (length-words (own_count state.setup) (past (pause_count state.setup) (behind_word g)))
      (ltb (9 * 10 ^ 17) (ends_at state.setup state.last (frame_sent state.setup state.tick (completed state.left frame) (frame_words state.setup g)))) refl same

  message-step : (m : Message) (sends : SerialStep) (g : Lcg) → IsOfSent m → frame_in m ≡ [] → sending_in m ≡ MessageSending sends ∷ [] → (state.left ≡ [] → FitSerial state.serial (sendings_of messages ++ MessageSending sends ∷ []))
      → MayBeLeft state.serial (statuses_sent sends) → (none : Bool) → eqb (length state.left) 0 ≡ none → (if none then Sent [] (record state { left = statuses_sent sends }) g else Refused fault.Order state g) ≡ Sent more behind later → Goes m
  message-step m sends g is_of no_frame sending fits may false none same = refused-not same
  message-step m sends g is_of no_frame sending fits may true none same =
      goes m [] (record state { left = statuses_sent sends }) g
      (keeps-message first state messages edges m sends keeps is_of no_frame sending (fits (nil_from_length state.left (eqb-true (length state.left) 0 none))) may) same

  -- a serial message fits behind the others where none is left of them
  short-behind : (form : Serial) (id value : ℕ) → are_short form ≡ true → FitSerial form (sendings_of messages) → left_behind [] (sendings_of messages) ≡ [] → IsShort (step.Short id value) → FitSerial form (sendings_of messages ++ MessageSending (step.Short id value) ∷ [])
  short-behind serial.Absent id value is fits none short = absurd (false≢true is)
  short-behind serial.Short id value is fits none short = fits-append IsShort [] (sendings_of messages) (MessageSending (step.Short id value) ∷ []) fits (short, none, tt)
  short-behind serial.Enhanced id value is fits none short = absurd (false≢true is)

  enhanced-behind : (form : Serial) (id value : ℕ) (wide : Bool) → are_enhanced form ≡ true → FitSerial form (sendings_of messages) → left_behind [] (sendings_of messages) ≡ [] → IsEnhanced (step.Enhanced id value wide)
      → FitSerial form (sendings_of messages ++ MessageSending (step.Enhanced id value wide) ∷ [])
  enhanced-behind serial.Absent id value wide is fits none enhanced = absurd (false≢true is)
  enhanced-behind serial.Short id value wide is fits none enhanced = absurd (false≢true is)
  enhanced-behind serial.Enhanced id value wide is fits none enhanced = fits-append IsEnhanced [] (sendings_of messages) (MessageSending (step.Enhanced id value wide) ∷ []) fits (enhanced, none, tt)

  short-left : (form : Serial) (id value : ℕ) → are_short form ≡ true → MayBeLeft form (statuses_sent (step.Short id value))
  short-left serial.Absent id value is = absurd (false≢true is)
  short-left serial.Short id value is = two_bits-sent (step.Short id value)
  short-left serial.Enhanced id value is = absurd (false≢true is)

  enhanced-left : (form : Serial) (id value : ℕ) (wide : Bool) → are_enhanced form ≡ true → MayBeLeft form (statuses_sent (step.Enhanced id value wide))
  enhanced-left serial.Absent id value wide is = absurd (false≢true is)
  enhanced-left serial.Short id value wide is = absurd (false≢true is)
  enhanced-left serial.Enhanced id value wide is = two_bits-sent (step.Enhanced id value wide)

  short-step : (id value : ℕ) (g : Lcg) (kind fits : Bool) → are_short state.serial ≡ kind → fits_short id value ≡ fits
      → (if kind then (if fits then begun state (statuses_sent (step.Short id value)) g else Refused fault.Range state g) else Refused fault.Kind state g) ≡ Sent more behind later → Goes (message.Short id value)
  unfolding begun
  short-step id value g false fits kind_is fits_is same = refused-not same
  short-step id value g true false kind_is fits_is same = refused-not same
  short-step id value g true true kind_is fits_is same =
      message-step (message.Short id value) (step.Short id value) g tt refl refl
      (λ none. short-behind state.serial id value kind_is keeps.serial_fits (sym keeps.left_is ∙ none) (short-fits id value fits_is)) (short-left state.serial id value kind_is) (eqb (length state.left) 0) refl same

  enhanced-step : (id value : ℕ) (wide : Bool) (g : Lcg) (kind fits : Bool) → are_enhanced state.serial ≡ kind → fits_enhanced id value wide ≡ fits
      → (if kind then (if fits then begun state (statuses_sent (step.Enhanced id value wide)) g else Refused fault.Range state g) else Refused fault.Kind state g) ≡ Sent more behind later → Goes (message.Enhanced id value wide)
  unfolding begun
  enhanced-step id value wide g false fits kind_is fits_is same = refused-not same
  enhanced-step id value wide g true false kind_is fits_is same = refused-not same
  enhanced-step id value wide g true true kind_is fits_is same =
      message-step (message.Enhanced id value wide) (step.Enhanced id value wide) g tt refl refl
      (λ none. enhanced-behind state.serial id value wide kind_is keeps.serial_fits (sym keeps.left_is ∙ none) (enhanced-fits id value wide fits_is)) (enhanced-left state.serial id value wide kind_is) (eqb (length state.left) 0) refl same

  keeps-next : (m : Message) (g : Lcg) → sent_next state m g ≡ Sent more behind later → SentKeeps first behind (messages ++ m ∷ []) (edges ++ more)
  unfolding sent_next
  keeps-next (message.Frame frame) g same = frame-step frame g (fits_frame state.setup state.serial frame) refl same
  keeps-next (message.Short id value) g same = short-step id value g (are_short state.serial) (fits_short id value) refl refl same
  keeps-next (message.Enhanced id value wide) g same = enhanced-step id value wide g (are_enhanced state.serial) (fits_enhanced id value wide) refl refl same
  keeps-next (message.Answer code frame) g same = refused-not same
  keeps-next (message.Silent code) g same = refused-not same
  keeps-next message.Sync g same = refused-not same
  keeps-next (message.Burst slot payload) g same = refused-not same
  keeps-next (message.Down down) g same = refused-not same

-- each sensor that has run
keeps-run : (line : ℕ) (s : Settings) (form : Serial) → InRange s.tick s.jitter s.nibbles → (state : SentState) (messages : List Message) (edges : List Edge) → HasRun SentState sent_next (started line s form) state messages edges
    → SentKeeps (started line s form) state messages edges
keeps-run line s form range _ _ _ NotYet = keeps-started line s form range
keeps-run line s form range _ _ _ (OneMore {state} {behind} {messages} {edges} {more} run m g later same) =
    keeps-next (started line s form) state messages edges (keeps-run line s form range state messages edges run) more behind later m g same

-- ---- so its edges are honest and orderly
-- with nothing left out the line may be opened at any time
opens-anywhere : (jitter : ℕ) (edges : List NumberedEdge) → OpensBehind jitter edges []
opens-anywhere jitter [] = tt
opens-anywhere jitter (opening ∷ edges) = tt

edges-recorded : (line : ℕ) (s : Settings) (last : Option ℕ) (sent : List Sending) (edges : List Edge) → EdgesSent line s last sent edges
    → AreRecorded s.jitter (ideal_falls s (first_fall s) sent) (map (λ (fall : Fall). fall.time) (falls_of (numbered 0 edges)))
unfolding ideal_falls numbered
edges-recorded line s None sent edges none =
    subst (λ (l : List Sending). AreRecorded s.jitter (ideal_falls s (first_fall s) l) (map (λ (fall : Fall). fall.time) (falls_of (numbered 0 edges)))) (sym none.0)
    (subst (λ (l : List Edge). AreRecorded s.jitter [] (map (λ (fall : Fall). fall.time) (falls_of (numbered 0 l)))) (sym none.1) tt)
edges-recorded line s (Some last) sent edges falls =
    let first = first_fall s in
    let ideal : ideal_falls s first sent ≡ first ∷ falls_behind first (all_pulses s sent) =
    ap (ideal_falls s first) falls.2 ∙ sym (ap (λ l. first ∷ falls_behind first (all_pulses s l)) falls.2) in
    let heard : map (λ (fall : Fall). fall.time) (falls_of (numbered 0 edges)) ≡ fall_times falls.3.later =
    ap (λ l. map (λ (fall : Fall). fall.time) (falls_of (numbered 0 l))) falls.3.edges_are ∙ falls-heard (0 + 1) falls.3.later in
    subst (λ l. AreRecorded s.jitter l (map (λ (fall : Fall). fall.time) (falls_of (numbered 0 edges)))) (sym ideal)
    (subst (λ l. AreRecorded s.jitter (first ∷ falls_behind first (all_pulses s sent)) l) (sym heard) falls.3.recorded)

keeps-honest : (first state : SentState) (messages : List Message) (edges : List Edge) → fault_of state.setup.tick state.setup.jitter state.setup.nibbles ≡ None → SentKeeps first state messages edges
    → IsSentTrace state.setup state.serial messages (numbered 0 edges)
keeps-honest first state messages edges accepted keeps = record {
  all_sent = keeps.all_sent;
  serial_fits = keeps.serial_fits;
  honest = record {
    accepted = accepted;
    sent = keeps.sent;
    carries = keeps.carries;
    train = keeps.train;
    start = first_fall state.setup;
    left_out = 0;
    recorded = edges-recorded state.line state.setup state.last keeps.sent edges keeps.edges_sent;
    opens = opens-anywhere state.setup.jitter (numbered 0 edges);
  };
}

edges-orderly : (line : ℕ) (s : Settings) (last : Option ℕ) (sent : List Sending) (edges : List Edge) → EdgesSent line s last sent edges → IsOrderly (line ∷ []) (map item.Edge edges)
edges-orderly line s None sent edges none = subst (λ (l : List Edge). IsOrderly (line ∷ []) (map item.Edge l)) (sym none.1) (IsOrderly-nil (line ∷ []))
edges-orderly line s (Some last) sent edges falls = so_far-orderly (line ∷ []) edges falls.3.time falls.3.levels falls.3.so_far

keeps-orderly : (first state : SentState) (messages : List Message) (edges : List Edge) → SentKeeps first state messages edges → IsOrderly (state.line ∷ []) (map item.Edge edges)
keeps-orderly first state messages edges keeps = edges-orderly state.line state.setup state.last keeps.sent edges keeps.edges_sent

-- ---- of each sensor that has run
pub run-honest : (line : ℕ) (s : Settings) (form : Serial) (state : SentState) (messages : List Message) (edges : List Edge) → fault_of s.tick s.jitter s.nibbles ≡ None
    → HasRun SentState sent_next (started line s form) state messages edges → IsSentTrace s form messages (numbered 0 edges)
run-honest line s form state messages edges accepted run =
    let keeps = keeps-run line s form (setup_range s.tick s.jitter s.nibbles accepted) state messages edges run in
    let accepted' : fault_of state.setup.tick state.setup.jitter state.setup.nibbles ≡ None = ap (λ (t : Settings). fault_of t.tick t.jitter t.nibbles) keeps.setup_is ∙ accepted in
    subst (λ (t : Settings). IsSentTrace t form messages (numbered 0 edges)) keeps.setup_is
    (subst (λ (f : Serial). IsSentTrace state.setup f messages (numbered 0 edges)) keeps.serial_is (keeps-honest (started line s form) state messages edges accepted' keeps))

pub run-orderly : (line : ℕ) (s : Settings) (form : Serial) (state : SentState) (messages : List Message) (edges : List Edge) → fault_of s.tick s.jitter s.nibbles ≡ None
    → HasRun SentState sent_next (started line s form) state messages edges → IsOrderly (line ∷ []) (map item.Edge edges)
run-orderly line s form state messages edges accepted run =
    let keeps = keeps-run line s form (setup_range s.tick s.jitter s.nibbles accepted) state messages edges run in
    subst (λ l. IsOrderly (l ∷ []) (map item.Edge edges)) keeps.line_is (keeps-orderly (started line s form) state messages edges keeps)

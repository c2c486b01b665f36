-- What the edges of a call of SPC are like.
--     SpcStands        what holds of a simulator that has sent these edges
--     CallKeeps        and of one more call
--     spc-call         of each call of a simulator that has run
--     whole-trace      nothing was before the opening
use Rattle.std.proofs.Common.{◌≡◌, ℕ, zero, suc, ◌+◌, ◌-◌, ◌*◌, ◌^◌, ◌≤◌, Bool, true, false, Option, None, Some, List, [], ◌∷◌, ◌++◌, length, drop, flat_map, refl, ap, sym, subst, ◌∙◌, if◌then◌else◌, ltb, eqb, eqb-true, ltb-false, ltb-true, le-leb, arith}
use Rattle.std.specs.Prelude.{◌&&◌}
use Rattle.std.proofs.lemmas.List.{length-append, length-drop}
use Rattle.std.proofs.lemmas.Grind.{flat_map-append}
use Rattle.rand_pcg.specs.Lcg.{Lcg}
use Rattle.line_base.specs.Edges.{NumberedEdge}
use Rattle.line_base.specs.declared.edge.Edge.{Edge}
use Rattle.sent_frame.specs.declared.frame.SentFrame.{SentFrame}
use Rattle.sent_frame.specs.Setup as frame
use Rattle.sent_frame.specs.Setup.{InRange}
use Rattle.spc_link.specs.Setup.{Settings, fault_of}
use Rattle.spc_link.specs.Reading.{is_after_quiet}
use Rattle.link_tolerance.specs.Recorded.{IsRecorded}
use Rattle.spc_tolerance.specs.FromFirst.{all_edges, edge_count}
use Rattle.spc_tolerance.specs.Traces.{AreRecordedAs, IsQuiet, OpensBehind}
use Rattle.spc_tolerance.specs.Trains.{FitsSetup, IdealEdge, IsSent, SpcMessage, Transaction, Answered, Unanswered, ends_at, edges_sent as ideal_sent, ideal_edges, message_of, trigger_in}
use Rattle.spc_tolerance.proofs.EdgeCounts.{length_ideal, length_sent}
use Rattle.spc_tolerance.proofs.RecordedTimes.{frame_range}
use Rattle.receiver_core.specs.declared.message.Message.{Message}
use Rattle.receiver_core.specs.declared.message.Message.TheVariants as message
use Rattle.receiver_core.specs.SpcTraces.{IsSpcTrace, spc_message_in}
use Rattle.receiver_core.specs.Traces.{numbered}
use Rattle.sim_base.specs.declared.sim_fault.SimFault.{SimFault}
use Rattle.sim_base.specs.declared.sim_fault.SimFault.TheVariants as fault
use Rattle.sim_base.specs.Outcomes.{Outcome, Sent, Refused}
use Rattle.sim_base.specs.Recordings.{edge_at, opening_of, pulses_at, recorded_at, recorded_by}
use Rattle.sim_base.specs.Runs.{HasRun, NotYet, OneMore}
use Rattle.sim_base.specs.FittingNibbles.{are_nibbles, fits_nibbles}
use Rattle.sim_base.specs.Wobbles.{behind_word, past, word, words}
use Rattle.sim_base.proofs.FittingNibbles.{are-nibbles, both}
use Rattle.sim_base.proofs.OrderlyEdges.{last_time}
use Rattle.sim_base.proofs.RecordedTimes.{are_recorded, length-words, recorded-near}
use Rattle.spc_sim.specs.SpcSims.{answer_next, answer_sent, answer_words, behind_transaction, edges_sent, falls_in, fits_answer, fits_code, next_sent, next_trigger, own_count, past_answer, past_trigger, silent_next, spc_next, started, transaction_edges, trigger_sent, trigger_words}
use Rattle.spc_sim.specs.SpcStates.{SpcState, first_trigger, trigger_at}
use Rattle.spc_sim.proofs.SpcEdges.{AllRecordedAs, IsReady, edges_at, opening-ready, transaction-ready, transaction-recorded}
use Rattle.spc_sim.proofs.SpcRuns.{run-honest}
use Rattle.spc_sim.proofs.SpcTimes.{answer-is_sent, trigger-is_sent}
use Rattle.sensor_sim.specs.Transactions.{EndsWithRise, FallsAfterQuiet, IsWholeTrace}

-- ---- the edges of one call
-- as many edges are recorded as were sent
recorded-many : (s : Settings) (ideals : List IdealEdge) (edges : List Edge) → AllRecordedAs s ideals edges → length edges ≡ length ideals
recorded-many s [] [] recorded = refl
recorded-many s [] (e ∷ edges) recorded = absurd recorded
recorded-many s (ideal ∷ ideals) [] recorded = absurd recorded
recorded-many s (ideal ∷ ideals) (e ∷ edges) recorded = ap suc (recorded-many s ideals edges recorded.2)

-- what ends an answer, or a trigger that nobody answers, is a rise
ends-rise : (line low time : ℕ) (times : List ℕ) → EndsWithRise (edge_at line time true ∷ pulses_at line false low times)
unfolding pulses_at
ends-rise line low time [] = refl
ends-rise line low time (fall ∷ times) = ends-rise line low (fall + low) times

-- a fall that keeps the quiet time, and twice the jitter, comes after quiet where it is recorded
quiet-fall : (s : Settings) (line before ideal time : ℕ) → IsQuiet s before ideal → IsRecorded s.sent.jitter ideal time → is_after_quiet s before (edge_at line time false) ≡ true
quiet-fall s line before ideal time quiet recorded =
    let swapped : s.quiet * s.sent.tick ≡ s.sent.tick * s.quiet = omega arith in
    le-leb (s.quiet * s.sent.tick) (10 * (time - before)) (omega (arith, swapped, quiet, recorded))

-- behind the last of edges
quiet-behind : (s : Settings) (time : ℕ) (first : Edge) (edges : List Edge) (fall : Edge) (more : List Edge) → is_after_quiet s (last_time time (first ∷ edges)) fall ≡ true → FallsAfterQuiet s (first ∷ edges) (fall ∷ more)
quiet-behind s time first [] fall more quiet = quiet
quiet-behind s time first (next ∷ edges) fall more quiet = quiet-behind s first.time next edges fall more quiet

-- ---- what holds of a simulator
-- these edges were sent, behind which the next trigger falls at this time; none where none was sent
abbrev Ready : Settings → ℕ → Option ℕ → List Edge → Type 0
Ready s line None edges = edges ≡ []
Ready s line (Some next) edges = (opening : Edge) × (later : List Edge) × (edges ≡ opening ∷ later) × IsReady s line edges next

record SpcStands (first state : SpcState) (messages : List Message) (edges : List Edge) : Type 0 where
  pub line_is : state.line ≡ first.line
  pub setup_is : state.setup ≡ first.setup
  pub accepted : fault_of state.setup.sent state.setup.windows state.setup.delay state.setup.quiet ≡ None
  pub in_range : InRange state.setup.sent.tick state.setup.sent.jitter state.setup.sent.nibbles
  pub ready : Ready state.setup state.line state.next edges
  pub counted : length (drop 1 edges) ≡ all_edges state.setup (flat_map spc_message_in messages)

-- of one more call, that sends these edges
record CallKeeps (first behind : SpcState) (messages : List Message) (edges more : List Edge) (m : Message) : Type 0 where
  pub stands : SpcStands first behind (messages ++ m ∷ []) (edges ++ more)
  pub quiet : FallsAfterQuiet first.setup edges more
  pub rise : EndsWithRise more

stands-started : (line : ℕ) (s : Settings) → fault_of s.sent s.windows s.delay s.quiet ≡ None → InRange s.sent.tick s.sent.jitter s.sent.nibbles → SpcStands (started line s) (started line s) [] []
stands-started line s accepted range = record { line_is = refl; setup_is = refl; accepted = accepted; in_range = range; ready = refl; counted = refl }

-- ---- one transaction more
module _ (s : Settings) (line : ℕ) (range : InRange s.sent.tick s.sent.jitter s.sent.nibbles) (t : Transaction) (first second : ℕ) (drawn : List ℕ) (is_sent : IsSent s t) (in_time : ends_at s t ≤ 9 * 10 ^ 17)
    (as_many : length drawn ≡ length (falls_in s t)) where
  -- its edges
  abbrev fall_time : ℕ
  fall_time = recorded_at s.sent.jitter (trigger_in t).fall first

  abbrev rise_time : ℕ
  rise_time = recorded_at s.sent.jitter (trigger_in t).rise second

  abbrev new : List Edge
  new = edges_at line (4 * s.sent.tick) fall_time rise_time (recorded_by s.sent.jitter (falls_in s t) drawn)

  -- there are as many as the message has
  new-many : length new ≡ edge_count s (message_of t)
  new-many =
      recorded-many s (ideal_sent s t) new
      (transaction-recorded s line (4 * s.sent.tick) t fall_time rise_time (recorded_by s.sent.jitter (falls_in s t) drawn) (recorded-near s.sent.jitter (trigger_in t).fall first range.jitter_low)
      (recorded-near s.sent.jitter (trigger_in t).rise second range.jitter_low) (are_recorded s.sent.jitter (falls_in s t) drawn range.jitter_low as_many))
      ∙ length_sent s t is_sent

  new-quiet : (before next : ℕ) → IsQuiet s before next → (trigger_in t).fall ≡ next → is_after_quiet s before (edge_at line fall_time false) ≡ true
  new-quiet before next quiet fall_is = quiet-fall s line before (trigger_in t).fall fall_time (subst (IsQuiet s before) (sym fall_is) quiet) (recorded-near s.sent.jitter (trigger_in t).fall first range.jitter_low)

  record OneMoreCall (next : Option ℕ) (edges : List Edge) : Type 0 where
    pub ready : Ready s line (Some (next_trigger s t)) (edges ++ (opening_of line true next ++ new))
    pub quiet : FallsAfterQuiet s edges (opening_of line true next ++ new)
    pub rise : EndsWithRise (opening_of line true next ++ new)
    pub counted : length (drop 1 (edges ++ (opening_of line true next ++ new))) ≡ length (drop 1 edges) + edge_count s (message_of t)

  one-more-call : (next : Option ℕ) (edges : List Edge) → Ready s line next edges → (trigger_in t).fall ≡ trigger_at s next → OneMoreCall next edges
  one-more-call None edges none fall_is =
      let opened = opening-ready s line range in
      subst (OneMoreCall None) (sym none)
      (record {
        ready = (edge_at line 0 true, new, refl, transaction-ready s line range (edge_at line 0 true ∷ []) (first_trigger s) opened t first second drawn is_sent fall_is in_time as_many);
        quiet = new-quiet 0 (first_trigger s) (subst (λ time. IsQuiet s time (first_trigger s)) (sym opened.so_far.time_is) opened.quiet) fall_is;
        rise = ends-rise line (4 * s.sent.tick) rise_time (recorded_by s.sent.jitter (falls_in s t) drawn);
        counted = omega (arith, new-many);
      })
  one-more-call (Some next) edges ready fall_is =
      let was : IsReady s line (ready.0 ∷ ready.1) next = subst (λ (l : List Edge). IsReady s line l next) ready.2 ready.3 in
      subst (OneMoreCall (Some next)) (sym ready.2)
      (record {
        ready = (ready.0, ready.1 ++ new, refl, transaction-ready s line range (ready.0 ∷ ready.1) next was t first second drawn is_sent fall_is in_time as_many);
        quiet = quiet-behind s 0 ready.0 ready.1 (edge_at line fall_time false) (drop 1 new)
            (new-quiet (last_time 0 (ready.0 ∷ ready.1)) next (subst (λ time. IsQuiet s time next) (sym was.so_far.time_is) was.quiet) fall_is);
        rise = ends-rise line (4 * s.sent.tick) rise_time (recorded_by s.sent.jitter (falls_in s t) drawn);
        counted = length-append ready.1 new ∙ ap (λ n. length ready.1 + n) new-many;
      })

all-append : (s : Settings) (messages : List SpcMessage) (m : SpcMessage) → all_edges s (messages ++ m ∷ []) ≡ all_edges s messages + edge_count s m
all-append s [] m = omega arith
all-append s (first ∷ messages) m = omega (arith, all-append s messages m)

-- ---- whatever becomes of a message
sent-same : {edges edges' : List Edge} {state state' : SpcState} {g g' : Lcg} → Sent edges state g ≡ Sent edges' state' g' → (edges ≡ edges') × (state ≡ state')
sent-same same = (cc, cc)

refused-not : {refused : SimFault} {edges : List Edge} {state state' : SpcState} {g g' : Lcg} {X : Type 0} → Refused refused state g ≡ Sent edges state' g' → X
refused-not same = absurd cc

-- a transaction is sent, or it ends too late
abbrev by_late : SpcState → Transaction → Lcg → Bool → Outcome SpcState
by_late state t g late =
    if late then Refused fault.Late state g
    else Sent (transaction_edges state t (word g) (word (behind_word g)) (words (length (falls_in state.setup t)) (behind_word (behind_word g)))) (behind_transaction state t) (past (length (falls_in state.setup t)) (behind_word (behind_word g)))

module _ (first state : SpcState) (messages : List Message) (edges : List Edge) (stands : SpcStands first state messages edges) (more : List Edge) (behind : SpcState) (later : Lcg) where
  abbrev Goes : Message → Type 0
  Goes m = CallKeeps first behind messages edges more m

  transaction-sent : (m : Message) (t : Transaction) (one other : ℕ) (drawn : List ℕ) → spc_message_in m ≡ message_of t ∷ [] → IsSent state.setup t → (trigger_in t).fall ≡ trigger_at state.setup state.next → ends_at state.setup t ≤ 9 * 10 ^ 17
      → length drawn ≡ length (falls_in state.setup t) → CallKeeps first (behind_transaction state t) messages edges (transaction_edges state t one other drawn) m
  unfolding transaction_edges
  transaction-sent m t one other drawn says is_sent fall_is in_time as_many =
      let s = state.setup in
      let call = one-more-call s state.line stands.in_range t one other drawn is_sent in_time as_many state.next edges stands.ready fall_is in
      let said : flat_map spc_message_in (messages ++ m ∷ []) ≡ flat_map spc_message_in messages ++ message_of t ∷ [] = flat_map-append spc_message_in messages (m ∷ []) ∙ ap (λ l. flat_map spc_message_in messages ++ (l ++ [])) says in
      record {
        stands = record {
          line_is = stands.line_is;
          setup_is = stands.setup_is;
          accepted = stands.accepted;
          in_range = stands.in_range;
          ready = call.ready;
          counted = call.counted ∙ ap (λ n. n + edge_count s (message_of t)) stands.counted ∙ sym (all-append s (flat_map spc_message_in messages) (message_of t)) ∙ sym (ap (all_edges s) said);
        };
        quiet = subst (λ (u : Settings). FallsAfterQuiet u edges (transaction_edges state t one other drawn)) stands.setup_is call.quiet;
        rise = call.rise;
      }

  goes : (m : Message) (now : List Edge) (next : SpcState) (g : Lcg) → CallKeeps first next messages edges now m → Sent now next g ≡ Sent more behind later → Goes m
  goes m now next g holds same =
      let parts = sent-same same in
      subst (λ s. CallKeeps first s messages edges more m) parts.1 (subst (λ l. CallKeeps first next messages edges l m) parts.0 holds)

  transaction-late : (m : Message) (t : Transaction) (g : Lcg) → spc_message_in m ≡ message_of t ∷ [] → IsSent state.setup t → (trigger_in t).fall ≡ trigger_at state.setup state.next
      → (late : Bool) → ltb (9 * 10 ^ 17) (ends_at state.setup t) ≡ late → by_late state t g late ≡ Sent more behind later → Goes m
  transaction-late m t g says is_sent fall_is true late same = refused-not same
  transaction-late m t g says is_sent fall_is false late same =
      let count = length (falls_in state.setup t) in
      let drawn = behind_word (behind_word g) in
      goes m (transaction_edges state t (word g) (word (behind_word g)) (words count drawn)) (behind_transaction state t) (past count drawn)
      (transaction-sent m t (word g) (word (behind_word g)) (words count drawn) says is_sent fall_is (ltb-false (9 * 10 ^ 17) (ends_at state.setup t) late) (length-words count drawn)) same

  transaction-step : (m : Message) (t : Transaction) (g : Lcg) → spc_message_in m ≡ message_of t ∷ [] → IsSent state.setup t → (trigger_in t).fall ≡ trigger_at state.setup state.next → edges_sent state t g ≡ Sent more behind later → Goes m
  unfolding edges_sent
  transaction-step m t g says is_sent fall_is same = transaction-late m t g says is_sent fall_is (ltb (9 * 10 ^ 17) (ends_at state.setup t)) refl same

  -- an answer that fits
  answer-fits : (frame : SentFrame) → (fits_nibbles state.setup.sent frame.nibbles && ltb frame.status 16) ≡ true → FitsSetup state.setup frame
  answer-fits frame fits =
      let parts = both (fits_nibbles state.setup.sent frame.nibbles) (ltb frame.status 16) fits in
      let nibbles = both (eqb (length frame.nibbles) state.setup.sent.nibbles) (are_nibbles frame.nibbles) parts.0 in
      record { status = ltb-true frame.status 16 parts.1; as_many = eqb-true (length frame.nibbles) state.setup.sent.nibbles nibbles.0; nibbles = are-nibbles frame.nibbles nibbles.1 }

  answer-step : (code : ℕ) (frame : SentFrame) (g : Lcg) (fits : Bool) → fits_answer state.setup code frame ≡ fits → (if fits then answer_next state code frame g else Refused fault.Range state g) ≡ Sent more behind later → Goes (message.Answer code frame)
  unfolding answer_next answer_words trigger_sent answer_sent
  answer-step code frame g false fits same = refused-not same
  answer-step code frame g true fits same =
      let parts = both (fits_code state.setup code) (fits_nibbles state.setup.sent frame.nibbles && ltb frame.status 16) fits in
      let trigger = next_sent state code g in
      let drawn = answer_words state.setup (past_trigger g) in
      transaction-step (message.Answer code frame) (Answered trigger (answer_sent state.setup trigger frame (trigger_words g).tick drawn)) (past_answer state.setup (past_trigger g)) refl
      (record {
        trigger = trigger-is_sent state.setup stands.accepted stands.in_range (trigger_at state.setup state.next) code (trigger_words g) (ltb-true code (length state.setup.windows) parts.0);
        answer = answer-is_sent state.setup stands.accepted stands.in_range trigger frame (trigger_words g).tick drawn (answer-fits frame parts.1) (length-words (own_count state.setup) (behind_word (past_trigger g)));
      }) refl same

  silent-step : (code : ℕ) (g : Lcg) (fits : Bool) → fits_code state.setup code ≡ fits → (if fits then silent_next state code g else Refused fault.Range state g) ≡ Sent more behind later → Goes (message.Silent code)
  unfolding silent_next trigger_sent
  silent-step code g false fits same = refused-not same
  silent-step code g true fits same =
      transaction-step (message.Silent code) (Unanswered (next_sent state code g)) (past_trigger g) refl
      (record { trigger = trigger-is_sent state.setup stands.accepted stands.in_range (trigger_at state.setup state.next) code (trigger_words g) (ltb-true code (length state.setup.windows) fits); answer = tt }) refl same

  call-keeps : (m : Message) (g : Lcg) → spc_next state m g ≡ Sent more behind later → Goes m
  unfolding spc_next
  call-keeps (message.Frame frame) g same = refused-not same
  call-keeps (message.Short id value) g same = refused-not same
  call-keeps (message.Enhanced id value wide) g same = refused-not same
  call-keeps (message.Answer code frame) g same = answer-step code frame g (fits_answer state.setup code frame) refl same
  call-keeps (message.Silent code) g same = silent-step code g (fits_code state.setup code) refl same
  call-keeps message.Sync g same = refused-not same
  call-keeps (message.Burst slot payload) g same = refused-not same
  call-keeps (message.Down down) g same = refused-not same

-- ---- of each simulator that has run
module _ (line : ℕ) (s : Settings) (accepted : fault_of s.sent s.windows s.delay s.quiet ≡ None) (frame_accepted : frame.fault_of s.sent.tick s.sent.jitter s.sent.nibbles ≡ None) where
  stands-run : (state : SpcState) (messages : List Message) (edges : List Edge) → HasRun SpcState spc_next (started line s) state messages edges → SpcStands (started line s) state messages edges
  stands-run _ _ _ NotYet = stands-started line s accepted (frame_range s.sent.tick s.sent.jitter s.sent.nibbles frame_accepted)
  stands-run _ _ _ (OneMore {state} {behind} {messages} {edges} {more} run m g later same) =
      (call-keeps (started line s) state messages edges (stands-run state messages edges run) more behind later m g same).stands

  pub spc-call : (state : SpcState) (messages : List Message) (edges : List Edge) → HasRun SpcState spc_next (started line s) state messages edges → (m : Message) (g : Lcg) (more : List Edge) (behind : SpcState) (later : Lcg)
      → spc_next state m g ≡ Sent more behind later → FallsAfterQuiet s edges more × EndsWithRise more
  spc-call state messages edges run m g more behind later same =
      let call = call-keeps (started line s) state messages edges (stands-run state messages edges run) more behind later m g same in
      (call.quiet, call.rise)

  -- ---- nothing was before the opening
  -- no more edges are recorded than were sent
  recorded-few : (ideals : List IdealEdge) (edges : List NumberedEdge) → AreRecordedAs s ideals edges → length edges ≤ length ideals
  recorded-few ideals [] recorded = omega arith
  recorded-few [] (e ∷ edges) recorded = absurd recorded
  recorded-few (ideal ∷ ideals) (e ∷ edges) recorded = omega (arith, recorded-few ideals edges recorded.2)

  length-numbered : (number : ℕ) (edges : List Edge) → length (numbered number edges) ≡ length edges
  unfolding numbered
  length-numbered number [] = refl
  length-numbered number (edge ∷ edges) = ap suc (length-numbered (number + 1) edges)

  length-behind : (number : ℕ) (edges : List Edge) → length (drop 1 (numbered number edges)) ≡ length (drop 1 edges)
  length-behind number edges = length-drop 1 (numbered number edges) ∙ ap (λ n. n - 1) (length-numbered number edges) ∙ sym (length-drop 1 edges)

  -- where none is missing, none was left out
  none-left : (left_out : ℕ) (ideals : List IdealEdge) → length ideals ≤ length (drop left_out ideals) → drop left_out ideals ≡ ideals
  none-left zero ideals all = refl
  none-left (suc left_out) [] all = refl
  none-left (suc left_out) (ideal ∷ ideals) all = absurd (omega (arith, length-drop left_out ideals))

  opens-anywhere : (jitter : ℕ) (edges : List NumberedEdge) → OpensBehind jitter edges []
  opens-anywhere jitter [] = tt
  opens-anywhere jitter (opening ∷ edges) = tt

  pub whole-trace : (state : SpcState) (messages : List Message) (edges : List Edge) → HasRun SpcState spc_next (started line s) state messages edges → IsWholeTrace s messages (numbered 0 edges)
  whole-trace state messages edges run =
      let stands = stands-run state messages edges run in
      let trace = run-honest line s state messages edges accepted frame_accepted run in
      let honest = trace.honest in
      let ideals = ideal_edges s honest.train in
      let counted : length (drop 1 edges) ≡ all_edges s (flat_map spc_message_in messages) = stands.counted ∙ ap (λ (u : Settings). all_edges u (flat_map spc_message_in messages)) stands.setup_is in
      let many : length ideals ≡ length (drop 1 (numbered 0 edges)) = length_ideal s honest.train honest.sent ∙ ap (all_edges s) honest.says ∙ sym counted ∙ sym (length-behind 0 edges) in
      let few : length (drop 1 (numbered 0 edges)) ≤ length (drop honest.left_out ideals) = recorded-few (drop honest.left_out ideals) (drop 1 (numbered 0 edges)) honest.recorded in
      let none : drop honest.left_out ideals ≡ ideals = none-left honest.left_out ideals (omega (arith, many, few)) in
      let whole : IsSpcTrace s messages (numbered 0 edges) = record {
        all_sent = trace.all_sent;
        honest = record honest { left_out = 0; recorded = subst (λ l. AreRecordedAs s l (drop 1 (numbered 0 edges))) none honest.recorded; opens = opens-anywhere s.sent.jitter (numbered 0 edges) };
      } in
      (whole, refl)

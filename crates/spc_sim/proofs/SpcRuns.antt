-- What was sent on an SPC line of the messages that were accepted is an honest trace of them.
--     SpcKeeps         what holds of a simulator that has accepted these messages and sent these edges
--     keeps-started    of a new one
--     keeps-next       of one that accepts a message more
--     run-honest, run-orderly      so of each
use Rattle.std.proofs.Common.{◌≡◌, ℕ, ◌+◌, ◌*◌, ◌^◌, ◌<◌, ◌≤◌, Bool, true, false, Option, None, Some, List, [], ◌∷◌, ◌++◌, length, drop, map, flat_map, refl, ap, sym, subst, ◌∙◌, append-nil, append_assoc, if◌then◌else◌, ltb, eqb, eqb-true, ltb-false, ltb-true, arith}
use Rattle.std.specs.Prelude.{◌&&◌}
use Rattle.std.specs.List.{All}
use Rattle.std.proofs.lemmas.Bool.{false≢true}
use Rattle.std.proofs.lemmas.List.{map-append}
use Rattle.std.proofs.lemmas.List.Elements.{All-nil, All-push}
use Rattle.std.proofs.lemmas.Grind.{flat_map-append}
use Rattle.rand_pcg.specs.Lcg.{Lcg}
use Rattle.line_base.specs.Edges.{NumberedEdge}
use Rattle.line_base.specs.declared.edge.Edge.{Edge}
use Rattle.line_base.specs.declared.edge.Item.TheVariants as item
use Rattle.line_base.specs.Orderly.{IsOrderly}
use Rattle.line_base.proofs.Orders.{IsOrderly-nil}
use Rattle.sent_frame.specs.declared.frame.SentFrame.{SentFrame}
use Rattle.sent_frame.specs.Setup as frame
use Rattle.sent_frame.specs.Setup.{InRange}
use Rattle.spc_link.specs.Setup.{Settings, fault_of}
use Rattle.spc_tolerance.specs.Traces.{AreInOrder, AreRecordedAs, IsQuiet, OpensBehind, OpensOpposite}
use Rattle.spc_tolerance.specs.Trains.{FitsSetup, IsSent, IsTrain, Transaction, Answered, Unanswered, ends_at, edges_sent as ideal_sent, ideal_edges, message_of, trigger_in}
use Rattle.spc_tolerance.proofs.RecordedTimes.{frame_range}
use Rattle.receiver_core.specs.declared.message.Message.{Message}
use Rattle.receiver_core.specs.declared.message.Message.TheVariants as message
use Rattle.receiver_core.specs.SpcTraces.{IsOfSpc, IsSpcTrace, spc_message_in}
use Rattle.receiver_core.specs.Traces.{numbered}
use Rattle.sim_base.specs.declared.sim_fault.SimFault.{SimFault}
use Rattle.sim_base.specs.declared.sim_fault.SimFault.TheVariants as fault
use Rattle.sim_base.specs.Outcomes.{Outcome, Sent, Refused}
use Rattle.sim_base.specs.Recordings.{edge_at, opening_of, recorded_at, recorded_by}
use Rattle.sim_base.specs.Runs.{HasRun, NotYet, OneMore}
use Rattle.sim_base.specs.FittingNibbles.{are_nibbles, fits_nibbles}
use Rattle.spc_sim.specs.SpcSims.{answer_next, answer_sent, answer_words, behind_transaction, edges_sent, falls_in, fits_answer, fits_code, next_sent, next_trigger, own_count, past_answer, past_trigger, silent_next, spc_next, started, transaction_edges, trigger_sent, trigger_words}
use Rattle.spc_sim.specs.SpcStates.{SpcState, trigger_at}
use Rattle.sim_base.specs.Wobbles.{behind_word, past, word, words}
use Rattle.sim_base.proofs.OrderlyEdges.{last_time, orderly-in_order, so_far-orderly}
use Rattle.sim_base.proofs.RecordedTimes.{are_recorded, length-words, recorded-near}
use Rattle.sim_base.proofs.FittingNibbles.{are-nibbles, both}
use Rattle.spc_sim.proofs.SpcEdges.{AllRecordedAs, IsReady, all-recorded, edges_at, opening-ready, recorded-append, transaction-ready, transaction-recorded}
use Rattle.spc_sim.proofs.SpcTimes.{answer-is_sent, trigger-is_sent}

-- ---- trains
-- the last of these transactions ends before this time
abbrev EndBefore : Settings → ℕ → List Transaction → Type 0
EndBefore s next [] = Unit {0}
EndBefore s next (t ∷ []) = ends_at s t < next
EndBefore s next (t ∷ other ∷ train) = EndBefore s next (other ∷ train)

train-push : (s : Settings) (train : List Transaction) (t : Transaction) → IsTrain s train → EndBefore s (trigger_in t).fall train → IsSent s t → IsTrain s (train ++ t ∷ [])
train-push s [] t sent ends is_sent = (is_sent, tt, tt)
train-push s (first ∷ []) t sent ends is_sent = (sent.0, ends, (is_sent, tt, tt))
train-push s (first ∷ other ∷ train) t sent ends is_sent = (sent.0, sent.1, train-push s (other ∷ train) t sent.2 ends is_sent)

end-push : (s : Settings) (next : ℕ) (train : List Transaction) (t : Transaction) → ends_at s t < next → EndBefore s next (train ++ t ∷ [])
end-push s next [] t ends = ends
end-push s next (first ∷ []) t ends = ends
end-push s next (first ∷ other ∷ train) t ends = end-push s next (other ∷ train) t ends

next-later : (s : Settings) (t : Transaction) → 1 ≤ s.sent.tick → ends_at s t < next_trigger s t
unfolding next_trigger
next-later s (Answered trigger answer) some = omega arith
next-later s (Unanswered trigger) some = omega arith

ideal-push : (s : Settings) (train : List Transaction) (t : Transaction) → ideal_edges s (train ++ t ∷ []) ≡ ideal_edges s train ++ ideal_sent s t
ideal-push s [] t = append-nil (ideal_sent s t)
ideal-push s (first ∷ train) t = ap (λ l. ideal_sent s first ++ l) (ideal-push s train t) ∙ sym (append_assoc (ideal_sent s first) (ideal_edges s train) (ideal_sent s t))

-- ---- edges
-- the edges of these transactions, behind which the next trigger falls at this time
record TrainSent (line : ℕ) (s : Settings) (next : ℕ) (train : List Transaction) (edges : List Edge) : Type 0 where
  pub ready : IsReady s line edges next
  pub first : ℕ
  pub rest : List Edge
  pub edges_are : edges ≡ edge_at line 0 true ∷ edge_at line first false ∷ rest
  pub recorded : AllRecordedAs s (ideal_edges s train) (edge_at line first false ∷ rest)
  pub ends : EndBefore s next train

-- the edges of these transactions; none where none was sent
abbrev EdgesSent : ℕ → Settings → Option ℕ → List Transaction → List Edge → Type 0
EdgesSent line s None train edges = (train ≡ []) × (edges ≡ [])
EdgesSent line s (Some next) train edges = TrainSent line s next train edges

module _ (line : ℕ) (s : Settings) (range : InRange s.sent.tick s.sent.jitter s.sent.nibbles) where
  -- the edges of one transaction more
  abbrev new_edges : Option ℕ → Transaction → ℕ → ℕ → List ℕ → List Edge
  new_edges next t first second drawn =
      opening_of line true next ++ edges_at line (4 * s.sent.tick) (recorded_at s.sent.jitter (trigger_in t).fall first) (recorded_at s.sent.jitter (trigger_in t).rise second) (recorded_by s.sent.jitter (falls_in s t) drawn)

  edges-push : (next : Option ℕ) (train : List Transaction) (edges : List Edge) (t : Transaction) (first second : ℕ) (drawn : List ℕ) → EdgesSent line s next train edges → IsSent s t → (trigger_in t).fall ≡ trigger_at s next
      → ends_at s t ≤ 9 * 10 ^ 17 → length drawn ≡ length (falls_in s t) → TrainSent line s (next_trigger s t) (train ++ t ∷ []) (edges ++ new_edges next t first second drawn)
  edges-push None train edges t first second drawn none is_sent fall_is in_time as_many =
      let at_fall = recorded-near s.sent.jitter (trigger_in t).fall first range.jitter_low in
      let at_rise = recorded-near s.sent.jitter (trigger_in t).rise second range.jitter_low in
      let recorded = transaction-recorded s line (4 * s.sent.tick) t (recorded_at s.sent.jitter (trigger_in t).fall first) (recorded_at s.sent.jitter (trigger_in t).rise second) (recorded_by s.sent.jitter (falls_in s t) drawn)
      at_fall at_rise (are_recorded s.sent.jitter (falls_in s t) drawn range.jitter_low as_many) in
      let new = edges_at line (4 * s.sent.tick) (recorded_at s.sent.jitter (trigger_in t).fall first) (recorded_at s.sent.jitter (trigger_in t).rise second) (recorded_by s.sent.jitter (falls_in s t) drawn) in
      let sent : TrainSent line s (next_trigger s t) (t ∷ []) (edge_at line 0 true ∷ new) = record {
        ready = transaction-ready s line range (edge_at line 0 true ∷ []) (trigger_at s None) (opening-ready s line range) t first second drawn is_sent fall_is in_time as_many;
        first = recorded_at s.sent.jitter (trigger_in t).fall first;
        rest = drop 1 new;
        edges_are = refl;
        recorded = subst (λ l. AllRecordedAs s l new) (sym (append-nil (ideal_sent s t))) recorded;
        ends = next-later s t (omega arith);
      } in
      subst (λ (l : List Edge). TrainSent line s (next_trigger s t) (train ++ t ∷ []) (l ++ new_edges None t first second drawn)) (sym none.1)
      (subst (λ (l : List Transaction). TrainSent line s (next_trigger s t) (l ++ t ∷ []) (edge_at line 0 true ∷ new)) (sym none.0) sent)
  edges-push (Some next) train edges t first second drawn sent is_sent fall_is in_time as_many =
      let at_fall = recorded-near s.sent.jitter (trigger_in t).fall first range.jitter_low in
      let at_rise = recorded-near s.sent.jitter (trigger_in t).rise second range.jitter_low in
      let recorded = transaction-recorded s line (4 * s.sent.tick) t (recorded_at s.sent.jitter (trigger_in t).fall first) (recorded_at s.sent.jitter (trigger_in t).rise second) (recorded_by s.sent.jitter (falls_in s t) drawn)
      at_fall at_rise (are_recorded s.sent.jitter (falls_in s t) drawn range.jitter_low as_many) in
      let new = edges_at line (4 * s.sent.tick) (recorded_at s.sent.jitter (trigger_in t).fall first) (recorded_at s.sent.jitter (trigger_in t).rise second) (recorded_by s.sent.jitter (falls_in s t) drawn) in
      let later = edge_at line sent.first false ∷ sent.rest in
      let time : last_time 0 later ≡ sent.ready.time = ap (last_time 0) (sym sent.edges_are) ∙ sent.ready.so_far.time_is in
      let quiet : IsQuiet s (last_time 0 later) (trigger_in t).fall = subst (λ f. IsQuiet s (last_time 0 later) f) (sym fall_is) (subst (λ u. IsQuiet s u next) (sym time) sent.ready.quiet) in
      record {
        ready = transaction-ready s line range edges next sent.ready t first second drawn is_sent fall_is in_time as_many;
        first = sent.first;
        rest = sent.rest ++ new;
        edges_are = ap (λ l. l ++ new) sent.edges_are;
        recorded = subst (λ l. AllRecordedAs s l (later ++ new)) (sym (ideal-push s train t)) (recorded-append s 0 (ideal_edges s train) (ideal_sent s t) later new sent.recorded recorded quiet);
        ends = end-push s (next_trigger s t) train t (next-later s t (omega arith));
      }

  -- the train so far ends before the next trigger
  ends-before : (next : Option ℕ) (train : List Transaction) (edges : List Edge) → EdgesSent line s next train edges → EndBefore s (trigger_at s next) train
  ends-before None train edges none = subst (λ (l : List Transaction). EndBefore s (trigger_at s None) l) (sym none.0) tt
  ends-before (Some next) train edges sent = sent.ends

-- ---- what holds of a simulator that has accepted these messages and sent these edges
record SpcKeeps (first state : SpcState) (messages : List Message) (edges : List Edge) : Type 0 where
  pub line_is : state.line ≡ first.line
  pub setup_is : state.setup ≡ first.setup
  pub accepted : fault_of state.setup.sent state.setup.windows state.setup.delay state.setup.quiet ≡ None
  pub in_range : InRange state.setup.sent.tick state.setup.sent.jitter state.setup.sent.nibbles
  pub all_sent : All IsOfSpc messages
  pub train : List Transaction
  pub says : map message_of train ≡ flat_map spc_message_in messages
  pub is_train : IsTrain state.setup train
  pub edges_sent : EdgesSent state.line state.setup state.next train edges

keeps-started : (line : ℕ) (s : Settings) → fault_of s.sent s.windows s.delay s.quiet ≡ None → InRange s.sent.tick s.sent.jitter s.sent.nibbles → SpcKeeps (started line s) (started line s) [] []
keeps-started line s accepted range = record {
  line_is = refl;
  setup_is = refl;
  accepted = accepted;
  in_range = range;
  all_sent = All-nil IsOfSpc;
  train = [];
  says = refl;
  is_train = tt;
  edges_sent = (refl, refl);
}

keeps-transaction : (first state : SpcState) (messages : List Message) (edges : List Edge) (m : Message) (t : Transaction) (one other : ℕ) (drawn : List ℕ) → SpcKeeps first state messages edges → IsOfSpc m
    → spc_message_in m ≡ message_of t ∷ [] → IsSent state.setup t → (trigger_in t).fall ≡ trigger_at state.setup state.next → ends_at state.setup t ≤ 9 * 10 ^ 17 → length drawn ≡ length (falls_in state.setup t)
    → SpcKeeps first (behind_transaction state t) (messages ++ m ∷ []) (edges ++ transaction_edges state t one other drawn)
unfolding transaction_edges
keeps-transaction first state messages edges m t one other drawn keeps is_of says is_sent fall_is in_time as_many =
    let s = state.setup in
    let said : flat_map spc_message_in (messages ++ m ∷ []) ≡ flat_map spc_message_in messages ++ message_of t ∷ [] = flat_map-append spc_message_in messages (m ∷ []) ∙ ap (λ l. flat_map spc_message_in messages ++ (l ++ [])) says in
    record {
      line_is = keeps.line_is;
      setup_is = keeps.setup_is;
      accepted = keeps.accepted;
      in_range = keeps.in_range;
      all_sent = All-push IsOfSpc messages m keeps.all_sent is_of;
      train = keeps.train ++ t ∷ [];
      says = map-append message_of keeps.train (t ∷ []) ∙ ap (λ l. l ++ message_of t ∷ []) keeps.says ∙ sym said;
      is_train = train-push s keeps.train t keeps.is_train (subst (λ f. EndBefore s f keeps.train) (sym fall_is) (ends-before state.line s keeps.in_range state.next keeps.train edges keeps.edges_sent)) is_sent;
      edges_sent = edges-push state.line s keeps.in_range state.next keeps.train edges t one other drawn keeps.edges_sent is_sent fall_is in_time as_many;
    }

-- ---- whatever becomes of a message
sent-same : {edges edges' : List Edge} {state state' : SpcState} {g g' : Lcg} → Sent edges state g ≡ Sent edges' state' g' → (edges ≡ edges') × (state ≡ state')
sent-same same = (cc, cc)

refused-not : {refused : SimFault} {edges : List Edge} {state state' : SpcState} {g g' : Lcg} {X : Type 0} → Refused refused state g ≡ Sent edges state' g' → X
refused-not same = absurd cc

-- a transaction is sent, or it ends too late
abbrev by_late : SpcState → Transaction → Lcg → Bool → Outcome SpcState
by_late state t g late =
    if late then Refused fault.Late state g
    else Sent (transaction_edges state t (word g) (word (behind_word g)) (words (length (falls_in state.setup t)) (behind_word (behind_word g)))) (behind_transaction state t) (past (length (falls_in state.setup t)) (behind_word (behind_word g)))

module _ (first state : SpcState) (messages : List Message) (edges : List Edge) (keeps : SpcKeeps first state messages edges) (more : List Edge) (behind : SpcState) (later : Lcg) where
  abbrev Goes : Message → Type 0
  Goes m = SpcKeeps first behind (messages ++ m ∷ []) (edges ++ more)

  goes : (m : Message) (now : List Edge) (next : SpcState) (g : Lcg) → SpcKeeps first next (messages ++ m ∷ []) (edges ++ now) → Sent now next g ≡ Sent more behind later → Goes m
  goes m now next g holds same =
      let parts = sent-same same in
      subst (λ s. SpcKeeps first s (messages ++ m ∷ []) (edges ++ more)) parts.1 (subst (λ l. SpcKeeps first next (messages ++ m ∷ []) (edges ++ l)) parts.0 holds)

  transaction-late : (m : Message) (t : Transaction) (g : Lcg) → IsOfSpc m → spc_message_in m ≡ message_of t ∷ [] → IsSent state.setup t → (trigger_in t).fall ≡ trigger_at state.setup state.next
      → (late : Bool) → ltb (9 * 10 ^ 17) (ends_at state.setup t) ≡ late → by_late state t g late ≡ Sent more behind later → Goes m
  transaction-late m t g is_of says is_sent fall_is true late same = refused-not same
  transaction-late m t g is_of says is_sent fall_is false late same =
      let count = length (falls_in state.setup t) in
      let drawn = behind_word (behind_word g) in
      goes m (transaction_edges state t (word g) (word (behind_word g)) (words count drawn)) (behind_transaction state t) (past count drawn)
      (keeps-transaction first state messages edges m t (word g) (word (behind_word g)) (words count drawn) keeps is_of says is_sent fall_is (ltb-false (9 * 10 ^ 17) (ends_at state.setup t) late) (length-words count drawn)) same

  transaction-step : (m : Message) (t : Transaction) (g : Lcg) → IsOfSpc m → spc_message_in m ≡ message_of t ∷ [] → IsSent state.setup t → (trigger_in t).fall ≡ trigger_at state.setup state.next → edges_sent state t g ≡ Sent more behind later → Goes m
  unfolding edges_sent
  transaction-step m t g is_of says is_sent fall_is same = transaction-late m t g is_of says is_sent fall_is (ltb (9 * 10 ^ 17) (ends_at state.setup t)) refl same

  -- an answer that fits
  answer-fits : (frame : SentFrame) → (fits_nibbles state.setup.sent frame.nibbles && ltb frame.status 16) ≡ true → FitsSetup state.setup frame
  answer-fits frame fits =
      let parts = both (fits_nibbles state.setup.sent frame.nibbles) (ltb frame.status 16) fits in
      let nibbles = both (eqb (length frame.nibbles) state.setup.sent.nibbles) (are_nibbles frame.nibbles) parts.0 in
      record { status = ltb-true frame.status 16 parts.1; as_many = eqb-true (length frame.nibbles) state.setup.sent.nibbles nibbles.0; nibbles = are-nibbles frame.nibbles nibbles.1 }

  answer-step : (code : ℕ) (frame : SentFrame) (g : Lcg) (fits : Bool) → fits_answer state.setup code frame ≡ fits → (if fits then answer_next state code frame g else Refused fault.Range state g) ≡ Sent more behind later → Goes (message.Answer code frame)
  unfolding answer_next answer_words trigger_sent answer_sent
  answer-step code frame g false fits same = refused-not same
  answer-step code frame g true fits same =
      let parts = both (fits_code state.setup code) (fits_nibbles state.setup.sent frame.nibbles && ltb frame.status 16) fits in
      let trigger = next_sent state code g in
      let drawn = answer_words state.setup (past_trigger g) in
      transaction-step (message.Answer code frame) (Answered trigger (answer_sent state.setup trigger frame (trigger_words g).tick drawn)) (past_answer state.setup (past_trigger g)) tt refl
      (record {
        trigger = trigger-is_sent state.setup keeps.accepted keeps.in_range (trigger_at state.setup state.next) code (trigger_words g) (ltb-true code (length state.setup.windows) parts.0);
        answer = answer-is_sent state.setup keeps.accepted keeps.in_range trigger frame (trigger_words g).tick drawn (answer-fits frame parts.1) (length-words (own_count state.setup) (behind_word (past_trigger g)));
      }) refl same

  silent-step : (code : ℕ) (g : Lcg) (fits : Bool) → fits_code state.setup code ≡ fits → (if fits then silent_next state code g else Refused fault.Range state g) ≡ Sent more behind later → Goes (message.Silent code)
  unfolding silent_next trigger_sent
  silent-step code g false fits same = refused-not same
  silent-step code g true fits same =
      transaction-step (message.Silent code) (Unanswered (next_sent state code g)) (past_trigger g) tt refl
      (record { trigger = trigger-is_sent state.setup keeps.accepted keeps.in_range (trigger_at state.setup state.next) code (trigger_words g) (ltb-true code (length state.setup.windows) fits); answer = tt }) refl same

  keeps-next : (m : Message) (g : Lcg) → spc_next state m g ≡ Sent more behind later → SpcKeeps first behind (messages ++ m ∷ []) (edges ++ more)
  unfolding spc_next
  keeps-next (message.Frame frame) g same = refused-not same
  keeps-next (message.Short id value) g same = refused-not same
  keeps-next (message.Enhanced id value wide) g same = refused-not same
  keeps-next (message.Answer code frame) g same = answer-step code frame g (fits_answer state.setup code frame) refl same
  keeps-next (message.Silent code) g same = silent-step code g (fits_code state.setup code) refl same
  keeps-next message.Sync g same = refused-not same
  keeps-next (message.Burst slot payload) g same = refused-not same
  keeps-next (message.Down down) g same = refused-not same

-- each simulator that has run
keeps-run : (line : ℕ) (s : Settings) → fault_of s.sent s.windows s.delay s.quiet ≡ None → InRange s.sent.tick s.sent.jitter s.sent.nibbles → (state : SpcState) (messages : List Message) (edges : List Edge)
    → HasRun SpcState spc_next (started line s) state messages edges → SpcKeeps (started line s) state messages edges
keeps-run line s accepted range _ _ _ NotYet = keeps-started line s accepted range
keeps-run line s accepted range _ _ _ (OneMore {state} {behind} {messages} {edges} {more} run m g later same) =
    keeps-next (started line s) state messages edges (keeps-run line s accepted range state messages edges run) more behind later m g same

-- ---- so its edges are honest and orderly
opens-anywhere : (jitter : ℕ) (edges : List NumberedEdge) → OpensBehind jitter edges []
opens-anywhere jitter [] = tt
opens-anywhere jitter (opening ∷ edges) = tt

edges-recorded : (line : ℕ) (s : Settings) (next : Option ℕ) (train : List Transaction) (edges : List Edge) → EdgesSent line s next train edges → AreRecordedAs s (ideal_edges s train) (drop 1 (numbered 0 edges))
unfolding numbered
edges-recorded line s None train edges none =
    subst (λ (l : List Transaction). AreRecordedAs s (ideal_edges s l) (drop 1 (numbered 0 edges))) (sym none.0) (subst (λ (l : List Edge). AreRecordedAs s [] (drop 1 (numbered 0 l))) (sym none.1) tt)
edges-recorded line s (Some next) train edges sent =
    subst (λ (l : List Edge). AreRecordedAs s (ideal_edges s train) (drop 1 (numbered 0 l))) (sym sent.edges_are)
    (all-recorded s (0 + 1) (ideal_edges s train) (edge_at line sent.first false ∷ sent.rest) sent.recorded)

edges-opposite : (line : ℕ) (s : Settings) (next : Option ℕ) (train : List Transaction) (edges : List Edge) → EdgesSent line s next train edges → OpensOpposite (numbered 0 edges)
unfolding numbered
edges-opposite line s None train edges none = subst (λ (l : List Edge). OpensOpposite (numbered 0 l)) (sym none.1) tt
edges-opposite line s (Some next) train edges sent = subst (λ (l : List Edge). OpensOpposite (numbered 0 l)) (sym sent.edges_are) (λ e. false≢true (sym e))

edges-orderly : (line : ℕ) (s : Settings) (next : Option ℕ) (train : List Transaction) (edges : List Edge) → EdgesSent line s next train edges → IsOrderly (line ∷ []) (map item.Edge edges)
edges-orderly line s None train edges none = subst (λ (l : List Edge). IsOrderly (line ∷ []) (map item.Edge l)) (sym none.1) (IsOrderly-nil (line ∷ []))
edges-orderly line s (Some next) train edges sent = so_far-orderly (line ∷ []) edges sent.ready.time sent.ready.levels sent.ready.so_far

in_order : (line : ℕ) (edges : List Edge) → IsOrderly (line ∷ []) (map item.Edge edges) → AreInOrder (numbered 0 edges)
unfolding IsOrderly
in_order line edges orderly = orderly-in_order (line ∷ []) 0 0 0 (λ _. None) edges orderly

keeps-honest : (first state : SpcState) (messages : List Message) (edges : List Edge) → frame.fault_of state.setup.sent.tick state.setup.sent.jitter state.setup.sent.nibbles ≡ None → SpcKeeps first state messages edges
    → IsSpcTrace state.setup messages (numbered 0 edges)
keeps-honest first state messages edges accepted keeps =
    let s = state.setup in
    let orderly = edges-orderly state.line s state.next keeps.train edges keeps.edges_sent in
    record {
      all_sent = keeps.all_sent;
      honest = record {
        accepted = keeps.accepted;
        accepted_frame = accepted;
        train = keeps.train;
        says = keeps.says;
        sent = keeps.is_train;
        left_out = 0;
        recorded = edges-recorded state.line s state.next keeps.train edges keeps.edges_sent;
        opens = opens-anywhere s.sent.jitter (numbered 0 edges);
        opposite = edges-opposite state.line s state.next keeps.train edges keeps.edges_sent;
        in_order = in_order state.line edges orderly;
      };
    }

-- ---- of each simulator that has run
pub run-honest : (line : ℕ) (s : Settings) (state : SpcState) (messages : List Message) (edges : List Edge) → fault_of s.sent s.windows s.delay s.quiet ≡ None → frame.fault_of s.sent.tick s.sent.jitter s.sent.nibbles ≡ None
    → HasRun SpcState spc_next (started line s) state messages edges → IsSpcTrace s messages (numbered 0 edges)
run-honest line s state messages edges accepted frame_accepted run =
    let keeps = keeps-run line s accepted (frame_range s.sent.tick s.sent.jitter s.sent.nibbles frame_accepted) state messages edges run in
    let frame_accepted' : frame.fault_of state.setup.sent.tick state.setup.sent.jitter state.setup.sent.nibbles ≡ None = ap (λ (t : Settings). frame.fault_of t.sent.tick t.sent.jitter t.sent.nibbles) keeps.setup_is ∙ frame_accepted in
    subst (λ (t : Settings). IsSpcTrace t messages (numbered 0 edges)) keeps.setup_is (keeps-honest (started line s) state messages edges frame_accepted' keeps)

pub run-orderly : (line : ℕ) (s : Settings) (state : SpcState) (messages : List Message) (edges : List Edge) → fault_of s.sent s.windows s.delay s.quiet ≡ None → frame.fault_of s.sent.tick s.sent.jitter s.sent.nibbles ≡ None
    → HasRun SpcState spc_next (started line s) state messages edges → IsOrderly (line ∷ []) (map item.Edge edges)
run-orderly line s state messages edges accepted frame_accepted run =
    let keeps = keeps-run line s accepted (frame_range s.sent.tick s.sent.jitter s.sent.nibbles frame_accepted) state messages edges run in
    subst (λ l. IsOrderly (l ∷ []) (map item.Edge edges)) keeps.line_is (edges-orderly state.line state.setup state.next keeps.train edges keeps.edges_sent)

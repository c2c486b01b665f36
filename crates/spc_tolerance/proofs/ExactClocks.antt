-- What an exact clock records is an honest trace.
--     answer_spaced, train_spaced      each ideal edge comes behind the one before
--     exact_recorded, exact_order      so they are recorded, in order
--     exact_honest                     and the trace is honest
use Rattle.std.proofs.Common.{◌≡◌, ℕ, suc, ◌+◌, ◌*◌, ◌/◌, ◌≤◌, None, true, false, List, [], ◌∷◌, ◌++◌, map, refl, arith}
use Rattle.std.proofs.lemmas.Nat.{mul-le}
use Rattle.std.proofs.lemmas.List.Elements.{All-head, All-tail}
use Rattle.std.specs.List.{All}
use Rattle.line_base.specs.Edges.{NumberedEdge}
use Rattle.sent_frame.specs.Setup as frame
use Rattle.spc_link.specs.Setup.{Settings, fault_of}
use Rattle.link_tolerance.specs.Recorded.{IsRecorded}
use Rattle.link_tolerance.specs.Ticks.{IsOwnTick, IsTick}
use Rattle.spc_tolerance.specs.Trains.{AnswerFall, AnswerRise, Answered, IdealEdge, IsAnswerSent, IsSent, IsTrain, SentAnswer, Transaction, Trigger, TriggerFall, TriggerRise, Unanswered, answer_edges, answer_falls, edges_in_answer, ideal_edges, last_of, trigger_in, values_in}
use Rattle.link_tolerance.specs.Pulses.{falls_behind, lengths_of}
use Rattle.spc_tolerance.specs.Traces.{AreInOrder, AreRecordedAs, IsHonest, KeepsQuiet, OpensOpposite}
use Rattle.spc_tolerance.specs.Nominal.{KeepsQuietTimes, exact_edge, exact_edges, exact_trace, quiet_behind, rests_at}
use Rattle.spc_tolerance.proofs.RecordedTimes.{frame_range}
use Rattle.spc_tolerance.proofs.EdgeCounts.{messages_of}

-- each of these ideal edges comes behind the one before, which is at this time; a trigger's fall keeps the quiet time
abbrev pub AreSpaced : Settings → ℕ → List IdealEdge → Type 0
AreSpaced s before [] = Unit {0}
AreSpaced s before (TriggerFall time ∷ ideals) = (quiet_behind s before ≤ time) × AreSpaced s time ideals
AreSpaced s before (TriggerRise time ∷ ideals) = (before ≤ time) × AreSpaced s time ideals
AreSpaced s before (AnswerFall time ∷ ideals) = (before ≤ time) × AreSpaced s time ideals
AreSpaced s before (AnswerRise ∷ ideals) = AreSpaced s (before + 4000 * s.sent.tick) ideals

-- ---- what is sent is spaced
value_spaced : (s : Settings) (last tick own value : ℕ) → IsTick s.sent.tick tick → IsOwnTick tick own → last + 4000 * s.sent.tick ≤ last + (12 + value) * own
value_spaced s last tick own value is_tick is_own = omega (arith, mul-le 12 own (12 + value) own (omega arith) (omega arith))

values_spaced : (s : Settings) (tick : ℕ) → IsTick s.sent.tick tick → (values own : List ℕ) (last : ℕ) (more : List IdealEdge) → All (IsOwnTick tick) own
    → AreSpaced s (last_of last (falls_behind last (lengths_of (map (λ value. 12 + value) values) own)) + 4000 * s.sent.tick) more
    → AreSpaced s (last + 4000 * s.sent.tick) (answer_edges (falls_behind last (lengths_of (map (λ value. 12 + value) values) own)) ++ more)
unfolding falls_behind
values_spaced s tick is_tick [] own last more are_own spaced = spaced
values_spaced s tick is_tick (value ∷ values) [] last more are_own spaced = spaced
values_spaced s tick is_tick (value ∷ values) (own ∷ owns) last more are_own spaced = (
  value_spaced s last tick own value is_tick (All-head (IsOwnTick tick) own owns are_own),
  values_spaced s tick is_tick values owns (last + (12 + value) * own) more (All-tail (IsOwnTick tick) own owns are_own) spaced,
)

pub answer_spaced : (s : Settings) (trigger : Trigger) (answer : SentAnswer) → 1 ≤ s.sent.jitter → IsAnswerSent s trigger answer → (more : List IdealEdge) → AreSpaced s (rests_at s (Answered trigger answer)) more
    → AreSpaced s trigger.rise (answer_edges (answer_falls s answer) ++ more)
unfolding falls_behind
answer_spaced s trigger answer some sent more spaced =
    let delay = sent.delay in
    let tick = sent.tick in
    (omega arith, (omega arith, values_spaced s answer.tick sent.tick (values_in s answer.frame) answer.own_ticks (answer.start + 56 * answer.tick) more sent.own_ticks spaced))

in_answer_spaced : (s : Settings) (t : Transaction) → 1 ≤ s.sent.jitter → IsSent s t → (more : List IdealEdge) → AreSpaced s (rests_at s t) more → AreSpaced s (trigger_in t).rise (edges_in_answer s t ++ more)
in_answer_spaced s (Answered trigger answer) some sent more spaced = answer_spaced s trigger answer some sent.answer more spaced
in_answer_spaced s (Unanswered trigger) some sent more spaced = spaced

pub train_spaced : (s : Settings) → 1 ≤ s.sent.jitter → (t : Transaction) (train : List Transaction) → IsTrain s (t ∷ train) → KeepsQuietTimes s (t ∷ train) → AreSpaced s (trigger_in t).fall (TriggerRise (trigger_in t).rise ∷ (edges_in_answer s t ++ ideal_edges s train))
train_spaced s some t [] sent quiet =
    let width = sent.0.trigger.width in
    (omega arith, in_answer_spaced s t some sent.0 [] tt)
train_spaced s some t (next ∷ train) sent quiet =
    let width = sent.0.trigger.width in
    (omega arith, in_answer_spaced s t some sent.0 (ideal_edges s (next ∷ train)) (quiet.0, train_spaced s some next train sent.2 quiet.1))

-- ---- what is spaced is recorded
exact_time : (jitter time : ℕ) → 1 ≤ jitter → IsRecorded jitter time (time / 1000)
exact_time jitter time some = record { not_too_early = omega arith; not_too_late = omega arith }

exact_quiet : (s : Settings) (before : ℕ) (ideals : List IdealEdge) → AreSpaced s before ideals → KeepsQuiet s (before / 1000) ideals
exact_quiet s before [] spaced = tt
exact_quiet s before (TriggerFall time ∷ ideals) spaced = let quiet = spaced.0 in record { quiet = omega arith }
exact_quiet s before (TriggerRise time ∷ ideals) spaced = tt
exact_quiet s before (AnswerFall time ∷ ideals) spaced = tt
exact_quiet s before (AnswerRise ∷ ideals) spaced = tt

pub exact_recorded : (s : Settings) → 1 ≤ s.sent.jitter → (number before : ℕ) (ideals : List IdealEdge) → AreSpaced s before ideals → AreRecordedAs s ideals (exact_edges s.sent.tick number before ideals)
unfolding exact_edges
exact_recorded s some number before [] spaced = tt
exact_recorded s some number before (TriggerFall time ∷ ideals) spaced = ((refl, exact_time s.sent.jitter time some), exact_quiet s time ideals spaced.1, exact_recorded s some (suc number) time ideals spaced.1)
exact_recorded s some number before (TriggerRise time ∷ ideals) spaced = ((refl, exact_time s.sent.jitter time some), exact_quiet s time ideals spaced.1, exact_recorded s some (suc number) time ideals spaced.1)
exact_recorded s some number before (AnswerFall time ∷ ideals) spaced = ((refl, exact_time s.sent.jitter time some), exact_quiet s time ideals spaced.1, exact_recorded s some (suc number) time ideals spaced.1)
exact_recorded s some number before (AnswerRise ∷ ideals) spaced =
    (refl, exact_quiet s (before + 4000 * s.sent.tick) ideals spaced, exact_recorded s some (suc number) (before + 4000 * s.sent.tick) ideals spaced)

pub exact_order : (s : Settings) (first : NumberedEdge) (number before : ℕ) (ideals : List IdealEdge) → first.edge.time ≤ before / 1000 → AreSpaced s before ideals → AreInOrder (first ∷ exact_edges s.sent.tick number before ideals)
unfolding exact_edges
exact_order s first number before [] there spaced = tt
exact_order s first number before (TriggerFall time ∷ ideals) there spaced = let quiet = spaced.0 in (omega arith, exact_order s (exact_edge number false time) (suc number) time ideals (omega arith) spaced.1)
exact_order s first number before (TriggerRise time ∷ ideals) there spaced = let later = spaced.0 in (omega arith, exact_order s (exact_edge number true time) (suc number) time ideals (omega arith) spaced.1)
exact_order s first number before (AnswerFall time ∷ ideals) there spaced = let later = spaced.0 in (omega arith, exact_order s (exact_edge number false time) (suc number) time ideals (omega arith) spaced.1)
exact_order s first number before (AnswerRise ∷ ideals) there spaced =
    (omega arith, exact_order s (exact_edge number true (before + 4000 * s.sent.tick)) (suc number) (before + 4000 * s.sent.tick) ideals (omega arith) spaced)

-- ---- an honest trace
trace_recorded : (s : Settings) → 1 ≤ s.sent.jitter → (train : List Transaction) → IsTrain s train → KeepsQuietTimes s train → AreRecordedAs s (ideal_edges s train) (exact_edges s.sent.tick 1 0 (ideal_edges s train))
unfolding exact_edges
trace_recorded s some [] sent quiet = tt
trace_recorded s some (t ∷ train) sent quiet = (
  (refl, exact_time s.sent.jitter (trigger_in t).fall some),
  tt,
  exact_recorded s some 2 (trigger_in t).fall (TriggerRise (trigger_in t).rise ∷ (edges_in_answer s t ++ ideal_edges s train)) (train_spaced s some t train sent quiet),
)

trace_order : (s : Settings) → 1 ≤ s.sent.jitter → (train : List Transaction) → IsTrain s train → KeepsQuietTimes s train → AreInOrder (exact_trace s train)
unfolding exact_edges
trace_order s some [] sent quiet = tt
trace_order s some (t ∷ train) sent quiet = (
  omega arith,
  exact_order s (exact_edge 1 false (trigger_in t).fall) 2 (trigger_in t).fall (TriggerRise (trigger_in t).rise ∷ (edges_in_answer s t ++ ideal_edges s train)) (omega arith) (train_spaced s some t train sent quiet),
)

trace_opposite : (s : Settings) (train : List Transaction) → OpensOpposite (exact_trace s train)
unfolding exact_edges
trace_opposite s [] = tt
trace_opposite s (t ∷ train) = λ same. (cc)

pub exact_honest : (s : Settings) (train : List Transaction) → fault_of s.sent s.windows s.delay s.quiet ≡ None → frame.fault_of s.sent.tick s.sent.jitter s.sent.nibbles ≡ None → IsTrain s train → KeepsQuietTimes s train
    → IsHonest s (messages_of train) (exact_trace s train)
exact_honest s train accepted accepted_frame sent quiet =
    let range = frame_range s.sent.tick s.sent.jitter s.sent.nibbles accepted_frame in
    record {
      accepted = accepted;
      accepted_frame = accepted_frame;
      train = train;
      says = refl;
      sent = sent;
      left_out = 0;
      recorded = trace_recorded s range.jitter_low train sent quiet;
      opens = tt;
      opposite = trace_opposite s train;
      in_order = trace_order s range.jitter_low train sent quiet;
    }

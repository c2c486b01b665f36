-- What is read of a transaction.
--     begins_ready        where the edges before it keep quiet, its trigger's fall is after quiet
--     read_one            it is reported where its trigger's fall is after quiet
--     read_none           and passed over where it isn't
--     ready_next          behind it the next one is recorded
--     read_rest           its last edges are passed over where the first ones are left out
use Rattle.std.proofs.Common.{◌≡◌, ℕ, suc, ◌+◌, ◌*◌, ◌<◌, ◌≤◌, List, [], ◌∷◌, ◌++◌, true, false, None, length, drop, take, ap, sym, ◌∙◌, subst, arith}
use Rattle.line_base.specs.Edges.{NumberedEdge}
use Rattle.sent_frame.specs.Setup as frame
use Rattle.sent_frame.specs.Pulses.{falls_in, pulses_after}
use Rattle.sent_frame.specs.Reading.{place_at}
use Rattle.spc_link.specs.declared.step.SpcStep.TheVariants.{Good, NoAnswer}
use Rattle.spc_link.specs.Setup.{Settings, fault_of}
use Rattle.spc_link.specs.Reading.{at_fall, edges_before, found, is_after_quiet, spc_at_end}
use Rattle.link_tolerance.specs.Recorded.{OpensAfter}
use Rattle.spc_tolerance.specs.Trains.{Answered, IdealEdge, IsAnswerSent, IsSent, IsTriggerSent, SentAnswer, Transaction, Trigger, TriggerRise, Unanswered, answer_edges, answer_falls, edges_in_answer, edges_sent, ideal_edges, ideal_times, message_of, pulses_sent, trigger_in}
use Rattle.spc_tolerance.specs.Traces.{AreInOrder, AreRecordedAs}
use Rattle.spc_tolerance.specs.FromFirst.{begins_quietly, edge_count, number_at, step_of}
use Rattle.spc_tolerance.proofs.RecordedTimes.{IsQuietLong, after_quiet, asks_code, delay_soon, fall_passed, lasts_recorded}
use Rattle.spc_tolerance.proofs.EdgeCounts.{length_in_answer, length_pulses, length_sent}
use Rattle.spc_tolerance.proofs.HeardAnswers.{answer_is}
use Rattle.spc_tolerance.proofs.PassedEdges.{AreReady, IsPassable, IsPassing, answer_passable, passing_cut, read_alone, read_passed, ready_behind}
use Rattle.spc_tolerance.proofs.RecordedAnswers.{fall_index, fall_number, pulses_begin}
use Rattle.spc_tolerance.proofs.Steps.{at_answer, at_passed, at_silent, at_trigger, over_edge, over_last, over_report}

-- a setup that is accepted, and its bounds
pub record IsAccepted (s : Settings) : Type 0 where
  pub accepted : fault_of s.sent s.windows s.delay s.quiet ≡ None
  pub range : frame.InRange s.sent.tick s.sent.jitter s.sent.nibbles
  pub quiet : IsQuietLong s

pub begins_ready : (s : Settings) (t : Transaction) (train : List Transaction) (edges : List NumberedEdge) → AreReady s (ideal_edges s (t ∷ train)) edges → begins_quietly s edges ≡ true
begins_ready s t train [] ready = absurd (cc)
begins_ready s t train (before ∷ []) ready = absurd ready.0
begins_ready s t train (before ∷ fall ∷ edges) ready = after_quiet s before.edge.time (trigger_in t).fall fall.edge ready.0.0.0 ready.0.0.1 ready.1

-- ---- an answer
-- its CRC pulse is there
within_answer : (s : Settings) (trigger : Trigger) (answer : SentAnswer) → IsAnswerSent s trigger answer → suc (suc s.sent.nibbles) < length (pulses_sent s answer)
within_answer s trigger answer sent = omega (arith, length_pulses s trigger answer sent)

read_answer : (s : Settings) → IsAccepted s → (trigger : Trigger) (answer : SentAnswer) → IsTriggerSent s trigger → IsAnswerSent s trigger answer → (more : List IdealEdge) (before : NumberedEdge) (edges : List NumberedEdge)
    → AreRecordedAs s (edges_sent s (Answered trigger answer) ++ more) edges → AreInOrder (before ∷ edges) → begins_quietly s (before ∷ edges) ≡ true
    → spc_at_end s (before ∷ edges) ≡ Good (number_at (before ∷ edges) (2 * s.sent.nibbles + 9)) trigger.code answer.frame ∷ spc_at_end s (drop (2 * s.sent.nibbles + 10) (before ∷ edges))
read_answer s ok trigger answer triggers answers more before [] recorded ordered quiet = absurd recorded
read_answer s ok trigger answer triggers answers more before (fall ∷ []) recorded ordered quiet = absurd recorded.2
read_answer s ok trigger answer triggers answers more before (fall ∷ rise ∷ []) recorded ordered quiet = absurd recorded.2.2
read_answer s ok trigger answer triggers answers more before (fall ∷ rise ∷ start ∷ edges) recorded ordered quiet =
    let at_rise = recorded.2.0.1 in
    let at_start = recorded.2.2.0.1 in
    let behind = recorded.2.2.2 in
    let lengths = pulses_sent s answer in
    let last = suc (suc s.sent.nibbles) in
    let pulses = pulses_after start.edge.time (falls_in edges) in
    let front = answer_edges (answer_falls s answer) in
    let some : 1 ≤ s.sent.tick = omega (arith, ok.range.tick_low) in
    let within = within_answer s trigger answer answers in
    let asks = asks_code s trigger fall.edge.time rise.edge.time ok.accepted some triggers recorded.0.1 at_rise in
    let passed = fall_passed s rise.edge.time trigger.rise answer.start start.edge at_rise.not_too_early (delay_soon s trigger.rise answer.start ok.quiet some answers.delay) at_start in
    let inside = lasts_recorded s s.delay trigger.rise answer.start rise.edge.time start.edge.time answers.delay at_rise at_start in
    let stands : found s tt before (fall ∷ rise ∷ start ∷ edges) ≡ at_fall (Good (place_at pulses last) trigger.code answer.frame) last edges =
    at_trigger s before fall rise trigger.code (start ∷ edges) quiet asks
    ∙ at_answer s trigger.code rise start edges passed inside
    ∙ answer_is s ok.range trigger answer answers trigger.code edges pulses (pulses_begin s lengths answer.start start.edge.time more edges at_start behind) in
    let index : edges_before last edges ≡ suc (2 * last) = fall_index s lengths answer.start more last edges within behind in
    let place : place_at pulses last ≡ number_at (before ∷ fall ∷ rise ∷ start ∷ edges) (2 * s.sent.nibbles + 9) =
    fall_number s lengths answer.start start.edge.time more last edges within behind
    ∙ (let e : suc (suc (suc (suc (suc (2 * last))))) ≡ 2 * s.sent.nibbles + 9 = omega arith in ap (number_at (before ∷ fall ∷ rise ∷ start ∷ edges)) e) in
    let passing : IsPassing s rise.edge.time front = record { last = trigger.rise; there = at_rise.not_too_early; passable = answer_passable s trigger answer ok.range ok.quiet answers } in
    let whole : length front ≡ 2 * s.sent.nibbles + 8 = length_in_answer s trigger answer answers in
    let to_last = read_passed s (suc (edges_before last edges)) front more rise (start ∷ edges) (omega (arith, whole, index)) passing recorded.2.2 ordered.1.1 in
    let to_end = read_passed s (length front) front more rise (start ∷ edges) (omega arith) passing recorded.2.2 ordered.1.1 in
    let all : suc (suc (length front)) ≡ 2 * s.sent.nibbles + 10 = omega (arith, whole) in
    over_report s before (fall ∷ rise ∷ start ∷ edges) (Good (place_at pulses last) trigger.code answer.frame) (suc (suc (edges_before last edges))) stands
    ∙ ap (λ rest. Good (place_at pulses last) trigger.code answer.frame ∷ rest) (sym to_last ∙ to_end ∙ ap (λ n. spc_at_end s (drop n (before ∷ fall ∷ rise ∷ start ∷ edges))) all)
    ∙ ap (λ n. Good n trigger.code answer.frame ∷ spc_at_end s (drop (2 * s.sent.nibbles + 10) (before ∷ fall ∷ rise ∷ start ∷ edges))) place

-- ---- a trigger that nobody answers
next_quiet : (s : Settings) (train : List Transaction) (before next : NumberedEdge) (edges : List NumberedEdge) → AreReady s (ideal_edges s train) (before ∷ next ∷ edges) → is_after_quiet s before.edge.time next.edge ≡ true
next_quiet s [] before next edges ready = absurd ready.0
next_quiet s (t ∷ train) before next edges ready = begins_ready s t train (before ∷ next ∷ edges) ready

read_silent : (s : Settings) → IsAccepted s → (trigger : Trigger) → IsTriggerSent s trigger → (train : List Transaction) (before : NumberedEdge) (edges : List NumberedEdge)
    → AreRecordedAs s (edges_sent s (Unanswered trigger) ++ ideal_edges s train) edges → AreInOrder (before ∷ edges) → begins_quietly s (before ∷ edges) ≡ true
    → spc_at_end s (before ∷ edges) ≡ NoAnswer (number_at (before ∷ edges) 2) trigger.code ∷ spc_at_end s (drop 2 (before ∷ edges))
read_silent s ok trigger triggers train before [] recorded ordered quiet = absurd recorded
read_silent s ok trigger triggers train before (fall ∷ []) recorded ordered quiet = absurd recorded.2
read_silent s ok trigger triggers train before (fall ∷ rise ∷ []) recorded ordered quiet =
    let asks = asks_code s trigger fall.edge.time rise.edge.time ok.accepted (omega (arith, ok.range.tick_low)) triggers recorded.0.1 recorded.2.0.1 in
    over_last s before (fall ∷ rise ∷ []) (NoAnswer rise.number trigger.code ∷ []) (at_trigger s before fall rise trigger.code [] quiet asks)
    ∙ ap (λ rest. NoAnswer rise.number trigger.code ∷ rest) (sym (read_alone s rise))
read_silent s ok trigger triggers train before (fall ∷ rise ∷ next ∷ edges) recorded ordered quiet =
    let asks = asks_code s trigger fall.edge.time rise.edge.time ok.accepted (omega (arith, ok.range.tick_low)) triggers recorded.0.1 recorded.2.0.1 in
    let next_one = next_quiet s train rise next edges (ready_behind s (edges_sent s (Unanswered trigger)) (ideal_edges s train) before (fall ∷ rise ∷ next ∷ edges) (omega arith) recorded ordered) in
    over_report s before (fall ∷ rise ∷ next ∷ edges) (NoAnswer rise.number trigger.code) 1
    (at_trigger s before fall rise trigger.code (next ∷ edges) quiet asks ∙ at_silent s trigger.code rise next edges next_one)

-- ---- a transaction
pub read_one : (s : Settings) → IsAccepted s → (t : Transaction) → IsSent s t → (train : List Transaction) (before : NumberedEdge) (edges : List NumberedEdge)
    → AreRecordedAs s (edges_sent s t ++ ideal_edges s train) edges → AreInOrder (before ∷ edges) → begins_quietly s (before ∷ edges) ≡ true
    → spc_at_end s (before ∷ edges) ≡ step_of s (before ∷ edges) (message_of t) ∷ spc_at_end s (drop (edge_count s (message_of t)) (before ∷ edges))
read_one s ok (Answered trigger answer) sent train before edges recorded ordered quiet = read_answer s ok trigger answer sent.trigger sent.answer (ideal_edges s train) before edges recorded ordered quiet
read_one s ok (Unanswered trigger) sent train before edges recorded ordered quiet = read_silent s ok trigger sent.trigger train before edges recorded ordered quiet

passable_in : (s : Settings) → IsAccepted s → (t : Transaction) → IsSent s t → IsPassable s (trigger_in t).rise (edges_in_answer s t)
passable_in s ok (Answered trigger answer) sent = answer_passable s trigger answer ok.range ok.quiet sent.answer
passable_in s ok (Unanswered trigger) sent = tt

-- the next transaction is recorded behind it
pub ready_next : (s : Settings) (t : Transaction) → IsSent s t → (train : List Transaction) (before : NumberedEdge) (edges : List NumberedEdge) → AreRecordedAs s (edges_sent s t ++ ideal_edges s train) edges → AreInOrder (before ∷ edges)
    → AreReady s (ideal_edges s train) (drop (edge_count s (message_of t)) (before ∷ edges))
ready_next s t sent train before edges recorded ordered =
    subst (λ (n : ℕ). AreReady s (ideal_edges s train) (drop n (before ∷ edges))) (length_sent s t sent) (ready_behind s (edges_sent s t) (ideal_edges s train) before edges (omega arith) recorded ordered)

pub read_none : (s : Settings) → IsAccepted s → (t : Transaction) → IsSent s t → (train : List Transaction) (before : NumberedEdge) (edges : List NumberedEdge)
    → AreRecordedAs s (edges_sent s t ++ ideal_edges s train) edges → AreInOrder (before ∷ edges) → begins_quietly s (before ∷ edges) ≡ false
    → spc_at_end s (before ∷ edges) ≡ spc_at_end s (drop (edge_count s (message_of t)) (before ∷ edges))
read_none s ok t sent train before [] recorded ordered passed = absurd recorded
read_none s ok t sent train before (fall ∷ edges) recorded ordered passed =
    let front = TriggerRise (trigger_in t).rise ∷ edges_in_answer s t in
    let passing : IsPassing s fall.edge.time front = record { last = (trigger_in t).fall; there = recorded.0.1.not_too_early; passable = passable_in s ok t sent } in
    over_edge s before (fall ∷ edges) (at_passed s before fall edges passed)
    ∙ read_passed s (length front) front (ideal_edges s train) fall edges (omega arith) passing recorded.2 ordered.1
    ∙ ap (λ n. spc_at_end s (drop n (before ∷ fall ∷ edges))) (length_sent s t sent)

-- the first so many edges are left out
pub read_rest : (s : Settings) → IsAccepted s → (t : Transaction) → IsSent s t → (train : List Transaction) (missing : ℕ) (opening : NumberedEdge) (edges : List NumberedEdge)
    → AreRecordedAs s (drop (suc missing) (edges_sent s t) ++ ideal_edges s train) edges → AreInOrder (opening ∷ edges) → OpensAfter s.sent.jitter opening.edge.time (ideal_times (take (suc missing) (edges_sent s t)))
    → spc_at_end s (opening ∷ edges) ≡ spc_at_end s (drop (length (drop (suc missing) (edges_sent s t))) (opening ∷ edges))
read_rest s ok t sent train missing opening edges recorded ordered opens =
    let cut = drop (suc missing) (edges_sent s t) in
    let passing = passing_cut s (trigger_in t).fall (TriggerRise (trigger_in t).rise ∷ edges_in_answer s t) missing opening.edge.time (passable_in s ok t sent) opens in
    read_passed s (length cut) cut (ideal_edges s train) opening edges (omega arith) passing recorded ordered

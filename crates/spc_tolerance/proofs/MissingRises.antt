-- The last rise of an honest trace may be missing, where it is in an answer.
--     train_answers       the last ideal edge is in an answer, where the last message is one
--     without_rise        it may be missing
--     honest_without      so the trace is still honest
use Rattle.std.proofs.Common.{◌≡◌, ℕ, zero, suc, List, [], ◌∷◌, ◌++◌, true, drop}
use Rattle.line_base.specs.Edges.{NumberedEdge}
use Rattle.sent_frame.specs.declared.frame.SentFrame.{SentFrame}
use Rattle.spc_link.specs.Setup.{Settings}
use Rattle.spc_tolerance.specs.Trains.{Answer, AnswerFall, AnswerRise, Answered, IdealEdge, SpcMessage, Transaction, TriggerFall, TriggerRise, Unanswered, answer_edges, edges_sent, ideal_edges, message_of, pulses_sent}
use Rattle.link_tolerance.specs.Pulses.{falls_behind}
use Rattle.spc_tolerance.specs.Traces.{AreInOrder, AreRecordedAs, IsHonest, OpensBehind, OpensOpposite}
use Rattle.spc_tolerance.proofs.EdgeCounts.{AreAlternating, alternate_behind, alternate_cut, first_level, messages_of, train-alternates}

-- ---- what is sent
-- the last of these ideal edges, where there are any, is a rise in an answer
abbrev pub EndsInAnswer : List IdealEdge → Type 0
EndsInAnswer [] = Unit {0}
EndsInAnswer (AnswerRise ∷ []) = Unit {0}
EndsInAnswer (TriggerFall time ∷ []) = ⊥
EndsInAnswer (TriggerRise time ∷ []) = ⊥
EndsInAnswer (AnswerFall time ∷ []) = ⊥
EndsInAnswer (ideal ∷ next ∷ ideals) = EndsInAnswer (next ∷ ideals)

ends_cut : (count : ℕ) (ideals : List IdealEdge) → EndsInAnswer ideals → EndsInAnswer (drop count ideals)
ends_cut zero ideals ends = ends
ends_cut (suc count) [] ends = ends
ends_cut (suc count) (ideal ∷ []) ends = ends_cut count [] tt
ends_cut (suc count) (ideal ∷ next ∷ ideals) ends = ends_cut count (next ∷ ideals) ends

ends_behind : (front : List IdealEdge) (ideal : IdealEdge) (ideals : List IdealEdge) → EndsInAnswer (ideal ∷ ideals) → EndsInAnswer (front ++ ideal ∷ ideals)
ends_behind [] ideal ideals ends = ends
ends_behind (first ∷ []) ideal ideals ends = ends
ends_behind (first ∷ next ∷ front) ideal ideals ends = ends_behind (next ∷ front) ideal ideals ends

ends_answer : (fall : ℕ) (falls : List ℕ) → EndsInAnswer (answer_edges (fall ∷ falls) ++ [])
ends_answer fall [] = tt
ends_answer fall (next ∷ falls) = ends_answer next falls

last_answers : (s : Settings) (t : Transaction) (code : ℕ) (frame : SentFrame) → message_of t ≡ Answer code frame → EndsInAnswer (ideal_edges s (t ∷ []))
last_answers s (Answered trigger answer) code frame same = ends_answer answer.start (falls_behind answer.start (pulses_sent s answer))
last_answers s (Unanswered trigger) code frame same = absurd (cc)

never_empty : (messages : List SpcMessage) (message : SpcMessage) → messages ++ message ∷ [] ≡ [] → ⊥
never_empty [] message same = cc
never_empty (first ∷ messages) message same = cc

pub train_answers : (s : Settings) (train : List Transaction) (messages : List SpcMessage) (code : ℕ) (frame : SentFrame) → messages_of train ≡ messages ++ Answer code frame ∷ [] → EndsInAnswer (ideal_edges s train)
train_answers s [] messages code frame same = tt
train_answers s (t ∷ []) [] code frame same = last_answers s t code frame (cc)
train_answers s (t ∷ []) (message ∷ messages) code frame same = absurd (never_empty messages (Answer code frame) (cc))
train_answers s (t ∷ next ∷ train) [] code frame same = absurd (cc)
train_answers s (t ∷ next ∷ train) (message ∷ messages) code frame same =
    let rest : messages_of (next ∷ train) ≡ messages ++ Answer code frame ∷ [] = cc in
    ends_behind (edges_sent s t) (TriggerFall _) _ (train_answers s (next ∷ train) messages code frame rest)

-- ---- what is recorded
falls_first : (s : Settings) (ideal : IdealEdge) (rise : NumberedEdge) → AreAlternating (ideal ∷ AnswerRise ∷ []) → rise.edge.level ≡ true → AreRecordedAs s (ideal ∷ AnswerRise ∷ []) (rise ∷ []) → ⊥
falls_first s ideal rise are up recorded = let down = first_level s ideal rise are recorded in cc

-- no rise comes before a rise that is missing
never_last : (s : Settings) (ideal next : IdealEdge) (ideals : List IdealEdge) (rise : NumberedEdge) → AreAlternating (ideal ∷ next ∷ ideals) → rise.edge.level ≡ true → AreRecordedAs s (ideal ∷ next ∷ ideals) (rise ∷ []) → ⊥
never_last s ideal (TriggerFall time) ideals rise are up recorded = recorded.2
never_last s ideal (TriggerRise time) ideals rise are up recorded = recorded.2
never_last s ideal (AnswerFall time) ideals rise are up recorded = recorded.2
never_last s ideal AnswerRise [] rise are up recorded = falls_first s ideal rise are up recorded
never_last s ideal AnswerRise (later ∷ ideals) rise are up recorded = recorded.2

pub without_rise : (s : Settings) (ideals : List IdealEdge) (edges : List NumberedEdge) (rise : NumberedEdge) → AreAlternating ideals → EndsInAnswer ideals → rise.edge.level ≡ true → AreRecordedAs s ideals (edges ++ rise ∷ []) → AreRecordedAs s ideals edges
without_rise s [] [] rise are ends up recorded = absurd recorded
without_rise s (AnswerRise ∷ []) [] rise are ends up recorded = tt
without_rise s (TriggerFall time ∷ []) [] rise are ends up recorded = absurd ends
without_rise s (TriggerRise time ∷ []) [] rise are ends up recorded = absurd ends
without_rise s (AnswerFall time ∷ []) [] rise are ends up recorded = absurd ends
without_rise s (ideal ∷ next ∷ ideals) [] rise are ends up recorded = absurd (never_last s ideal next ideals rise are up recorded)
without_rise s [] (e ∷ edges) rise are ends up recorded = absurd recorded
without_rise s (ideal ∷ ideals) (e ∷ edges) rise are ends up recorded =
    (recorded.0, recorded.1, without_rise s ideals edges rise (alternate_behind are.level ideal ideals are.alternate) (ends_cut 1 (ideal ∷ ideals) ends) up recorded.2)

order_front : (edges : List NumberedEdge) (rise : NumberedEdge) → AreInOrder (edges ++ rise ∷ []) → AreInOrder edges
order_front [] rise ordered = tt
order_front (e ∷ []) rise ordered = tt
order_front (e ∷ next ∷ edges) rise ordered = (ordered.0, order_front (next ∷ edges) rise ordered.1)

opposite_front : (edges : List NumberedEdge) (rise : NumberedEdge) → OpensOpposite (edges ++ rise ∷ []) → OpensOpposite edges
opposite_front [] rise opposite = tt
opposite_front (e ∷ []) rise opposite = tt
opposite_front (e ∷ next ∷ edges) rise opposite = opposite

opens_front : (jitter : ℕ) (edges : List NumberedEdge) (rise : NumberedEdge) (times : List ℕ) → OpensBehind jitter (edges ++ rise ∷ []) times → OpensBehind jitter edges times
opens_front jitter [] rise times opens = tt
opens_front jitter (e ∷ edges) rise times opens = opens

recorded_front : (s : Settings) (ideals : List IdealEdge) (edges : List NumberedEdge) (rise : NumberedEdge) → AreAlternating ideals → EndsInAnswer ideals → rise.edge.level ≡ true → AreRecordedAs s ideals (drop 1 (edges ++ rise ∷ [])) → AreRecordedAs s ideals (drop 1 edges)
recorded_front s ideals [] rise are ends up recorded = recorded
recorded_front s ideals (e ∷ edges) rise are ends up recorded = without_rise s ideals edges rise are ends up recorded

pub honest_without : (s : Settings) (messages : List SpcMessage) (code : ℕ) (frame : SentFrame) (edges : List NumberedEdge) (rise : NumberedEdge) → rise.edge.level ≡ true
    → IsHonest s (messages ++ Answer code frame ∷ []) (edges ++ rise ∷ []) → IsHonest s (messages ++ Answer code frame ∷ []) edges
honest_without s messages code frame edges rise up honest =
    let ideals = ideal_edges s honest.train in
    record {
      accepted = honest.accepted;
      accepted_frame = honest.accepted_frame;
      train = honest.train;
      says = honest.says;
      sent = honest.sent;
      left_out = honest.left_out;
      recorded =
          recorded_front s (drop honest.left_out ideals) edges rise (alternate_cut honest.left_out ideals (train-alternates s honest.train))
          (ends_cut honest.left_out ideals (train_answers s honest.train messages code frame honest.says)) up honest.recorded;
      opens = opens_front s.sent.jitter edges rise _ honest.opens;
      opposite = opposite_front edges rise honest.opposite;
      in_order = order_front edges rise honest.in_order;
    }

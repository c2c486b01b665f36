-- An honest trace may be opened later, at any of its edges.
--     honest_later      at the next one
--     honest-drop       at any one
use Rattle.std.proofs.Common.{ℕ, zero, suc, ◌+◌, ◌*◌, ◌≤◌, List, [], ◌∷◌, drop, take, arith}
use Rattle.line_base.specs.Edges.{NumberedEdge}
use Rattle.spc_link.specs.Setup.{Settings}
use Rattle.link_tolerance.specs.Recorded.{OpensAfter}
use Rattle.spc_tolerance.specs.Trains.{AnswerFall, AnswerRise, IdealEdge, SpcMessage, TriggerFall, TriggerRise, ideal_edges, ideal_times}
use Rattle.spc_tolerance.specs.Traces.{AreRecordedAs, IsHonest, OpensOpposite}
use Rattle.spc_tolerance.proofs.EdgeCounts.{AreAlternating, alternate_cut, next_opposite, train-alternates}

one_less : (s : Settings) (count : ℕ) (ideals : List IdealEdge) (e : NumberedEdge) (edges : List NumberedEdge) → AreRecordedAs s (drop count ideals) (e ∷ edges) → AreRecordedAs s (drop (suc count) ideals) edges
one_less s zero [] e edges recorded = absurd recorded
one_less s zero (ideal ∷ ideals) e edges recorded = recorded.2
one_less s (suc count) [] e edges recorded = absurd recorded
one_less s (suc count) (ideal ∷ ideals) e edges recorded = one_less s count ideals e edges recorded

-- ---- the opening
opens_at : (s : Settings) (last opening : ℕ) (ideal : IdealEdge) (ideals : List IdealEdge) (e : NumberedEdge) (edges : List NumberedEdge) → opening ≤ e.edge.time → last ≤ 1000 * (opening + s.sent.jitter) → AreRecordedAs s (ideal ∷ ideals) (e ∷ edges)
    → OpensAfter s.sent.jitter e.edge.time (last ∷ ideal_times (ideal ∷ []))
opens_at s last opening (TriggerFall time) ideals e edges later there recorded = recorded.0.1.not_too_early
opens_at s last opening (TriggerRise time) ideals e edges later there recorded = recorded.0.1.not_too_early
opens_at s last opening (AnswerFall time) ideals e edges later there recorded = recorded.0.1.not_too_early
opens_at s last opening AnswerRise ideals e edges later there recorded = omega arith

opens_later : (s : Settings) (last opening count : ℕ) (ideals : List IdealEdge) (e : NumberedEdge) (edges : List NumberedEdge) → opening ≤ e.edge.time → OpensAfter s.sent.jitter opening (last ∷ ideal_times (take count ideals))
    → AreRecordedAs s (drop count ideals) (e ∷ edges) → OpensAfter s.sent.jitter e.edge.time (last ∷ ideal_times (take (suc count) ideals))
opens_later s last opening zero [] e edges later opens recorded = absurd recorded
opens_later s last opening zero (ideal ∷ ideals) e edges later opens recorded = opens_at s last opening ideal ideals e edges later opens recorded
opens_later s last opening (suc count) [] e edges later opens recorded = absurd recorded
opens_later s last opening (suc count) (TriggerFall time ∷ ideals) e edges later opens recorded = opens_later s time opening count ideals e edges later opens recorded
opens_later s last opening (suc count) (TriggerRise time ∷ ideals) e edges later opens recorded = opens_later s time opening count ideals e edges later opens recorded
opens_later s last opening (suc count) (AnswerFall time ∷ ideals) e edges later opens recorded = opens_later s time opening count ideals e edges later opens recorded
opens_later s last opening (suc count) (AnswerRise ∷ ideals) e edges later opens recorded = opens_later s last opening count ideals e edges later opens recorded

-- at 0 there is room for one edge more
with_first : (jitter opening : ℕ) (times : List ℕ) → OpensAfter jitter opening times → OpensAfter jitter opening (0 ∷ times)
with_first jitter opening [] opens = omega arith
with_first jitter opening (time ∷ times) opens = opens

without_first : (jitter opening first : ℕ) (times : List ℕ) → OpensAfter jitter opening (first ∷ times) → OpensAfter jitter opening times
without_first jitter opening first [] opens = tt
without_first jitter opening first (time ∷ times) opens = opens

opposite_next : (s : Settings) (ideals : List IdealEdge) (e : NumberedEdge) (edges : List NumberedEdge) → AreAlternating ideals → AreRecordedAs s ideals (e ∷ edges) → OpensOpposite (e ∷ edges)
opposite_next s ideals e [] are recorded = tt
opposite_next s ideals e (next ∷ edges) are recorded = next_opposite s ideals e next edges are recorded

-- ---- the trace
pub honest_later : (s : Settings) (messages : List SpcMessage) (opening : NumberedEdge) (edges : List NumberedEdge) → IsHonest s messages (opening ∷ edges) → IsHonest s messages edges
honest_later s messages opening [] honest = record {
  accepted = honest.accepted;
  accepted_frame = honest.accepted_frame;
  train = honest.train;
  says = honest.says;
  sent = honest.sent;
  left_out = honest.left_out;
  recorded = honest.recorded;
  opens = tt;
  opposite = tt;
  in_order = tt;
}
honest_later s messages opening (e ∷ edges) honest =
    let ideals = ideal_edges s honest.train in
    let later : opening.edge.time ≤ e.edge.time = honest.in_order.0 in
    record {
      accepted = honest.accepted;
      accepted_frame = honest.accepted_frame;
      train = honest.train;
      says = honest.says;
      sent = honest.sent;
      left_out = suc honest.left_out;
      recorded = one_less s honest.left_out ideals e edges honest.recorded;
      opens =
          without_first s.sent.jitter e.edge.time 0 (ideal_times (take (suc honest.left_out) ideals))
          (opens_later s 0 opening.edge.time honest.left_out ideals e edges later (with_first s.sent.jitter opening.edge.time (ideal_times (take honest.left_out ideals)) honest.opens) honest.recorded);
      opposite = opposite_next s (drop honest.left_out ideals) e edges (alternate_cut honest.left_out ideals (train-alternates s honest.train)) honest.recorded;
      in_order = honest.in_order.1;
    }

pub honest-drop : (s : Settings) (messages : List SpcMessage) (edges : List NumberedEdge) (count : ℕ) → IsHonest s messages edges → IsHonest s messages (drop count edges)
honest-drop s messages edges zero honest = honest
honest-drop s messages [] (suc count) honest = honest
honest-drop s messages (e ∷ edges) (suc count) honest = honest-drop s messages edges count (honest_later s messages e edges honest)

-- What is read of transactions that are sent one after the other.
--     read_all          from an edge behind which the first is recorded and keeps quiet
--     read_from         from any edge on
--     read_honest       of an honest trace
use Rattle.std.proofs.Common.{◌≡◌, ℕ, zero, suc, ◌+◌, ◌-◌, ◌≤◌, List, [], ◌∷◌, ◌++◌, Bool, true, false, cond, length, drop, take, inl, inr, refl, ap, sym, ◌∙◌, subst, arith}
use Rattle.std.proofs.Math.Seq.{drop-append-add, take-append-add}
use Rattle.std.proofs.lemmas.Bool.{cases_lt}
use Rattle.std.proofs.lemmas.List.{drop-append-le, drop_all, length-drop, take-append-le}
use Rattle.line_base.specs.Edges.{NumberedEdge}
use Rattle.spc_link.specs.Setup.{Settings}
use Rattle.spc_link.specs.Reading.{spc_at_end}
use Rattle.link_tolerance.specs.Recorded.{OpensAfter}
use Rattle.spc_tolerance.specs.Trains.{AnswerFall, AnswerRise, IdealEdge, IsSent, IsTrain, SpcMessage, Transaction, TriggerFall, TriggerRise, edges_sent, ideal_edges, ideal_times, message_of}
use Rattle.spc_tolerance.specs.Traces.{AreInOrder, AreRecordedAs, IsHonest, OpensBehind}
use Rattle.spc_tolerance.specs.FromFirst.{all_edges, begins_quietly, edge_count, heard_from, heard_of, step_of, steps_from, whole_count}
use Rattle.spc_tolerance.proofs.RecordedTimes.{frame_range, quiet_range}
use Rattle.spc_tolerance.proofs.EdgeCounts.{alternate_cut, length_ideal, length_sent, messages_of, train-alternates, whole_recorded}
use Rattle.spc_tolerance.proofs.HeardTransactions.{IsAccepted, begins_ready, read_none, read_one, read_rest, ready_next}
use Rattle.spc_tolerance.proofs.PassedEdges.{AreReady, read_alone, ready_behind}
use Rattle.spc_tolerance.proofs.Steps as steps

nothing_left : (s : Settings) (edges : List NumberedEdge) → AreReady s [] edges → spc_at_end s edges ≡ []
nothing_left s [] ready = steps.read_none s
nothing_left s (before ∷ []) ready = read_alone s before
nothing_left s (before ∷ next ∷ edges) ready = absurd ready.0

-- ---- from the first on
read_ready : (s : Settings) → IsAccepted s → (t : Transaction) → IsSent s t → (train : List Transaction) (edges : List NumberedEdge) → AreReady s (ideal_edges s (t ∷ train)) edges
    → spc_at_end s edges ≡ step_of s edges (message_of t) ∷ spc_at_end s (drop (edge_count s (message_of t)) edges)
read_ready s ok t sent train [] ready = absurd (cc)
read_ready s ok t sent train (before ∷ edges) ready = read_one s ok t sent train before edges ready.0 ready.2 (begins_ready s t train (before ∷ edges) ready)

ready_later : (s : Settings) (t : Transaction) → IsSent s t → (train : List Transaction) (edges : List NumberedEdge) → AreReady s (ideal_edges s (t ∷ train)) edges → AreReady s (ideal_edges s train) (drop (edge_count s (message_of t)) edges)
ready_later s t sent train [] ready = absurd (cc)
ready_later s t sent train (before ∷ edges) ready = ready_next s t sent train before edges ready.0 ready.2

pub read_all : (s : Settings) → IsAccepted s → (train : List Transaction) → IsTrain s train → (edges : List NumberedEdge) → AreReady s (ideal_edges s train) edges → spc_at_end s edges ≡ steps_from s (messages_of train) edges
unfolding steps_from
read_all s ok [] sent edges ready = nothing_left s edges ready
read_all s ok (t ∷ train) sent edges ready =
    read_ready s ok t sent.0 train edges ready
    ∙ ap (λ rest. step_of s edges (message_of t) ∷ rest) (read_all s ok train sent.2 (drop (edge_count s (message_of t)) edges) (ready_later s t sent.0 train edges ready))

-- ---- from any edge on
heard_ready : (s : Settings) (train : List Transaction) (edges : List NumberedEdge) → AreReady s (ideal_edges s train) edges → heard_from s 0 (messages_of train) edges ≡ steps_from s (messages_of train) edges
unfolding heard_from steps_from
heard_ready s [] edges ready = refl
heard_ready s (t ∷ train) edges ready =
    let all = step_of s edges (message_of t) ∷ steps_from s (messages_of train) (drop (edge_count s (message_of t)) edges) in
    ap (λ b. cond b all (heard_from s 0 (messages_of train) (drop (edge_count s (message_of t)) edges))) (begins_ready s t train edges ready)

read_later : (s : Settings) → IsAccepted s → (train : List Transaction) → IsTrain s train → (edges : List NumberedEdge) → AreReady s (ideal_edges s train) edges → spc_at_end s edges ≡ heard_from s 0 (messages_of train) edges
read_later s ok train sent edges ready = read_all s ok train sent edges ready ∙ sym (heard_ready s train edges ready)

-- the first transaction is whole
read_whole : (s : Settings) → IsAccepted s → (t : Transaction) (train : List Transaction) → IsTrain s (t ∷ train) → (opening : NumberedEdge) (edges : List NumberedEdge)
    → AreRecordedAs s (ideal_edges s (t ∷ train)) edges → AreInOrder (opening ∷ edges) → (quiet : Bool) → begins_quietly s (opening ∷ edges) ≡ quiet
    → spc_at_end s (opening ∷ edges) ≡ cond quiet (steps_from s (messages_of (t ∷ train)) (opening ∷ edges)) (heard_from s 0 (messages_of train) (drop (edge_count s (message_of t)) (opening ∷ edges)))
unfolding steps_from
read_whole s ok t train sent opening edges recorded ordered true quiet =
    read_one s ok t sent.0 train opening edges recorded ordered quiet
    ∙ ap (λ rest. step_of s (opening ∷ edges) (message_of t) ∷ rest) (read_all s ok train sent.2 (drop (edge_count s (message_of t)) (opening ∷ edges)) (ready_next s t sent.0 train opening edges recorded ordered))
read_whole s ok t train sent opening edges recorded ordered false passed =
    read_none s ok t sent.0 train opening edges recorded ordered passed
    ∙ read_later s ok train sent.2 (drop (edge_count s (message_of t)) (opening ∷ edges)) (ready_next s t sent.0 train opening edges recorded ordered)

times_apart : (front back : List IdealEdge) → ideal_times (front ++ back) ≡ ideal_times front ++ ideal_times back
times_apart [] back = refl
times_apart (TriggerFall time ∷ front) back = ap (λ rest. time ∷ rest) (times_apart front back)
times_apart (TriggerRise time ∷ front) back = ap (λ rest. time ∷ rest) (times_apart front back)
times_apart (AnswerFall time ∷ front) back = ap (λ rest. time ∷ rest) (times_apart front back)
times_apart (AnswerRise ∷ front) back = times_apart front back

opens_after_last : (jitter opening : ℕ) (front back : List ℕ) → OpensAfter jitter opening (front ++ back) → OpensAfter jitter opening back
opens_after_last jitter opening [] back opens = opens
opens_after_last jitter opening (time ∷ []) [] opens = tt
opens_after_last jitter opening (time ∷ []) (next ∷ back) opens = opens
opens_after_last jitter opening (time ∷ next ∷ front) back opens = opens_after_last jitter opening (next ∷ front) back opens

pub read_from : (s : Settings) → IsAccepted s → (train : List Transaction) → IsTrain s train → (missing : ℕ) (opening : NumberedEdge) (edges : List NumberedEdge) → AreRecordedAs s (drop missing (ideal_edges s train)) edges → AreInOrder (opening ∷ edges)
    → OpensAfter s.sent.jitter opening.edge.time (ideal_times (take missing (ideal_edges s train))) → spc_at_end s (opening ∷ edges) ≡ heard_from s missing (messages_of train) (opening ∷ edges)
unfolding heard_from
read_from s ok [] sent missing opening [] recorded ordered opens = read_alone s opening
read_from s ok [] sent missing opening (e ∷ edges) recorded ordered opens =
    absurd (subst (λ (ideals : List IdealEdge). AreRecordedAs s ideals (e ∷ edges)) (drop_all missing [] (omega arith)) recorded)
read_from s ok (t ∷ train) sent zero opening edges recorded ordered opens = read_whole s ok t train sent opening edges recorded ordered (begins_quietly s (opening ∷ edges)) refl
read_from s ok (t ∷ train) sent (suc missing) opening edges recorded ordered opens =
    let all = edges_sent s t in
    let more = ideal_edges s train in
    let count = edge_count s (message_of t) in
    let as_many : length all ≡ count = length_sent s t sent.0 in
    elim (cases_lt (suc missing) (length all)) [
      | inl within ↦
          let cut = drop (suc missing) all in
          let left : length cut ≡ count - suc missing = omega (arith, as_many, length-drop (suc missing) all) in
          let none : 0 ≡ suc missing - count = omega (arith, as_many) in
          let here : AreRecordedAs s (cut ++ more) edges = subst (λ (ideals : List IdealEdge). AreRecordedAs s ideals edges) (drop-append-le (suc missing) all more (omega arith)) recorded in
          let opens_here : OpensAfter s.sent.jitter opening.edge.time (ideal_times (take (suc missing) all)) =
          subst (λ (ideals : List IdealEdge). OpensAfter s.sent.jitter opening.edge.time (ideal_times ideals)) (take-append-le (suc missing) all more (omega arith)) opens in
          read_rest s ok t sent.0 train missing opening edges here ordered opens_here
          ∙ read_later s ok train sent.2 (drop (length cut) (opening ∷ edges)) (ready_behind s cut more opening edges (omega (arith, left, as_many)) here ordered)
          ∙ ap (λ n. heard_from s 0 (messages_of train) (drop n (opening ∷ edges))) left
          ∙ ap (λ n. heard_from s n (messages_of train) (drop (count - suc missing) (opening ∷ edges))) none
      | inr behind ↦
          let beyond = suc missing - count in
          let parts : suc missing ≡ length all + beyond = omega (arith, as_many) in
          let none : 0 ≡ count - suc missing = omega (arith, as_many) in
          let here : AreRecordedAs s (drop beyond more) edges = subst (λ (ideals : List IdealEdge). AreRecordedAs s ideals edges) (ap (λ n. drop n (all ++ more)) parts ∙ drop-append-add all more beyond) recorded in
          let opens_all : OpensAfter s.sent.jitter opening.edge.time (ideal_times all ++ ideal_times (take beyond more)) =
          subst (λ (times : List ℕ). OpensAfter s.sent.jitter opening.edge.time times) (ap (λ n. ideal_times (take n (all ++ more))) parts ∙ ap ideal_times (take-append-add all more beyond) ∙ times_apart all (take beyond more)) opens in
          read_from s ok train sent.2 beyond opening edges here ordered (opens_after_last s.sent.jitter opening.edge.time (ideal_times all) (ideal_times (take beyond more)) opens_all)
          ∙ ap (λ n. heard_from s beyond (messages_of train) (drop n (opening ∷ edges))) none
    ]

-- ---- honest traces
none_begins : (s : Settings) (edges : List NumberedEdge) → length edges ≤ 1 → begins_quietly s edges ≡ false
none_begins s [] few = refl
none_begins s (before ∷ []) few = refl
none_begins s (before ∷ next ∷ edges) few = absurd (omega arith)

-- nothing is reported of a single edge
heard_alone : (s : Settings) (messages : List SpcMessage) (missing : ℕ) (edges : List NumberedEdge) → length edges ≤ 1 → heard_from s missing messages edges ≡ []
unfolding heard_from
heard_alone s [] missing edges few = refl
heard_alone s (message ∷ messages) zero edges few =
    ap (λ b. cond b (steps_from s (message ∷ messages) edges) (heard_from s 0 messages (drop (edge_count s message) edges))) (none_begins s edges few)
    ∙ heard_alone s messages 0 (drop (edge_count s message) edges) (omega (arith, length-drop (edge_count s message) edges))
heard_alone s (message ∷ messages) (suc missing) edges few =
    heard_alone s messages (suc missing - edge_count s message) (drop (edge_count s message - suc missing) edges) (omega (arith, length-drop (edge_count s message - suc missing) edges))

some_left : (s : Settings) (ideals : List IdealEdge) (e : NumberedEdge) (edges : List NumberedEdge) → AreRecordedAs s ideals (e ∷ edges) → 1 ≤ length ideals
some_left s [] e edges recorded = absurd recorded
some_left s (ideal ∷ ideals) e edges recorded = omega arith

read_sent : (s : Settings) → IsAccepted s → (train : List Transaction) → IsTrain s train → (left_out : ℕ) (edges : List NumberedEdge) → AreRecordedAs s (drop left_out (ideal_edges s train)) (drop 1 edges) → AreInOrder edges
    → OpensBehind s.sent.jitter edges (ideal_times (take left_out (ideal_edges s train))) → spc_at_end s edges ≡ heard_of s (messages_of train) edges
unfolding heard_of
read_sent s ok train sent left_out [] recorded ordered opens = steps.read_none s ∙ sym (heard_alone s (messages_of train) (all_edges s (messages_of train) - 0) [] (omega arith))
read_sent s ok train sent left_out (opening ∷ []) recorded ordered opens = read_alone s opening ∙ sym (heard_alone s (messages_of train) (all_edges s (messages_of train) - 0) (opening ∷ []) (omega arith))
read_sent s ok train sent left_out (opening ∷ e ∷ edges) recorded ordered opens =
    let ideals = ideal_edges s train in
    let cut = drop left_out ideals in
    let whole = whole_recorded s cut e edges (alternate_cut left_out ideals (train-alternates s train)) recorded in
    let are_missing : left_out ≡ all_edges s (messages_of train) - whole_count (e ∷ edges) =
    omega (arith, whole, some_left s cut e edges recorded, length-drop left_out ideals, length_ideal s train sent) in
    read_from s ok train sent left_out opening (e ∷ edges) recorded ordered opens
    ∙ ap (λ n. heard_from s n (messages_of train) (opening ∷ e ∷ edges)) are_missing

pub read_honest : (s : Settings) (messages : List SpcMessage) (edges : List NumberedEdge) → IsHonest s messages edges → spc_at_end s edges ≡ heard_of s messages edges
read_honest s messages edges honest =
    let ok : IsAccepted s = record {
      accepted = honest.accepted;
      range = frame_range s.sent.tick s.sent.jitter s.sent.nibbles honest.accepted_frame;
      quiet = quiet_range s honest.accepted;
    } in
    read_sent s ok honest.train honest.sent honest.left_out edges honest.recorded honest.in_order honest.opens
    ∙ ap (λ all. heard_of s all edges) honest.says

-- Laws of edge lists that the runs over them need.
use Rattle.std.proofs.Common.{◌≡◌, ◌<◌, ◌^◌, ℕ, List, [], ◌∷◌, ◌++◌, None, Some, Result, Err, length, filter_map, flat_map, refl, ap, sym, subst, ◌∙◌, arith}
use Rattle.std.specs.Result.{result_ok}
use Rattle.line_base.specs.declared.edge.Edge.{Edge}
use Rattle.line_base.specs.declared.faults.LineFault.{LineFault}
use Rattle.line_base.specs.Streams.{IsFrontOf}
use Rattle.edge_trace.specs.EdgeLists.{Told}
use Rattle.edge_trace.specs.Limits.{rows_of, edges_of, fault_in, fault_of, answers_of, whole_rows_of, whole_edges_of, whole_fault_of, whole_answers_of, line_number_of}
use Rattle.text_lines.specs.Inputs.{input_limit}
use Rattle.edge_trace.proofs.Laws.{whole_stays}
use Rattle.edge_trace.proofs.Growth.{answers_grow, fault_holds, nothing_behind_a_fault, no_answers, whole_grows, whole_fault_line, open_without_fault}
use Rattle.decode_command.proofs.Answers.{edges_in, edges_in-append, edges_of-answers, whole_edges_of-answers, fault_among, some-whole_fault, sound-none}

-- a fault stays when more bytes come
pub fault-stays : (bytes more : List ℕ) (fault : ℕ × LineFault) → fault_of bytes ≡ Some fault → fault_of (bytes ++ more) ≡ Some fault
fault-stays bytes more fault e = fault_holds bytes more fault e

-- a fault stays at the end of the input
pub whole_fault-stays : (bytes : List ℕ) (fault : ℕ × LineFault) → fault_of bytes ≡ Some fault → whole_fault_of bytes ≡ Some fault
unfolding whole_fault_of fault_of
whole_fault-stays bytes fault e = ap fault_in (whole_stays bytes fault e) ∙ e

-- behind a fault no edge comes
pub edges-stay : (bytes more : List ℕ) (fault : ℕ × LineFault) → fault_of bytes ≡ Some fault → edges_of (bytes ++ more) ≡ edges_of bytes
edges-stay bytes more fault e = edges_of-answers (bytes ++ more) ∙ ap edges_in (nothing_behind_a_fault bytes more fault e) ∙ sym (edges_of-answers bytes)

-- nor at the end of the input
pub whole_edges-stay : (bytes : List ℕ) (fault : ℕ × LineFault) → fault_of bytes ≡ Some fault → whole_edges_of bytes ≡ edges_of bytes
unfolding whole_edges_of whole_rows_of edges_of rows_of
whole_edges-stay bytes fault e = ap (λ (told : List Told). flat_map (λ row. row) (filter_map (λ t. result_ok t.1) told)) (whole_stays bytes fault e)

front_of_edges : (answers later : List (Result (List Edge) LineFault)) → IsFrontOf answers later → IsFrontOf (edges_in answers) (edges_in later)
front_of_edges answers later front = record { rest = edges_in front.rest; is = ap edges_in front.is ∙ edges_in-append answers front.rest }

along : (a b c d : List Edge) → a ≡ b → c ≡ d → IsFrontOf b d → IsFrontOf a c
along a b c d p q front = subst (λ (xs : List Edge). IsFrontOf xs c) (sym p) (subst (λ (xs : List Edge). IsFrontOf b xs) (sym q) front)

-- the edges of some bytes are a front of those of more
pub edges-front : (bytes more : List ℕ) → IsFrontOf (edges_of bytes) (edges_of (bytes ++ more))
edges-front bytes more =
    along (edges_of bytes) (edges_in (answers_of bytes)) (edges_of (bytes ++ more)) (edges_in (answers_of (bytes ++ more))) (edges_of-answers bytes) (edges_of-answers (bytes ++ more))
    (front_of_edges (answers_of bytes) (answers_of (bytes ++ more)) (answers_grow bytes more))

-- and of those of the whole input
pub whole_edges-front : (bytes : List ℕ) → IsFrontOf (edges_of bytes) (whole_edges_of bytes)
whole_edges-front bytes =
    along (edges_of bytes) (edges_in (answers_of bytes)) (whole_edges_of bytes) (edges_in (whole_answers_of bytes)) (edges_of-answers bytes) (whole_edges_of-answers bytes)
    (front_of_edges (answers_of bytes) (whole_answers_of bytes) (whole_grows bytes))

-- a fault of the last line has that line's number
pub whole-fault : (bytes : List ℕ) (fault : LineFault) → fault_of bytes ≡ None → whole_answers_of bytes ≡ answers_of bytes ++ Err fault ∷ [] → whole_fault_of bytes ≡ Some (line_number_of bytes, fault)
whole-fault bytes fault e grows =
    let found = some-whole_fault bytes (Err fault ∷ []) fault e grows refl in
    found.1 ∙ ap (λ (n : ℕ). Some (n, fault)) (sym (whole_fault_line bytes (found.0, fault) found.1))

-- no byte gives no edge
pub edges-nil : edges_of [] ≡ []
edges-nil = edges_of-answers [] ∙ ap edges_in no_answers

-- no byte has no fault
pub fault-nil : fault_of [] ≡ None
fault-nil = sound-none [] (ap fault_among no_answers)

-- bytes without a fault are fewer than 2^36
pub within-limit : (bytes : List ℕ) → fault_of bytes ≡ None → length bytes < 2 ^ 36
unfolding input_limit
within-limit bytes e = omega (arith, (open_without_fault bytes e).is_open.within)

-- What one answer more says of an edge list.
use Rattle.std.proofs.Common.{◌≡◌, ℕ, List, [], ◌∷◌, ◌++◌, Option, None, Some, Result, Ok, Err, OnOk, OnErr, map, flat_map, filter_map, refl, ap, sym, ◌∙◌}
use Rattle.std.specs.Result.{result_ok}
use Rattle.std.proofs.lemmas.Grind.{flat_map-append}
use Rattle.std.proofs.lemmas.List.Elements.{filter_map-append}
use Rattle.line_base.specs.declared.edge.Edge.{Edge}
use Rattle.line_base.specs.declared.faults.LineFault.{LineFault}
use Rattle.edge_trace.specs.EdgeLists.{Told}
use Rattle.edge_trace.specs.Limits.{told_of, whole_told_of, rows_of, edges_of, fault_in, fault_of, answers_of, whole_rows_of, whole_edges_of, whole_fault_of, whole_answers_of, line_number_of}

-- the edges of answers, before a fault
abbrev pub edges_in : List (Result (List Edge) LineFault) → List Edge
edges_in answers = flat_map (λ row. row) (filter_map result_ok answers)

-- the fault of answers
abbrev pub fault_among : List (Result (List Edge) LineFault) → Option LineFault
fault_among [] = None
fault_among (Ok row ∷ answers) = fault_among answers
fault_among (Err fault ∷ answers) = Some fault

same_rows : (told : List Told) → filter_map (λ t. result_ok t.1) told ≡ filter_map result_ok (map (λ t. t.1) told)
same_rows [] = refl
same_rows ((number, Ok row) ∷ told) = ap (λ rows. row ∷ rows) (same_rows told)
same_rows ((number, Err fault) ∷ told) = same_rows told

-- the edges of a list are those of its answers
pub edges_of-answers : (bytes : List ℕ) → edges_of bytes ≡ edges_in (answers_of bytes)
unfolding edges_of rows_of answers_of
edges_of-answers bytes = ap (flat_map (λ row. row)) (same_rows (told_of bytes))

-- and those of these bytes and no more
pub whole_edges_of-answers : (bytes : List ℕ) → whole_edges_of bytes ≡ edges_in (whole_answers_of bytes)
unfolding whole_edges_of whole_rows_of whole_answers_of
whole_edges_of-answers bytes = ap (flat_map (λ row. row)) (same_rows (whole_told_of bytes))

-- one answer more, at the end of answers without a fault
pub edges_in-append : (answers more : List (Result (List Edge) LineFault)) → edges_in (answers ++ more) ≡ edges_in answers ++ edges_in more
edges_in-append answers more = ap (flat_map (λ row. row)) (filter_map-append result_ok answers more) ∙ flat_map-append (λ row. row) (filter_map result_ok answers) (filter_map result_ok more)

sound_answers : (told : List Told) → fault_in told ≡ None → fault_among (map (λ t. t.1) told) ≡ None
sound_answers [] e = refl
sound_answers ((number, Ok row) ∷ told) e = sound_answers told e
sound_answers ((number, Err fault) ∷ told) e = absurd (cc)

answers_sound : (told : List Told) → fault_among (map (λ t. t.1) told) ≡ None → fault_in told ≡ None
answers_sound [] e = refl
answers_sound ((number, Ok row) ∷ told) e = answers_sound told e
answers_sound ((number, Err fault) ∷ told) e = absurd (cc)

fault_is : (told : List Told) (fault : LineFault) → fault_among (map (λ t. t.1) told) ≡ Some fault → (number : ℕ) × (fault_in told ≡ Some (number, fault))
fault_is [] fault e = absurd (cc)
fault_is ((number, Ok row) ∷ told) fault e = fault_is told fault e
fault_is ((number, Err other) ∷ told) fault e = (number, let same : other ≡ fault = cc in ap (λ f. Some (number, f)) same)

fault_among-append : (answers more : List (Result (List Edge) LineFault)) → fault_among answers ≡ None → fault_among (answers ++ more) ≡ fault_among more
fault_among-append [] more e = refl
fault_among-append (Ok row ∷ answers) more e = fault_among-append answers more e
fault_among-append (Err fault ∷ answers) more e = absurd (cc)

-- no fault more
pub still-sound : (bytes later : List ℕ) (more : List (Result (List Edge) LineFault)) → fault_of bytes ≡ None → answers_of later ≡ answers_of bytes ++ more → fault_among more ≡ None → fault_of later ≡ None
unfolding fault_of answers_of
still-sound bytes later more e grows none = answers_sound (told_of later) (ap fault_among grows ∙ fault_among-append (map (λ t. t.1) (told_of bytes)) more (sound_answers (told_of bytes) e) ∙ none)

some_fault : (bytes later : List ℕ) (more : List (Result (List Edge) LineFault)) (fault : LineFault) → fault_of bytes ≡ None → answers_of later ≡ answers_of bytes ++ more → fault_among more ≡ Some fault
    → (number : ℕ) × (fault_of later ≡ Some (number, fault))
unfolding fault_of answers_of
some_fault bytes later more fault e grows found = fault_is (told_of later) fault (ap fault_among grows ∙ fault_among-append (map (λ t. t.1) (told_of bytes)) more (sound_answers (told_of bytes) e) ∙ found)

numbered_fault : (bytes : List ℕ) (fault : LineFault) → (number : ℕ) × (fault_of bytes ≡ Some (number, fault)) → fault_of bytes ≡ Some (line_number_of bytes, fault)
unfolding line_number_of
numbered_fault bytes fault (number, e) = rw e refl

-- the first fault, with the number of its line
pub first-fault : (bytes later : List ℕ) (more : List (Result (List Edge) LineFault)) (fault : LineFault) → fault_of bytes ≡ None → answers_of later ≡ answers_of bytes ++ more → fault_among more ≡ Some fault
    → fault_of later ≡ Some (line_number_of later, fault)
first-fault bytes later more fault e grows found =
    numbered_fault later fault (some_fault bytes later more fault e grows found)

-- the edges grow by those of the answers more
pub edges-more : (bytes later : List ℕ) (more : List (Result (List Edge) LineFault)) → answers_of later ≡ answers_of bytes ++ more → edges_of later ≡ edges_of bytes ++ edges_in more
edges-more bytes later more grows =
    edges_of-answers later ∙ ap edges_in grows ∙ edges_in-append (answers_of bytes) more ∙ ap (λ es. es ++ edges_in more) (sym (edges_of-answers bytes))

-- the edges of these bytes and no more are those so far and those of the answers more
pub whole_edges-more : (bytes : List ℕ) (more : List (Result (List Edge) LineFault)) → whole_answers_of bytes ≡ answers_of bytes ++ more → whole_edges_of bytes ≡ edges_of bytes ++ edges_in more
whole_edges-more bytes more grows =
    whole_edges_of-answers bytes ∙ ap edges_in grows ∙ edges_in-append (answers_of bytes) more ∙ ap (λ es. es ++ edges_in more) (sym (edges_of-answers bytes))

-- no fault more at the end
pub whole-sound : (bytes : List ℕ) (more : List (Result (List Edge) LineFault)) → fault_of bytes ≡ None → whole_answers_of bytes ≡ answers_of bytes ++ more → fault_among more ≡ None → whole_fault_of bytes ≡ None
unfolding whole_fault_of whole_answers_of fault_of answers_of
whole-sound bytes more e grows none = answers_sound (whole_told_of bytes) (ap fault_among grows ∙ fault_among-append (map (λ t. t.1) (told_of bytes)) more (sound_answers (told_of bytes) e) ∙ none)

-- the fault of these bytes and no more, with the number of its line
pub some-whole_fault : (bytes : List ℕ) (more : List (Result (List Edge) LineFault)) (fault : LineFault) → fault_of bytes ≡ None → whole_answers_of bytes ≡ answers_of bytes ++ more → fault_among more ≡ Some fault
    → (number : ℕ) × (whole_fault_of bytes ≡ Some (number, fault))
unfolding whole_fault_of whole_answers_of fault_of answers_of
some-whole_fault bytes more fault e grows found =
    fault_is (whole_told_of bytes) fault (ap fault_among grows ∙ fault_among-append (map (λ t. t.1) (told_of bytes)) more (sound_answers (told_of bytes) e) ∙ found)

-- answers without a fault
pub sound-none : (bytes : List ℕ) → fault_among (answers_of bytes) ≡ None → fault_of bytes ≡ None
unfolding fault_of answers_of
sound-none bytes e = answers_sound (told_of bytes) e

-- what a good answer has leads to more that it has
pub on-ok : {T E P Q : Type 0} (r : Result T E) → OnOk r P → (P → Q) → OnOk r Q
on-ok (Ok x) p f = f p
on-ok (Err e) p f = tt

-- what a fault has leads to more that it has
pub on-err : {T E P Q : Type 0} (r : Result T E) → OnErr r P → (P → Q) → OnErr r Q
on-err (Ok x) p f = tt
on-err (Err e) p f = f p

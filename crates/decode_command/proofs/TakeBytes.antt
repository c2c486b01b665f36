-- What a run has taken after one byte more.
use Rattle.std.proofs.Common.{◌≡◌, ◌<◌, ◌+◌, ◌≤◌, ◌^◌, ℕ, List, [], ◌∷◌, ◌++◌, Option, None, Some, Ok, Err, All, length, length-append, arith, refl, ap, sym, subst, ◌∙◌, append-nil}
use Rattle.std.proofs.lemmas.List.{get_or-append-add}
use Rattle.line_base.specs.declared.edge.Edge.{Edge}
use Rattle.line_base.specs.declared.faults.LineFault.{LineFault}
use Rattle.edge_trace.specs.declared.reader.EdgeReader.{EdgeReader}
use Rattle.edge_trace.specs.Limits.{edges_of, fault_of, answers_of, line_number_of}
use Rattle.edge_trace.specs.Readers.{StandsFor, answers_of_row}
use Rattle.edge_trace.proofs.Times.{edges-in_range}
use Rattle.edge_trace.proofs.OrderedLists.{edges_are_few}
use Rattle.decode_command.specs.declared.run.Run.{Run}
use Rattle.decode_command.specs.Channels.{Decoding, text_so_far}
use Rattle.decode_command.specs.Followed.{AllFollow}
use Rattle.decode_command.specs.Writes.{Written, GrowsAlong, GrowsTowards}
use Rattle.decode_command.specs.Runs.{decoding_of, written_by, Reads, TookBytes}
use Rattle.decode_command.proofs.Writing.{grows-nothing}
use Rattle.decode_command.proofs.Answers.{still-sound, first-fault, edges-more}

row_edges : (bytes later : List ℕ) (row : List Edge) → answers_of later ≡ answers_of bytes ++ Ok row ∷ [] → edges_of later ≡ edges_of bytes ++ row
row_edges bytes later row grows = edges-more bytes later (Ok row ∷ []) grows ∙ ap (λ es. edges_of bytes ++ es) (append-nil row)

same_edges : (bytes later : List ℕ) → answers_of later ≡ answers_of bytes ++ [] → edges_of later ≡ edges_of bytes
same_edges bytes later grows = edges-more bytes later [] grows ∙ append-nil (edges_of bytes)

fault_edges : (bytes later : List ℕ) (fault : LineFault) → answers_of later ≡ answers_of bytes ++ Err fault ∷ [] → edges_of later ≡ edges_of bytes
fault_edges bytes later fault grows = edges-more bytes later (Err fault ∷ []) grows ∙ append-nil (edges_of bytes)

-- a byte that gives no answer
pub none-took : (old new : Run) (got : Option (List ℕ)) (bytes later : List ℕ) → Reads old bytes → new.channels ≡ old.channels → new.text ≡ old.text → StandsFor new.lines later → answers_of later ≡ answers_of bytes ++ []
    → TookBytes old new got got bytes later
none-took old new got bytes later before channels text stands grows =
    let same = same_edges bytes later grows in
    record {
      reads = record { lines = stands; sound = still-sound bytes later [] before.sound grows refl; follow = rw (channels, same) before.follow };
      grows = rw (text, same) (grows-nothing (written_by old got) (text_so_far (decoding_of old) (edges_of bytes)));
    }

-- a byte that ends a row, which is taken
pub row-took : (old : Run) (lines : EdgeReader) (new : Run) (got got' : Option (List ℕ)) (bytes later : List ℕ) (row : List Edge) → Reads old bytes → new.lines ≡ lines → StandsFor lines later → answers_of later ≡ answers_of bytes ++ Ok row ∷ []
    → AllFollow new.channels.items (edges_of bytes ++ row) → GrowsAlong (written_by old got) (written_by new got') (text_so_far (decoding_of old) (edges_of bytes)) (text_so_far (decoding_of old) (edges_of bytes ++ row))
    → TookBytes old new got got' bytes later
row-took old lines new got got' bytes later row before same_lines stands grows follow along =
    let same = row_edges bytes later row grows in
    record {
      reads = record { lines = rw same_lines stands; sound = still-sound bytes later (Ok row ∷ []) before.sound grows refl; follow = rw same follow };
      grows = subst (λ (es : List Edge). GrowsAlong (written_by old got) (written_by new got') (text_so_far (decoding_of old) (edges_of bytes)) (text_so_far (decoding_of old) es)) (sym same) along;
    }

-- a byte that ends a row, which can't be put whole
pub row-cut : (decoding : Decoding) (old : Written) (got : Option (List ℕ)) (bytes later : List ℕ) (row : List Edge) → answers_of later ≡ answers_of bytes ++ Ok row ∷ []
    → GrowsTowards old got (text_so_far decoding (edges_of bytes)) (text_so_far decoding (edges_of bytes ++ row)) → GrowsTowards old got (text_so_far decoding (edges_of bytes)) (text_so_far decoding (edges_of later))
row-cut decoding old got bytes later row grows cut =
    subst (λ (es : List Edge). GrowsTowards old got (text_so_far decoding (edges_of bytes)) (text_so_far decoding es)) (sym (row_edges bytes later row grows)) cut

-- a byte at which the fault is certain
pub fault-stops : (decoding : Decoding) (at : Written) (bytes later : List ℕ) (number : ℕ) (fault : LineFault) → fault_of bytes ≡ None → answers_of later ≡ answers_of bytes ++ Err fault ∷ [] → number ≡ line_number_of later
    → (fault_of later ≡ Some (number, fault)) × GrowsAlong at at (text_so_far decoding (edges_of bytes)) (text_so_far decoding (edges_of later))
fault-stops decoding at bytes later number fault sound grows numbered = (
  first-fault bytes later (Err fault ∷ []) fault sound grows refl ∙ ap (λ (n : ℕ). Some (n, fault)) (sym numbered),
  subst (λ (es : List Edge). GrowsAlong at at (text_so_far decoding (edges_of bytes)) (text_so_far decoding es)) (sym (fault_edges bytes later fault grows)) (grows-nothing at (text_so_far decoding (edges_of bytes))),
)

-- there is room for a row's edges: a list has at most 2^40 edges
pub row-room : (bytes later : List ℕ) (row : List Edge) → answers_of later ≡ answers_of bytes ++ Ok row ∷ [] → length (edges_of bytes) + length row < 2 ^ 60
row-room bytes later row grows =
    let all : length (edges_of later) ≡ length (edges_of bytes) + length row = ap length (row_edges bytes later row grows) ∙ length-append (edges_of bytes) row in
    omega (arith, all, edges_are_few later)

-- what holds of a whole list holds of its end
pub on_right : (P : Edge → Type 0) (xs ys : List Edge) → All P (xs ++ ys) → All P ys
on_right P xs ys all = λ k d h.
    subst P (get_or-append-add xs ys k d) (all (length xs + k) d (omega (arith, length-append xs ys, h)))

-- the times of a row are at most 10^15 ns
pub row-in_range : (bytes later : List ℕ) (row : List Edge) → answers_of later ≡ answers_of bytes ++ Ok row ∷ [] → All (λ edge. edge.time ≤ 10 ^ 15) row
row-in_range bytes later row grows =
    on_right (λ (e : Edge). e.time ≤ 10 ^ 15) (edges_of bytes) row (subst (λ (es : List Edge). All (λ e. e.time ≤ 10 ^ 15) es) (row_edges bytes later row grows) (edges-in_range later))

-- the answers of a row, by whether it has an edge
pub no-answers : (row : List Edge) → length row ≡ 0 → answers_of_row row ≡ []
no-answers [] e = refl
no-answers (edge ∷ edges) e = absurd (omega arith)

pub one-answer : (row : List Edge) → (length row ≡ 0 → ⊥) → answers_of_row row ≡ Ok row ∷ []
one-answer [] ne = absurd (ne refl)
one-answer (edge ∷ edges) ne = refl

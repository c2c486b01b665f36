-- What the last line of an input adds.
use Rattle.std.proofs.Common.{◌≡◌, ◌<◌, ◌+◌, length, length-append, arith, ◌≤◌, ◌^◌, ℕ, List, [], ◌∷◌, ◌++◌, Option, None, Some, Ok, Err, All, refl, ap, sym, subst, ◌∙◌, append-nil}
use Rattle.line_base.specs.declared.edge.Edge.{Edge}
use Rattle.line_base.specs.declared.faults.LineFault.{LineFault}
use Rattle.edge_trace.specs.Limits.{edges_of, whole_edges_of, fault_of, whole_fault_of, answers_of, whole_answers_of, line_number_of}
use Rattle.edge_trace.proofs.Times.{whole_edges-in_range}
use Rattle.edge_trace.proofs.OrderedLists.{whole_edges_are_few}
use Rattle.decode_command.proofs.EdgeLists.{whole-fault}
use Rattle.decode_command.specs.Channels.{Decoding, text_so_far}
use Rattle.decode_command.specs.Writes.{Written, GrowsAlong, GrowsTowards}
use Rattle.decode_command.proofs.Writing.{grows-nothing}
use Rattle.decode_command.proofs.Answers.{whole-sound, whole_edges-more}
use Rattle.decode_command.proofs.TakeBytes.{on_right}

-- the last line is a row with an edge
pub last_row-edges : (bytes : List ℕ) (row : List Edge) → whole_answers_of bytes ≡ answers_of bytes ++ Ok row ∷ [] → whole_edges_of bytes ≡ edges_of bytes ++ row
last_row-edges bytes row grows = whole_edges-more bytes (Ok row ∷ []) grows ∙ ap (λ es. edges_of bytes ++ es) (append-nil row)

-- the last line adds no edge
pub no_row-edges : (bytes : List ℕ) → whole_answers_of bytes ≡ answers_of bytes ++ [] → whole_edges_of bytes ≡ edges_of bytes
no_row-edges bytes grows = whole_edges-more bytes [] grows ∙ append-nil (edges_of bytes)

-- the last line adds nothing
pub no_row-put : (decoding : Decoding) (at : Written) (bytes : List ℕ) → fault_of bytes ≡ None → whole_answers_of bytes ≡ answers_of bytes ++ []
    → (whole_fault_of bytes ≡ None) × GrowsAlong at at (text_so_far decoding (edges_of bytes)) (text_so_far decoding (whole_edges_of bytes))
no_row-put decoding at bytes sound grows = (
  whole-sound bytes [] sound grows refl,
  subst (λ (es : List Edge). GrowsAlong at at (text_so_far decoding (edges_of bytes)) (text_so_far decoding es)) (sym (no_row-edges bytes grows)) (grows-nothing at (text_so_far decoding (edges_of bytes))),
)

-- the last line's row is put
pub last_row-put : (decoding : Decoding) (a b : Written) (bytes : List ℕ) (row : List Edge) → fault_of bytes ≡ None → whole_answers_of bytes ≡ answers_of bytes ++ Ok row ∷ []
    → GrowsAlong a b (text_so_far decoding (edges_of bytes)) (text_so_far decoding (edges_of bytes ++ row)) → (whole_fault_of bytes ≡ None) × GrowsAlong a b (text_so_far decoding (edges_of bytes)) (text_so_far decoding (whole_edges_of bytes))
last_row-put decoding a b bytes row sound grows along = (
  whole-sound bytes (Ok row ∷ []) sound grows refl,
  subst (λ (es : List Edge). GrowsAlong a b (text_so_far decoding (edges_of bytes)) (text_so_far decoding es)) (sym (last_row-edges bytes row grows)) along,
)

-- the last line's row is put in part
pub last_row-cut : (decoding : Decoding) (a : Written) (b : Option (List ℕ)) (bytes : List ℕ) (row : List Edge) → whole_answers_of bytes ≡ answers_of bytes ++ Ok row ∷ []
    → GrowsTowards a b (text_so_far decoding (edges_of bytes)) (text_so_far decoding (edges_of bytes ++ row)) → GrowsTowards a b (text_so_far decoding (edges_of bytes)) (text_so_far decoding (whole_edges_of bytes))
last_row-cut decoding a b bytes row grows cut =
    subst (λ (es : List Edge). GrowsTowards a b (text_so_far decoding (edges_of bytes)) (text_so_far decoding es)) (sym (last_row-edges bytes row grows)) cut

-- the last line is refused, and adds no edge
pub last_line-refused : (bytes : List ℕ) (number : ℕ) (fault : LineFault) → fault_of bytes ≡ None → whole_answers_of bytes ≡ answers_of bytes ++ Err fault ∷ [] → number ≡ line_number_of bytes
    → (whole_fault_of bytes ≡ Some (number, fault)) × (whole_edges_of bytes ≡ edges_of bytes)
last_line-refused bytes number fault sound grows numbered =
    (whole-fault bytes fault sound grows ∙ ap (λ (n : ℕ). Some (n, fault)) (sym numbered), whole_edges-more bytes (Err fault ∷ []) grows ∙ append-nil (edges_of bytes))

-- there is room for the last row's edges
pub last_row-room : (bytes : List ℕ) (row : List Edge) → whole_answers_of bytes ≡ answers_of bytes ++ Ok row ∷ [] → length (edges_of bytes) + length row < 2 ^ 60
last_row-room bytes row grows =
    let all : length (whole_edges_of bytes) ≡ length (edges_of bytes) + length row = ap length (last_row-edges bytes row grows) ∙ length-append (edges_of bytes) row in
    omega (arith, all, whole_edges_are_few bytes)

-- the times of the last line's row are at most 10^15 ns
pub last_row-in_range : (bytes : List ℕ) (row : List Edge) → whole_answers_of bytes ≡ answers_of bytes ++ Ok row ∷ [] → All (λ edge. edge.time ≤ 10 ^ 15) row
last_row-in_range bytes row grows =
    on_right (λ (e : Edge). e.time ≤ 10 ^ 15) (edges_of bytes) row (subst (λ (es : List Edge). All (λ e. e.time ≤ 10 ^ 15) es) (last_row-edges bytes row grows) (whole_edges-in_range bytes))

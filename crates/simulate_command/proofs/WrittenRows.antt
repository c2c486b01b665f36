-- Rows that are written one after another.
use Rattle.std.proofs.Common.{◌≡◌, ℕ, ◌+◌, ◌*◌, ◌<◌, ◌≤◌, Option, Result, Ok, Err, IsOk, OnOk, List, [], ◌∷◌, ◌++◌, length, get_or, take, refl, sym, ◌∙◌, ap, subst, arith}
use Rattle.std.specs.Io.KnownBytes.{Appends}
use Rattle.std.proofs.KnownBytes.{Appends-nil}
use Rattle.std.proofs.lemmas.List.{append_assoc, append-nil, length-append, take_more, take_all, nil_from_length}
use Rattle.std.proofs.lemmas.Bool.{false≢true}
use Rattle.std.proofs.lemmas.Grind.{flat_map-append}
use Rattle.line_base.specs.declared.edge.Edge.{Edge}
use Rattle.edge_trace.specs.Texts.{narrow_text}
use Rattle.simulate_command.specs.Rows.{row_of, rows_of}

-- the rows of edges and of others behind them
pub rows-append : (edges more : List Edge) → rows_of (edges ++ more) ≡ rows_of edges ++ rows_of more
unfolding rows_of
rows-append edges more = flat_map-append row_of edges more

-- no edge has no row
pub rows-none : rows_of [] ≡ []
unfolding rows_of
rows-none = refl

pub row-one : (edge : Edge) → rows_of (edge ∷ []) ≡ narrow_text edge ++ 10 ∷ []
unfolding rows_of
row-one edge = append-nil (row_of edge)

-- the rows of the edges so far, each of at most 41 bytes
pub record RowsSoFar (edges : List Edge) (count : ℕ) (rows : List ℕ) : Type 0 where
  pub written : rows ≡ rows_of (take count edges)
  pub few : length rows ≤ 41 * count

pub no-row : (edges : List Edge) → RowsSoFar edges 0 []
no-row edges = record { written = sym rows-none; few = omega arith }

-- one row more
pub one-row : (edges : List Edge) (i : ℕ) (d : Edge) (rows behind : List ℕ) → RowsSoFar edges i rows → i < length edges → behind ≡ rows ++ narrow_text (get_or edges i d) → length (narrow_text (get_or edges i d)) ≤ 40
    → RowsSoFar edges (i + 1) (behind ++ 10 ∷ [])
one-row edges i d rows behind so_far within row short =
    let text = narrow_text (get_or edges i d) in
    let all : behind ++ 10 ∷ [] ≡ rows ++ (text ++ 10 ∷ []) = ap (λ l. l ++ 10 ∷ []) row ∙ append_assoc rows text (10 ∷ []) in
    let count : length (rows ++ (text ++ 10 ∷ [])) ≡ length rows + length (text ++ 10 ∷ []) = length-append rows (text ++ 10 ∷ []) in
    let own : length (text ++ 10 ∷ []) ≡ length text + 1 = length-append text (10 ∷ []) in
    let few = so_far.few in
    let whole : length (behind ++ 10 ∷ []) ≡ length (rows ++ (text ++ 10 ∷ [])) = ap length all in
    record {
      written = all ∙ ap (λ l. l ++ (text ++ 10 ∷ [])) so_far.written ∙ ap (λ l. rows_of (take i edges) ++ l) (sym (row-one (get_or edges i d))) ∙ sym (rows-append (take i edges) (get_or edges i d ∷ [])) ∙ ap rows_of (sym (take_more edges i d within));
      few = omega (arith, few, count, own, whole, short);
    }

-- all rows
pub all-rows : (edges : List Edge) (i : ℕ) (rows : List ℕ) → RowsSoFar edges i rows → length edges ≤ i → rows ≡ rows_of edges
all-rows edges i rows so_far past = so_far.written ∙ ap rows_of (take_all i edges past)

-- what holds of a good answer
pub at_ok : {T E P : Type 0} (r : Result T E) → IsOk r → OnOk r P → P
at_ok (Ok x) good p = p
at_ok (Err e) good p = absurd (false≢true good)

-- no edge has no row to put
pub put-nothing : (got : Option (List ℕ)) (edges : List Edge) → length edges ≡ 0 → Appends got got (rows_of edges)
put-nothing got edges e = subst (λ (l : List ℕ). Appends got got l) (sym (ap rows_of (nil_from_length edges e) ∙ rows-none)) (Appends-nil got)

-- The edges of an edge list that a channel is handed are orderly.
use Rattle.std.proofs.Common.{◌≡◌, ℕ, suc, ◌+◌, ◌^◌, ◌≤◌, ◌==◌, Bool, true, false, cond, Option, Some, None, List, [], ◌∷◌, length, map, filter, refl, sym, ◌∙◌, ap, subst, arith}
use Rattle.std.proofs.lemmas.Bool.{false≢true, eqb-true, ne_eqb}
use Rattle.std.proofs.lemmas.Map.Views.{Contains-from_any}
use Rattle.line_base.specs.declared.edge.Edge.{Edge}
use Rattle.line_base.specs.declared.edge.Item.TheVariants as item
use Rattle.line_base.specs.Orderly.{Alternates, levels_with, IsOrderlyFrom, IsOrderly}
use Rattle.edge_trace.specs.Limits.{edges_of, whole_edges_of}
use Rattle.edge_trace.specs.Ordered.{AreOrdered}
use Rattle.edge_trace.specs.Items.{is_one_of, items_on}
use Rattle.edge_trace.proofs.OrderedLists.{edges_are_ordered, whole_edges_are_ordered, edges_are_few, whole_edges_are_few}

-- the edges on these lines are orderly where all of them are ordered: behind fewer edges, an earlier time and the same levels of these lines
abbrev OrderlyOn : List ℕ → List Edge → Type 0
OrderlyOn lines edges = (number time before : ℕ) (levels kept : ℕ → Option Bool) → AreOrdered time levels edges → number + length edges ≤ 2 ^ 40 → before ≤ time → ((line : ℕ) → is_one_of lines line ≡ true → levels line ≡ kept line)
    → IsOrderlyFrom lines number before kept (map item.Edge (filter (λ edge. is_one_of lines edge.line) edges))

orderly_step : (t : Bool) (lines : List ℕ) (edge : Edge) (edges : List Edge) → is_one_of lines edge.line ≡ t → OrderlyOn lines edges → (number time before : ℕ) (levels kept : ℕ → Option Bool) → AreOrdered time levels (edge ∷ edges) → number + suc (length edges) ≤ 2 ^ 40 → before ≤ time → ((line : ℕ) → is_one_of lines line ≡ true → levels line ≡ kept line)
    → IsOrderlyFrom lines number before kept (map item.Edge (cond t (edge ∷ filter (λ e. is_one_of lines e.line) edges) (filter (λ e. is_one_of lines e.line) edges)))
unfolding AreOrdered IsOrderlyFrom
orderly_step true lines edge edges e others number time before levels kept ordered few not_later same = (
  record {
    on_a_line = Contains-from_any (λ x y f. eqb-true x y f) edge.line lines e;
    numbered = omega arith;
    not_earlier = (let later = ordered.0.not_earlier in omega arith);
    in_range = ordered.0.in_range;
    alternates = subst (λ (o : Option Bool). Alternates o edge.level) (same edge.line e) ordered.0.alternates;
  },
  others (number + 1) edge.time edge.time (levels_with levels edge.line edge.level) (levels_with kept edge.line edge.level) ordered.1 (omega arith) (omega arith)
      (λ line one. ap (cond (line == edge.line) (Some edge.level)) (same line one)),
)
orderly_step false lines edge edges e others number time before levels kept ordered few not_later same =
    others number edge.time before (levels_with levels edge.line edge.level) kept ordered.1 (omega arith) (let later = ordered.0.not_earlier in omega arith)
    (λ line one. ap (λ t. cond t (Some edge.level) (levels line)) (ne_eqb line edge.line (λ f. false≢true (sym e ∙ ap (is_one_of lines) (sym f) ∙ one))) ∙ same line one)

orderly_on : (lines : List ℕ) (edges : List Edge) → OrderlyOn lines edges
unfolding IsOrderlyFrom
orderly_on lines [] number time before levels kept ordered few not_later same = tt
orderly_on lines (edge ∷ edges) number time before levels kept ordered few not_later same =
    orderly_step (is_one_of lines edge.line) lines edge edges refl (orderly_on lines edges) number time before levels kept ordered few not_later same

pub items_are_orderly : (lines : List ℕ) (edges : List Edge) → AreOrdered 0 (λ _. None) edges → length edges ≤ 2 ^ 40 → IsOrderly lines (items_on lines edges)
unfolding IsOrderly items_on
items_are_orderly lines edges ordered few = orderly_on lines edges 0 0 0 (λ _. None) (λ _. None) ordered (omega arith) (omega arith) (λ line one. refl)

pub orderly_so_far : (bytes lines : List ℕ) → IsOrderly lines (items_on lines (edges_of bytes))
orderly_so_far bytes lines = items_are_orderly lines (edges_of bytes) (edges_are_ordered bytes) (edges_are_few bytes)

pub orderly_whole : (bytes lines : List ℕ) → IsOrderly lines (items_on lines (whole_edges_of bytes))
orderly_whole bytes lines = items_are_orderly lines (whole_edges_of bytes) (whole_edges_are_ordered bytes) (whole_edges_are_few bytes)

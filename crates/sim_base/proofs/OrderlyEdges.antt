-- Edges that are orderly one after the other.
--     last_time, levels_behind     what was before the next edge
--     orderly-append               orderly edges behind orderly edges
--     IsSoFar, none_so_far, more_so_far, so_far-orderly      the edges so far
--     has-line                     a line is among itself
--     orderly-in_order             their times don't go back
use Rattle.std.proofs.Common.{◌≡◌, ℕ, suc, ◌+◌, Bool, Option, None, List, [], ◌∷◌, ◌++◌, length, map, refl, ap, sym, subst, ◌∙◌, add-zero, zero-add, arith}
use Rattle.std.specs.List.{Contains}
use Rattle.line_base.specs.declared.edge.Edge.{Edge}
use Rattle.line_base.specs.declared.edge.Item.TheVariants as item
use Rattle.spc_tolerance.specs.Traces.{AreInOrder}
use Rattle.receiver_core.specs.Traces.{numbered}
use Rattle.line_base.specs.Orderly.{IsOrderly, IsOrderlyFrom, levels_with}

-- a line has itself
pub has-line : (line : ℕ) → Contains (line ∷ []) line
has-line line = (0, omega arith, refl)

-- the time of the last of these edges, and this one where there is none
abbrev pub last_time : ℕ → List Edge → ℕ
last_time time [] = time
last_time time (edge ∷ edges) = last_time edge.time edges

-- the levels of the lines behind these edges
abbrev pub levels_behind : (ℕ → Option Bool) → List Edge → ℕ → Option Bool
levels_behind levels [] = levels
levels_behind levels (edge ∷ edges) = levels_behind (levels_with levels edge.line edge.level) edges

pub orderly-append : (lines : List ℕ) (number time : ℕ) (levels : ℕ → Option Bool) (edges more : List Edge) → IsOrderlyFrom lines number time levels (map item.Edge edges)
    → IsOrderlyFrom lines (number + length edges) (last_time time edges) (levels_behind levels edges) (map item.Edge more) → IsOrderlyFrom lines number time levels (map item.Edge (edges ++ more))
unfolding IsOrderlyFrom
orderly-append lines number time levels [] more first second = subst (λ n. IsOrderlyFrom lines n time levels (map item.Edge more)) (add-zero number) second
orderly-append lines number time levels (edge ∷ edges) more first second =
    let next = levels_with levels edge.line edge.level in
    let same : number + suc (length edges) ≡ number + 1 + length edges = omega arith in
    (first.0, orderly-append lines (number + 1) edge.time next edges more first.1 (subst (λ n. IsOrderlyFrom lines n (last_time edge.time edges) (levels_behind next edges) (map item.Edge more)) same second))

pub last-append : (time : ℕ) (edges more : List Edge) → last_time time (edges ++ more) ≡ last_time (last_time time edges) more
last-append time [] more = refl
last-append time (edge ∷ edges) more = last-append edge.time edges more

pub levels-append : (levels : ℕ → Option Bool) (edges more : List Edge) → levels_behind levels (edges ++ more) ≡ levels_behind (levels_behind levels edges) more
levels-append levels [] more = refl
levels-append levels (edge ∷ edges) more = levels-append (levels_with levels edge.line edge.level) edges more

-- the edges of lines so far: orderly, with the time of the last and the levels behind them
pub record IsSoFar (lines : List ℕ) (edges : List Edge) (time : ℕ) (levels : ℕ → Option Bool) : Type 0 where
  pub orderly : IsOrderlyFrom lines 0 0 (λ _. None) (map item.Edge edges)
  pub time_is : last_time 0 edges ≡ time
  pub levels_are : levels_behind (λ _. None) edges ≡ levels

pub none_so_far : (lines : List ℕ) → IsSoFar lines [] 0 (λ _. None)
unfolding IsOrderlyFrom
none_so_far lines = record { orderly = tt; time_is = refl; levels_are = refl }

pub more_so_far : (lines : List ℕ) (edges more : List Edge) (time : ℕ) (levels : ℕ → Option Bool) → IsSoFar lines edges time levels → IsOrderlyFrom lines (length edges) time levels (map item.Edge more)
    → IsSoFar lines (edges ++ more) (last_time time more) (levels_behind levels more)
more_so_far lines edges more time levels so_far next = record {
  orderly = orderly-append lines 0 0 (λ _. None) edges more so_far.orderly
      (subst (λ t. IsOrderlyFrom lines (0 + length edges) t (levels_behind (λ _. None) edges) (map item.Edge more)) (sym so_far.time_is)
      (subst (λ (l : ℕ → Option Bool). IsOrderlyFrom lines (0 + length edges) time l (map item.Edge more)) (sym so_far.levels_are)
      (subst (λ n. IsOrderlyFrom lines n time levels (map item.Edge more)) (sym (zero-add (length edges))) next)));
  time_is = last-append 0 edges more ∙ ap (λ t. last_time t more) so_far.time_is;
  levels_are = levels-append (λ _. None) edges more ∙ ap (λ (l : ℕ → Option Bool). levels_behind l more) so_far.levels_are;
}

pub so_far-orderly : (lines : List ℕ) (edges : List Edge) (time : ℕ) (levels : ℕ → Option Bool) → IsSoFar lines edges time levels → IsOrderly lines (map item.Edge edges)
unfolding IsOrderly
so_far-orderly lines edges time levels so_far = so_far.orderly

-- the times of orderly edges don't go back
pub orderly-in_order : (lines : List ℕ) (number time count : ℕ) (levels : ℕ → Option Bool) (edges : List Edge) → IsOrderlyFrom lines number time levels (map item.Edge edges) → AreInOrder (numbered count edges)
unfolding IsOrderlyFrom numbered
orderly-in_order lines number time count levels [] orderly = tt
orderly-in_order lines number time count levels (edge ∷ []) orderly = tt
orderly-in_order lines number time count levels (edge ∷ next ∷ edges) orderly =
    (orderly.1.0.not_earlier, orderly-in_order lines (number + 1) edge.time (count + 1) (levels_with levels edge.line edge.level) (next ∷ edges) orderly.1)

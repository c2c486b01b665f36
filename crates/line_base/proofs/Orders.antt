-- Orderly lists of items: their fronts, what stands behind an end, and how long they are.
use Rattle.std.proofs.Common.{◌≡◌, ℕ, ◌+◌, ◌^◌, ◌≤◌, Bool, Option, None, List, [], ◌∷◌, ◌++◌, length, refl, ap, arith}
use Rattle.line_base.specs.Orderly.{IsOrderly, IsOrderlyFrom, levels_with}
use Rattle.line_base.specs.declared.edge.Item.{Item}
use Rattle.line_base.specs.declared.edge.Item.TheVariants as item

-- a front of the empty list is empty
nil-front : {A : Type 0} (xs ys : List A) → xs ++ ys ≡ [] → xs ≡ []
nil-front [] ys h = refl
nil-front (x ∷ xs) ys h = cc

-- a list with an element in it isn't empty
pub not-nil : {A : Type 0} (xs : List A) (y : A) (ys : List A) {C : Type 0} → xs ++ y ∷ ys ≡ [] → C
not-nil [] y ys h = absurd cc
not-nil (x ∷ xs) y ys h = absurd cc

-- the empty list is orderly
pub IsOrderly-nil : (lines : List ℕ) → IsOrderly lines []
unfolding IsOrderly IsOrderlyFrom
IsOrderly-nil lines = tt

-- a front of an orderly list is orderly
pub IsOrderlyFrom-front : (lines : List ℕ) (number time : ℕ) (levels : ℕ → Option Bool) (items more : List Item)
    → IsOrderlyFrom lines number time levels (items ++ more) → IsOrderlyFrom lines number time levels items
unfolding IsOrderlyFrom
IsOrderlyFrom-front lines number time levels [] more h = tt
IsOrderlyFrom-front lines number time levels (item.Edge edge ∷ items) more h =
    (h.0, IsOrderlyFrom-front lines (number + 1) edge.time (levels_with levels edge.line edge.level) items more h.1)
IsOrderlyFrom-front lines number time levels (item.Gap first count ∷ items) more h =
    (h.0, IsOrderlyFrom-front lines (number + count) time (λ _. None) items more h.1)
IsOrderlyFrom-front lines number time levels (item.End ∷ items) more h = nil-front items more h
IsOrderlyFrom-front lines number time levels (item.Cut ∷ items) more h = nil-front items more h

-- nothing follows an item that nothing may follow, wherever it stands
nothing-after : (lines : List ℕ) (last : Item)
    → ((number time : ℕ) (levels : ℕ → Option Bool) (more : List Item) → IsOrderlyFrom lines number time levels (last ∷ more) → more ≡ [])
    → (number time : ℕ) (levels : ℕ → Option Bool) (items more : List Item)
    → IsOrderlyFrom lines number time levels (items ++ last ∷ more) → more ≡ []
unfolding IsOrderlyFrom
nothing-after lines last is_last number time levels [] more h = is_last number time levels more h
nothing-after lines last is_last number time levels (item.Edge edge ∷ items) more h =
    nothing-after lines last is_last (number + 1) edge.time (levels_with levels edge.line edge.level) items more h.1
nothing-after lines last is_last number time levels (item.Gap first count ∷ items) more h =
    nothing-after lines last is_last (number + count) time (λ _. None) items more h.1
nothing-after lines last is_last number time levels (item.End ∷ items) more h = not-nil items last more h
nothing-after lines last is_last number time levels (item.Cut ∷ items) more h = not-nil items last more h

-- nothing follows the end
pub IsOrderlyFrom-end : (lines : List ℕ) (number time : ℕ) (levels : ℕ → Option Bool) (items more : List Item)
    → IsOrderlyFrom lines number time levels (items ++ item.End ∷ more) → more ≡ []
unfolding IsOrderlyFrom
IsOrderlyFrom-end lines = nothing-after lines item.End (λ number time levels more h. h)

-- nothing follows a cut
pub IsOrderlyFrom-cut : (lines : List ℕ) (number time : ℕ) (levels : ℕ → Option Bool) (items more : List Item)
    → IsOrderlyFrom lines number time levels (items ++ item.Cut ∷ more) → more ≡ []
unfolding IsOrderlyFrom
IsOrderlyFrom-cut lines = nothing-after lines item.Cut (λ number time levels more h. h)

-- each edge and gap has a number of its own below 2^40, and one end may follow
pub IsOrderlyFrom-bound : (lines : List ℕ) (number time : ℕ) (levels : ℕ → Option Bool) (items : List Item)
    → number ≤ 2 ^ 40 → IsOrderlyFrom lines number time levels items → number + length items ≤ 2 ^ 40 + 1
unfolding IsOrderlyFrom
IsOrderlyFrom-bound lines number time levels [] low h = omega arith
IsOrderlyFrom-bound lines number time levels (item.Edge edge ∷ items) low h =
    omega (arith, IsOrderlyFrom-bound lines (number + 1) edge.time (levels_with levels edge.line edge.level) items h.0.numbered h.1)
IsOrderlyFrom-bound lines number time levels (item.Gap first count ∷ items) low h =
    omega (arith, h.0.not_empty, IsOrderlyFrom-bound lines (number + count) time (λ _. None) items h.0.numbered h.1)
IsOrderlyFrom-bound lines number time levels (item.End ∷ items) low h = omega (arith, ap length h)
IsOrderlyFrom-bound lines number time levels (item.Cut ∷ items) low h = omega (arith, ap length h)

-- a front of an orderly list is orderly
pub IsOrderly-front : (lines : List ℕ) (items more : List Item) → IsOrderly lines (items ++ more) → IsOrderly lines items
unfolding IsOrderly
IsOrderly-front lines items more h = IsOrderlyFrom-front lines 0 0 (λ _. None) items more h

-- nothing follows the end
pub IsOrderly-end : (lines : List ℕ) (items more : List Item) → IsOrderly lines (items ++ item.End ∷ more) → more ≡ []
unfolding IsOrderly
IsOrderly-end lines items more h = IsOrderlyFrom-end lines 0 0 (λ _. None) items more h

-- nothing follows a cut
pub IsOrderly-cut : (lines : List ℕ) (items more : List Item) → IsOrderly lines (items ++ item.Cut ∷ more) → more ≡ []
unfolding IsOrderly
IsOrderly-cut lines items more h = IsOrderlyFrom-cut lines 0 0 (λ _. None) items more h

-- an orderly list has at most 2^40 + 1 items
pub IsOrderly-bound : (lines : List ℕ) (items : List Item) → IsOrderly lines items → length items ≤ 2 ^ 40 + 1
unfolding IsOrderly
IsOrderly-bound lines items h = omega (arith, IsOrderlyFrom-bound lines 0 0 (λ _. None) items (omega arith) h)

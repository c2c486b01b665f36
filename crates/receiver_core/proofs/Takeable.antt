-- A receiver may be handed the next item of an orderly list.
use Rattle.std.proofs.Common.{◌≡◌, ℕ, ◌+◌, Bool, Option, None, List, [], ◌∷◌, ◌++◌, subst, arith, add_assoc, zero-add}
use Rattle.line_base.specs.Orderly.{IsOrderly, IsOrderlyFrom, levels_with}
use Rattle.line_base.specs.declared.edge.Item.{Item}
use Rattle.line_base.specs.declared.edge.Item.TheVariants as item
use Rattle.line_base.specs.Items.{edges_counted}
use Rattle.receiver_core.specs.Readers.{IsTakeable}

-- a list with an element in it isn't empty
not-nil : {A : Type 0} (xs : List A) (y : A) {C : Type 0} → xs ++ y ∷ [] ≡ [] → C
not-nil [] y h = absurd cc
not-nil (x ∷ xs) y h = absurd cc

first-takeable : (lines : List ℕ) (number time : ℕ) (levels : ℕ → Option Bool) (next : Item) → IsOrderlyFrom lines number time levels (next ∷ []) → IsTakeable (number + 0) next
unfolding IsOrderlyFrom
first-takeable lines number time levels (item.Edge edge) h = (h.0.in_range, omega (arith, h.0.numbered))
first-takeable lines number time levels (item.Gap first count) h = omega (arith, h.0.numbered)
first-takeable lines number time levels item.End h = tt
first-takeable lines number time levels item.Cut h = tt

takeable_from : (lines : List ℕ) (number time : ℕ) (levels : ℕ → Option Bool) (seen : List Item) (next : Item)
    → IsOrderlyFrom lines number time levels (seen ++ next ∷ []) → IsTakeable (number + edges_counted seen) next
unfolding IsOrderlyFrom
takeable_from lines number time levels [] next h = first-takeable lines number time levels next h
takeable_from lines number time levels (item.Edge edge ∷ seen) next h =
    subst (λ (n : ℕ). IsTakeable n next) (add_assoc number 1 (edges_counted seen)) (takeable_from lines (number + 1) edge.time (levels_with levels edge.line edge.level) seen next h.1)
takeable_from lines number time levels (item.Gap first count ∷ seen) next h =
    subst (λ (n : ℕ). IsTakeable n next) (add_assoc number count (edges_counted seen)) (takeable_from lines (number + count) time (λ _. None) seen next h.1)
takeable_from lines number time levels (item.End ∷ seen) next h = not-nil seen next h
takeable_from lines number time levels (item.Cut ∷ seen) next h = not-nil seen next h

-- the next item of an orderly list may be handed to a receiver that stands for those before it
pub orderly-takeable : (lines : List ℕ) (seen : List Item) (next : Item) → IsOrderly lines (seen ++ next ∷ []) → IsTakeable (edges_counted seen) next
unfolding IsOrderly
orderly-takeable lines seen next h = subst (λ (n : ℕ). IsTakeable n next) (zero-add (edges_counted seen)) (takeable_from lines 0 0 (λ _. None) seen next h)

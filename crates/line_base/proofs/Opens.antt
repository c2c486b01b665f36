-- Orderly lists of items: what may follow, what stands behind an end, and what is counted of them.
--     closed-whole      behind an end nothing stands
--     open-edge, open-gap, open-wider      an edge, a gap in its place, a gap that takes it in: an end may follow
--     open-last, open-orderly, open-nil      an end or a cut may follow an open list
--     edges-few, lost-few      so many edges are counted at most
use Rattle.std.proofs.Common.{◌≡◌, ℕ, suc, ◌+◌, ◌^◌, ◌≤◌, Bool, true, false, true≢false, Option, None, List, [], ◌∷◌, ◌++◌, length, refl, sym, subst, arith, append_assoc}
use Rattle.line_base.specs.Orderly.{IsOrderly, IsOrderlyFrom, levels_with}
use Rattle.line_base.specs.Items.{IsOpen, edges_counted, has_end, last_item, lost_in}
use Rattle.line_base.proofs.Orders.{IsOrderly-front, not-nil}
use Rattle.line_base.specs.declared.edge.Edge.{Edge}
use Rattle.line_base.specs.declared.edge.Item.{Item}
use Rattle.line_base.specs.declared.edge.Item.TheVariants as item

-- behind an end nothing stands
closed-from : (lines : List ℕ) (number time : ℕ) (levels : ℕ → Option Bool) (items rest : List Item)
    → has_end items ≡ true → IsOrderlyFrom lines number time levels (items ++ rest) → rest ≡ []
unfolding IsOrderlyFrom
closed-from lines number time levels [] rest e h = absurd (true≢false (sym e))
closed-from lines number time levels (item.Edge edge ∷ items) rest e h =
    closed-from lines (number + 1) edge.time (levels_with levels edge.line edge.level) items rest e h.1
closed-from lines number time levels (item.Gap first count ∷ items) rest e h =
    closed-from lines (number + count) time (λ _. None) items rest e h.1
closed-from lines number time levels (item.End ∷ []) rest e h = h
closed-from lines number time levels (item.End ∷ (x ∷ xs)) rest e h = absurd cc
closed-from lines number time levels (item.Cut ∷ []) rest e h = h
closed-from lines number time levels (item.Cut ∷ (x ∷ xs)) rest e h = absurd cc

-- the same of an orderly list
pub closed-whole : (lines : List ℕ) (items rest : List Item) → has_end items ≡ true → IsOrderly lines (items ++ rest) → rest ≡ []
unfolding IsOrderly
closed-whole lines items rest e h = closed-from lines 0 0 (λ _. None) items rest e h

-- what stands behind a front may be changed for what may stand there too
changed-from : (lines : List ℕ) (number time : ℕ) (levels : ℕ → Option Bool) (items : List Item) (next : Item) (more other : List Item)
    → ((n t : ℕ) (l : ℕ → Option Bool) → n ≡ number + edges_counted items → IsOrderlyFrom lines n t l (next ∷ more) → IsOrderlyFrom lines n t l other)
    → IsOrderlyFrom lines number time levels (items ++ next ∷ more) → IsOrderlyFrom lines number time levels (items ++ other)
unfolding IsOrderlyFrom
changed-from lines number time levels [] next more other f h = f number time levels (omega arith) h
changed-from lines number time levels (item.Edge edge ∷ items) next more other f h =
    (h.0, changed-from lines (number + 1) edge.time (levels_with levels edge.line edge.level) items next more other (λ n t l e. f n t l (omega (arith, e))) h.1)
changed-from lines number time levels (item.Gap first count ∷ items) next more other f h =
    (h.0, changed-from lines (number + count) time (λ _. None) items next more other (λ n t l e. f n t l (omega (arith, e))) h.1)
changed-from lines number time levels (item.End ∷ items) next more other f h = not-nil items next more h
changed-from lines number time levels (item.Cut ∷ items) next more other f h = not-nil items next more h

changed : (lines : List ℕ) (items : List Item) (next : Item) (more other : List Item)
    → ((n t : ℕ) (l : ℕ → Option Bool) → n ≡ edges_counted items → IsOrderlyFrom lines n t l (next ∷ more) → IsOrderlyFrom lines n t l other)
    → IsOrderly lines (items ++ next ∷ more) → IsOrderly lines (items ++ other)
unfolding IsOrderly
changed lines items next more other f h = changed-from lines 0 0 (λ _. None) items next more other (λ n t l e. f n t l (omega (arith, e))) h

-- an end may follow an edge
pub open-edge : (lines : List ℕ) (items : List Item) (edge : Edge) → IsOrderly lines (items ++ item.Edge edge ∷ []) → IsOpen lines (items ++ item.Edge edge ∷ [])
unfolding IsOpen IsOrderlyFrom
open-edge lines items edge h =
    subst (IsOrderly lines) (sym (append_assoc items (item.Edge edge ∷ []) (item.End ∷ [])))
    (changed lines items (item.Edge edge) [] (item.Edge edge ∷ item.End ∷ []) (λ n t l e o. (o.0, refl)) h)

-- a gap of one edge may stand in an edge's place, and an end behind it
pub open-gap : (lines : List ℕ) (items : List Item) (edge : Edge) (number : ℕ) → number ≡ edges_counted items → IsOrderly lines (items ++ item.Edge edge ∷ []) → IsOpen lines (items ++ item.Gap number 1 ∷ [])
unfolding IsOpen IsOrderlyFrom
open-gap lines items edge number is h =
    subst (IsOrderly lines) (sym (append_assoc items (item.Gap number 1 ∷ []) (item.End ∷ [])))
    (changed lines items (item.Edge edge) [] (item.Gap number 1 ∷ item.End ∷ []) (λ n t l e o. (record { begins_here = omega (arith, is, e); not_empty = omega arith; numbered = o.0.numbered }, refl)) h)

-- a gap may take in the edge behind it
pub open-wider : (lines : List ℕ) (items : List Item) (first count : ℕ) (edge : Edge)
    → IsOrderly lines ((items ++ item.Gap first count ∷ []) ++ item.Edge edge ∷ []) → IsOpen lines (items ++ item.Gap first (count + 1) ∷ [])
unfolding IsOpen IsOrderlyFrom
open-wider lines items first count edge h =
    subst (IsOrderly lines) (sym (append_assoc items (item.Gap first (count + 1) ∷ []) (item.End ∷ [])))
    (changed lines items (item.Gap first count) (item.Edge edge ∷ []) (item.Gap first (count + 1) ∷ item.End ∷ [])
    (λ n t l e o. (record { begins_here = o.0.begins_here; not_empty = omega arith; numbered = (let few = o.1.0.numbered in omega (arith, few)) }, refl))
    (subst (IsOrderly lines) (append_assoc items (item.Gap first count ∷ []) (item.Edge edge ∷ [])) h))

-- an end or a cut may follow where an end may
pub open-last : (lines : List ℕ) (items : List Item) (cut : Bool) → IsOpen lines items → IsOrderly lines (items ++ last_item cut ∷ [])
unfolding IsOpen IsOrderlyFrom
open-last lines items false h = h
open-last lines items true h = changed lines items item.End [] (item.Cut ∷ []) (λ n t l e o. o) h

-- a list that an end may follow is orderly
pub open-orderly : (lines : List ℕ) (items : List Item) → IsOpen lines items → IsOrderly lines items
unfolding IsOpen
open-orderly lines items h = IsOrderly-front lines items (item.End ∷ []) h

-- an end may follow no items
pub open-nil : (lines : List ℕ) → IsOpen lines []
unfolding IsOpen IsOrderly IsOrderlyFrom
open-nil lines = refl

-- ---- counts
pub edges_counted-append : (xs ys : List Item) → edges_counted (xs ++ ys) ≡ edges_counted xs + edges_counted ys
edges_counted-append [] ys = omega arith
edges_counted-append (item.Edge edge ∷ xs) ys = (let e = edges_counted-append xs ys in omega (arith, e))
edges_counted-append (item.Gap first count ∷ xs) ys = (let e = edges_counted-append xs ys in omega (arith, e))
edges_counted-append (item.End ∷ xs) ys = edges_counted-append xs ys
edges_counted-append (item.Cut ∷ xs) ys = edges_counted-append xs ys

pub lost_in-append : (xs ys : List Item) → lost_in (xs ++ ys) ≡ lost_in xs + lost_in ys
lost_in-append [] ys = omega arith
lost_in-append (item.Edge edge ∷ xs) ys = lost_in-append xs ys
lost_in-append (item.Gap first count ∷ xs) ys = (let e = lost_in-append xs ys in omega (arith, e))
lost_in-append (item.End ∷ xs) ys = lost_in-append xs ys
lost_in-append (item.Cut ∷ xs) ys = lost_in-append xs ys

-- no more edges are lost than there are
pub lost-least : (xs : List Item) → lost_in xs ≤ edges_counted xs
lost-least [] = omega arith
lost-least (item.Edge edge ∷ xs) = (let e = lost-least xs in omega (arith, e))
lost-least (item.Gap first count ∷ xs) = (let e = lost-least xs in omega (arith, e))
lost-least (item.End ∷ xs) = lost-least xs
lost-least (item.Cut ∷ xs) = lost-least xs

edges-from : (lines : List ℕ) (number time : ℕ) (levels : ℕ → Option Bool) (items : List Item) → number ≤ 2 ^ 40 → IsOrderlyFrom lines number time levels items → number + edges_counted items ≤ 2 ^ 40
unfolding IsOrderlyFrom
edges-from lines number time levels [] low h = omega arith
edges-from lines number time levels (item.Edge edge ∷ items) low h =
    omega (arith, edges-from lines (number + 1) edge.time (levels_with levels edge.line edge.level) items h.0.numbered h.1)
edges-from lines number time levels (item.Gap first count ∷ items) low h =
    omega (arith, edges-from lines (number + count) time (λ _. None) items h.0.numbered h.1)
edges-from lines number time levels (item.End ∷ items) low h = subst (λ (l : List Item). number + edges_counted l ≤ 2 ^ 40) (sym h) (omega arith)
edges-from lines number time levels (item.Cut ∷ items) low h = subst (λ (l : List Item). number + edges_counted l ≤ 2 ^ 40) (sym h) (omega arith)

pub edges-few : (lines : List ℕ) (items : List Item) → IsOrderly lines items → edges_counted items ≤ 2 ^ 40
unfolding IsOrderly
edges-few lines items h = omega (arith, edges-from lines 0 0 (λ _. None) items (omega arith) h)

pub lost-few : (lines : List ℕ) (items : List Item) → IsOrderly lines items → lost_in items ≤ 2 ^ 40
lost-few lines items h = omega (arith, lost-least items, edges-few lines items h)

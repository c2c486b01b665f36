-- Edges of which runs are lost are orderly with gaps in their place.
--     thinned-orderly
use Rattle.std.proofs.Common.{◌≡◌, ℕ, ◌+◌, ◌-◌, ◌^◌, ◌≤◌, ◌==◌, ◌⊎◌, inl, inr, Bool, true, false, cond, Option, None, Some, List, [], ◌∷◌, ◌++◌, length, map, take, drop, refl, sym, ap, ◌∙◌, subst, arith, take-append-drop, ⊎_elim}
use Rattle.std.proofs.lemmas.List.{drop-drop, length-drop, length-take-le}
use Rattle.line_base.specs.Orderly.{Alternates, IsOrderly, IsOrderlyFrom, levels_with}
use Rattle.line_base.specs.Thinned.{AreLost, AreLostFrom, LostRun, thinned, thinned_from}
use Rattle.line_base.proofs.ThinnedEdges.{lost-within}
use Rattle.line_base.specs.declared.edge.Edge.{Edge}
use Rattle.line_base.specs.declared.edge.Item.{Item}
use Rattle.line_base.specs.declared.edge.Item.TheVariants as item

-- less is known of the levels
abbrev Weaker : (ℕ → Option Bool) → (ℕ → Option Bool) → Type 0
Weaker less levels = (line : ℕ) → (less line ≡ None) ⊎ (less line ≡ levels line)

none-alternates : (known : Option Bool) (level : Bool) → known ≡ None → Alternates known level
none-alternates None level e = tt
none-alternates (Some before) level e = absurd cc

still-alternates : (less known : Option Bool) (level : Bool) → (less ≡ None) ⊎ (less ≡ known) → Alternates known level → Alternates less level
still-alternates less known level weaker h = ⊎_elim (λ (e : less ≡ None). none-alternates less level e) (λ (e : less ≡ known). subst (λ (o : Option Bool). Alternates o level) (sym e) h) weaker

weaker-cond : (t : Bool) (level : Bool) (less known : Option Bool) → (less ≡ None) ⊎ (less ≡ known) → (cond t (Some level) less ≡ None) ⊎ (cond t (Some level) less ≡ cond t (Some level) known)
weaker-cond true level less known weaker = inr refl
weaker-cond false level less known weaker = weaker

weaker-with : (less levels : ℕ → Option Bool) (line : ℕ) (level : Bool) → Weaker less levels → Weaker (levels_with less line level) (levels_with levels line level)
weaker-with less levels line level weaker other = weaker-cond (other == line) level (less other) (levels other) (weaker other)

-- orderly behind an earlier time, and where less is known of the levels
relax : (lines : List ℕ) (number time earlier : ℕ) (levels less : ℕ → Option Bool) (edges : List Edge) → earlier ≤ time → Weaker less levels
    → IsOrderlyFrom lines number time levels (map item.Edge edges) → IsOrderlyFrom lines number earlier less (map item.Edge edges)
unfolding IsOrderlyFrom
relax lines number time earlier levels less [] low weaker h = tt
relax lines number time earlier levels less (edge ∷ edges) low weaker h = (
  record {
    on_a_line = h.0.on_a_line;
    numbered = h.0.numbered;
    not_earlier = (let later = h.0.not_earlier in omega (arith, later, low));
    in_range = h.0.in_range;
    alternates = still-alternates (less edge.line) (levels edge.line) edge.level (weaker edge.line) h.0.alternates;
  },
  relax lines (number + 1) edge.time edge.time (levels_with levels edge.line edge.level) (levels_with less edge.line edge.level) edges (omega arith) (weaker-with less levels edge.line edge.level weaker) h.1,
)

-- the edges behind some that are lost are orderly
behind-lost : (lines : List ℕ) (number time : ℕ) (levels : ℕ → Option Bool) (lost edges : List Edge)
    → IsOrderlyFrom lines number time levels (map item.Edge (lost ++ edges)) → IsOrderlyFrom lines (number + length lost) time (λ _. None) (map item.Edge edges)
unfolding IsOrderlyFrom
behind-lost lines number time levels [] edges h =
    subst (λ (n : ℕ). IsOrderlyFrom lines n time (λ _. None) (map item.Edge edges)) (let e : number ≡ number + 0 = omega arith in e)
    (relax lines number time time levels (λ _. None) edges (omega arith) (λ line. inl refl) h)
behind-lost lines number time levels (edge ∷ lost) edges h =
    let rest = behind-lost lines (number + 1) edge.time (levels_with levels edge.line edge.level) lost edges h.1 in
    subst (λ (n : ℕ). IsOrderlyFrom lines n time (λ _. None) (map item.Edge edges)) (let e : number + 1 + length lost ≡ number + length (edge ∷ lost) = omega arith in e)
    (relax lines (number + 1 + length lost) edge.time time (λ _. None) (λ _. None) edges h.0.not_earlier (λ line. inl refl) rest)

-- a gap behind some edges
with-gap : (lines : List ℕ) (number time : ℕ) (levels : ℕ → Option Bool) (kept lost edges : List Edge) (count : ℕ) (items : List Item) → 1 ≤ count → count ≡ length lost
    → IsOrderlyFrom lines number time levels (map item.Edge (kept ++ (lost ++ edges)))
    → number + length kept + count ≤ 2 ^ 40
    → ((t : ℕ) (l : ℕ → Option Bool) → IsOrderlyFrom lines (number + length kept + count) t (λ _. None) (map item.Edge edges) → IsOrderlyFrom lines (number + length kept + count) t (λ _. None) items)
    → IsOrderlyFrom lines number time levels (map item.Edge kept ++ item.Gap (number + length kept) count ∷ items)
unfolding IsOrderlyFrom
with-gap lines number time levels [] lost edges count items some is h few rest =
    let at : number + length {A = Edge} [] ≡ number = omega arith in
    let behind = behind-lost lines number time levels lost edges h in
    let here : IsOrderlyFrom lines (number + length {A = Edge} [] + count) time (λ _. None) (map item.Edge edges) =
    subst (λ (n : ℕ). IsOrderlyFrom lines n time (λ _. None) (map item.Edge edges)) (let e : number + length lost ≡ number + length {A = Edge} [] + count = omega (arith, is) in e) behind in (
      record { begins_here = at; not_empty = some; numbered = omega (arith, few) },
      subst (λ (n : ℕ). IsOrderlyFrom lines n time (λ _. None) items) (let e : number + length {A = Edge} [] + count ≡ number + count = omega arith in e) (rest time levels here),
    )
with-gap lines number time levels (edge ∷ kept) lost edges count items some is h few rest =
    let e : number + 1 + length kept ≡ number + length (edge ∷ kept) = omega arith in
    let further = with-gap lines (number + 1) edge.time (levels_with levels edge.line edge.level) kept lost edges count items some is h.1 (omega (arith, few))
    (λ t l o. subst (λ (n : ℕ). IsOrderlyFrom lines (n + count) t (λ _. None) items) (sym e) (rest t l (subst (λ (n : ℕ). IsOrderlyFrom lines (n + count) t (λ _. None) (map item.Edge edges)) e o))) in (
      h.0,
      subst (λ (n : ℕ). IsOrderlyFrom lines (number + 1) edge.time (levels_with levels edge.line edge.level) (map item.Edge kept ++ item.Gap n count ∷ items)) e further,
    )

-- an orderly list of edges has few
edges-bound : (lines : List ℕ) (number time : ℕ) (levels : ℕ → Option Bool) (edges : List Edge) → number ≤ 2 ^ 40 → IsOrderlyFrom lines number time levels (map item.Edge edges) → number + length edges ≤ 2 ^ 40
unfolding IsOrderlyFrom
edges-bound lines number time levels [] low h = omega (arith, low)
edges-bound lines number time levels (edge ∷ edges) low h = omega (arith, edges-bound lines (number + 1) edge.time (levels_with levels edge.line edge.level) edges h.0.numbered h.1)

orderly-from : (lines : List ℕ) (number time : ℕ) (levels : ℕ → Option Bool) (edges : List Edge) (runs : List LostRun) → number ≤ 2 ^ 40 → AreLostFrom number (number + length edges) runs
    → IsOrderlyFrom lines number time levels (map item.Edge edges) → IsOrderlyFrom lines number time levels (thinned_from number edges runs)
unfolding AreLostFrom thinned_from
orderly-from lines number time levels edges [] low lost h = h
orderly-from lines number time levels edges (run ∷ runs) low (behind, some, rest) h =
    let within = lost-within (run.first + run.count) (number + length edges) runs rest in
    let kept = take (run.first - number) edges in
    let others = drop (run.first - number) edges in
    let lost = take run.count others in
    let left = drop run.count others in
    let bound = edges-bound lines number time levels edges low h in
    let kept_long : length kept ≡ run.first - number = length-take-le (run.first - number) edges (omega (arith, within, behind)) in
    let others_long : length others ≡ length edges - (run.first - number) = length-drop (run.first - number) edges in
    let lost_long : length lost ≡ run.count = length-take-le run.count others (omega (arith, within, behind, others_long)) in
    let left_is : drop (run.first - number + run.count) edges ≡ left = sym (drop-drop run.count (run.first - number) edges) in
    let parts : edges ≡ kept ++ (lost ++ left) = sym (take-append-drop (run.first - number) edges) ∙ ap (λ (l : List Edge). kept ++ l) (sym (take-append-drop run.count others)) in
    let at : number + length kept ≡ run.first = omega (arith, kept_long, behind) in
    let left_long : length left ≡ length others - run.count = length-drop run.count others in
    let gap = with-gap lines number time levels kept lost left run.count (thinned_from (run.first + run.count) left runs) some (sym lost_long)
    (subst (λ (l : List Edge). IsOrderlyFrom lines number time levels (map item.Edge l)) parts h)
    (omega (arith, at, within, bound))
    (λ t l o.
    subst (λ (n : ℕ). IsOrderlyFrom lines n t (λ _. None) (thinned_from (run.first + run.count) left runs)) (ap (λ (n : ℕ). n + run.count) (sym at))
    (orderly-from lines (run.first + run.count) t (λ _. None) left runs (omega (arith, within, bound))
    (subst (λ (end : ℕ). AreLostFrom (run.first + run.count) end runs) (let e : number + length edges ≡ run.first + run.count + length left = omega (arith, left_long, others_long, within, behind) in e) rest)
    (subst (λ (n : ℕ). IsOrderlyFrom lines n t (λ _. None) (map item.Edge left)) (ap (λ (n : ℕ). n + run.count) at) o))) in
    subst (λ (x : ℕ × List Edge). IsOrderlyFrom lines number time levels (map item.Edge kept ++ item.Gap x.0 run.count ∷ thinned_from (run.first + run.count) x.1 runs)) (λ i. (at i, sym left_is i)) gap

-- so orderly edges are orderly when runs of them are lost
pub thinned-orderly : (lines : List ℕ) (edges : List Edge) (runs : List LostRun) → AreLost edges runs → IsOrderly lines (map item.Edge edges) → IsOrderly lines (thinned edges runs)
unfolding IsOrderly
thinned-orderly lines edges runs lost h =
    orderly-from lines 0 0 (λ _. None) edges runs (omega arith) (subst (λ (n : ℕ). AreLostFrom 0 n runs) (let e : length edges ≡ 0 + length edges = omega arith in e) lost) h

-- Runs of lost edges, and edges behind them.
--     lost-within, lost-further, lost-another      the runs lie within their edges, and within more
--     thinned-more      edges behind all runs stay
--     thinned-lost      edges behind all runs that are lost too are a gap
--     thinned-short     there are no more items than edges
use Rattle.std.proofs.Common.{◌≡◌, ℕ, ◌+◌, ◌-◌, ◌≤◌, List, [], ◌∷◌, ◌++◌, length, map, take, drop, sym, ap, ap₂, ◌∙◌, arith, append_assoc, length-append}
use Rattle.std.proofs.lemmas.List.{drop-append-le, drop_all, length-drop, length-map, length-take-le, map-append, take-append-le, take_at}
use Rattle.line_base.specs.Thinned.{AreLostFrom, LostRun, thinned_from}
use Rattle.line_base.specs.declared.edge.Edge.{Edge}
use Rattle.line_base.specs.declared.edge.Item.{Item}
use Rattle.line_base.specs.declared.edge.Item.TheVariants as item

-- runs lie within their edges
pub lost-within : (number end : ℕ) (runs : List LostRun) → AreLostFrom number end runs → number ≤ end
unfolding AreLostFrom
lost-within number end [] lost = lost
lost-within number end (run ∷ runs) (behind, some, rest) = (let within = lost-within (run.first + run.count) end runs rest in omega (arith, behind, some, within))

-- and within more edges
pub lost-further : (number end more : ℕ) (runs : List LostRun) → AreLostFrom number end runs → AreLostFrom number (end + more) runs
unfolding AreLostFrom
lost-further number end more [] lost = omega (arith, lost)
lost-further number end more (run ∷ runs) (behind, some, rest) = (behind, some, lost-further (run.first + run.count) end more runs rest)

-- a run that begins where they end is one more
pub lost-another : (number end more : ℕ) (runs : List LostRun) → 1 ≤ more → AreLostFrom number end runs → AreLostFrom number (end + more) (runs ++ record { first = end; count = more } ∷ [])
unfolding AreLostFrom
lost-another number end more [] one lost = (lost, one, omega arith)
lost-another number end more (run ∷ runs) one (behind, some, rest) = (behind, some, lost-another (run.first + run.count) end more runs one rest)

module _ (more : List Edge) where
  -- edges behind all runs stay
  pub thinned-more : (number end : ℕ) (edges : List Edge) (runs : List LostRun) → number + length edges ≡ end → AreLostFrom number end runs
      → thinned_from number (edges ++ more) runs ≡ thinned_from number edges runs ++ map item.Edge more
  unfolding thinned_from AreLostFrom
  thinned-more number end edges [] long lost = map-append item.Edge edges more
  thinned-more number end edges (run ∷ runs) long (behind, some, rest) =
      let within = lost-within (run.first + run.count) end runs rest in
      ap₂ (λ (front : List Edge) (end : List Item). map item.Edge front ++ item.Gap run.first run.count ∷ end)
      (take-append-le (run.first - number) edges more (omega (arith, long, behind, within)))
      (ap (λ l. thinned_from (run.first + run.count) l runs) (drop-append-le (run.first - number + run.count) edges more (omega (arith, long, behind, within)))
      ∙ thinned-more (run.first + run.count) end (drop (run.first - number + run.count) edges) runs (omega (arith, length-drop (run.first - number + run.count) edges, long, behind, within)) rest)
      ∙ sym (append_assoc (map item.Edge (take (run.first - number) edges)) (item.Gap run.first run.count ∷ thinned_from (run.first + run.count) (drop (run.first - number + run.count) edges) runs) (map item.Edge more))

  -- edges behind all runs that are lost too are a gap
  pub thinned-lost : (number end : ℕ) (edges : List Edge) (runs : List LostRun) → number + length edges ≡ end → AreLostFrom number end runs
      → thinned_from number (edges ++ more) (runs ++ record { first = end; count = length more } ∷ []) ≡ thinned_from number edges runs ++ item.Gap end (length more) ∷ []
  unfolding thinned_from AreLostFrom
  thinned-lost number end edges [] long lost =
      let whole : length edges ≡ end - number = omega (arith, long) in
      ap₂ (λ (front : List Edge) (behind : List Edge). map item.Edge front ++ item.Gap end (length more) ∷ map item.Edge behind)
      (take_at edges more (end - number) whole)
      (drop_all (end - number + length more) (edges ++ more) (omega (arith, length-append edges more, long)))
  thinned-lost number end edges (run ∷ runs) long (behind, some, rest) =
      let within = lost-within (run.first + run.count) end runs rest in
      ap₂ (λ (front : List Edge) (end : List Item). map item.Edge front ++ item.Gap run.first run.count ∷ end)
      (take-append-le (run.first - number) edges more (omega (arith, long, behind, within)))
      (ap (λ l. thinned_from (run.first + run.count) l (runs ++ record { first = end; count = length more } ∷ [])) (drop-append-le (run.first - number + run.count) edges more (omega (arith, long, behind, within)))
      ∙ thinned-lost (run.first + run.count) end (drop (run.first - number + run.count) edges) runs (omega (arith, length-drop (run.first - number + run.count) edges, long, behind, within)) rest)
      ∙ sym (append_assoc (map item.Edge (take (run.first - number) edges)) (item.Gap run.first run.count ∷ thinned_from (run.first + run.count) (drop (run.first - number + run.count) edges) runs) (item.Gap end (length more) ∷ []))

-- a gap stands for one edge or more
pub thinned-short : (number end : ℕ) (edges : List Edge) (runs : List LostRun) → number + length edges ≡ end → AreLostFrom number end runs → length (thinned_from number edges runs) ≤ length edges
unfolding thinned_from AreLostFrom
thinned-short number end edges [] long lost = omega (arith, length-map edges item.Edge)
thinned-short number end edges (run ∷ runs) long (behind, some, rest) =
    let within = lost-within (run.first + run.count) end runs rest in
    let dropped = length-drop (run.first - number + run.count) edges in
    let short = thinned-short (run.first + run.count) end (drop (run.first - number + run.count) edges) runs (omega (arith, dropped, long, behind, within)) rest in
    omega (
      arith,
      length-append (map item.Edge (take (run.first - number) edges)) (item.Gap run.first run.count ∷ thinned_from (run.first + run.count) (drop (run.first - number + run.count) edges) runs),
      length-map (take (run.first - number) edges) item.Edge,
      length-take-le (run.first - number) edges (omega (arith, long, behind, within)),
      dropped,
      short,
      long,
      behind,
      some,
      within,
    )

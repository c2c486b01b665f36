-- Edges that a receiver is not handed: the runs of them, and the items that come of them.
use Rattle.std.proofs.Common.{◌≡◌, ℕ, zero, suc, ◌+◌, ◌-◌, ◌*◌, ◌/◌, ◌%◌, ◌<◌, ◌≤◌, ◌⊎◌, inl, inr, min, Bool, true, false, ◌&&◌, nat_le, nat_lt, List, [], ◌∷◌, ◌++◌, length, map, take, drop, refl, ap, ap₂, sym, subst, ◌∙◌, arith, append_assoc, append-nil, length-append}
use Rattle.std.specs.List.{All, Contains, range_with_len}
use Rattle.std.proofs.lemmas.Bool.Decides.{nat_tests}
use Rattle.std.proofs.lemmas.List.{drop-append-le, drop_all, length-drop, length-map, length-take-le, map-append, take-append-le, take_at}
use Rattle.std.proofs.lemmas.List.FromFn.{get_or-map-range_with_len, length-map-range_with_len, map-range_with_len_more}
use Rattle.line_base.proofs.Opens.{edges_counted-append}
use Rattle.line_base.proofs.ThinnedEdges.{thinned-lost, thinned-more, thinned-short}
use Rattle.line_base.specs.Thinned.{AreLostFrom, LostRun, thinned, thinned_from}
use Rattle.line_base.specs.declared.edge.Edge.{Edge}
use Rattle.line_base.specs.declared.edge.Item.{Item}
use Rattle.line_base.specs.declared.edge.Item.TheVariants as item
use Rattle.line_base.specs.Items.{edges_counted}
use Rattle.loop_command.specs.LostRuns.{lost_run, lost_runs}
use Rattle.loop_command.specs.Listened.{IsThinnedTo, whole_run, whole_runs}

-- ---- the runs
same-run : (first count first' count' : ℕ) → first ≡ first' → count ≡ count' → (let run : LostRun = record { first = first; count = count } in run) ≡ record { first = first'; count = count' }
same-run first count first' count' e f = rw (e, f)

-- a run behind whose place there are 50 edges is whole
is-whole : (edges number : ℕ) → 1000 * number + 50 ≤ edges → lost_run edges number ≡ whole_run number
is-whole edges number enough = same-run (1000 * number) (min 50 (edges - 1000 * number)) (1000 * number) 50 refl (omega (arith, enough))

are-whole : (edges first count : ℕ) → 1000 * (first + count) + 50 ≤ edges + 1000 → map (lost_run edges) (range_with_len first count) ≡ map whole_run (range_with_len first count)
are-whole edges first zero enough = refl
are-whole edges first (suc count) enough = ap₂ (λ r (rs : List LostRun). r ∷ rs) (is-whole edges first (omega (arith, enough))) (are-whole edges (first + 1) count (omega (arith, enough)))

-- between the runs all are whole
pub runs-between : (edges whole : ℕ) → (whole ≡ 0) ⊎ (1000 * whole + 50 ≤ edges) → edges ≤ 1000 * (whole + 1) → lost_runs edges ≡ whole_runs whole
unfolding lost_runs
runs-between edges whole (inl none) before =
    let count : (edges - 1) / 1000 ≡ whole = omega (arith, none, before) in
    ap (λ n. map (lost_run edges) (range_with_len 1 n)) (count ∙ none) ∙ ap whole_runs (sym none)
runs-between edges whole (inr behind) before =
    let count : (edges - 1) / 1000 ≡ whole = omega (arith, behind, before) in
    ap (λ n. map (lost_run edges) (range_with_len 1 n)) count ∙ are-whole edges 1 whole (omega (arith, behind))

-- within a run the ones before it are whole
pub runs-within : (edges whole lost : ℕ) → edges ≡ 1000 * (whole + 1) + lost → 1 ≤ lost → lost ≤ 50 → lost_runs edges ≡ whole_runs whole ++ record { first = 1000 * (whole + 1); count = lost } ∷ []
unfolding lost_runs
runs-within edges whole lost at some few =
    let count : (edges - 1) / 1000 ≡ whole + 1 = omega (arith, at, some, few) in
    ap (λ n. map (lost_run edges) (range_with_len 1 n)) count
    ∙ map-range_with_len_more (lost_run edges) 1 whole (whole + 1) (omega arith)
    ∙ ap₂ (λ (rs : List LostRun) r. rs ++ r ∷ []) (are-whole edges 1 whole (omega (arith, at))) (same-run (1000 * (whole + 1)) (min 50 (edges - 1000 * (whole + 1))) (1000 * (whole + 1)) lost refl (omega (arith, at, some, few)))

-- ---- where they lie
-- whole runs lie within the edges up to one that is behind them
whole-lost : (number first count end : ℕ) → number ≤ 1000 * first → number ≤ end → 1000 * (first + count) + 50 ≤ end + 1000 → AreLostFrom number end (map whole_run (range_with_len first count))
unfolding AreLostFrom
whole-lost number first zero end behind within enough = within
whole-lost number first (suc count) end behind within enough = (behind, omega arith, whole-lost (1000 * first + 50) (first + 1) count end (omega arith) (omega (arith, enough)) (omega (arith, enough)))

pub whole_runs-lost : (whole end : ℕ) → (whole ≡ 0) ⊎ (1000 * whole + 50 ≤ end) → AreLostFrom 0 end (whole_runs whole)
unfolding AreLostFrom
whole_runs-lost whole end (inl none) = subst (λ (count : ℕ). AreLostFrom 0 end (whole_runs count)) (sym none) (omega arith)
whole_runs-lost whole end (inr behind) = whole-lost 0 1 whole end (omega arith) (omega arith) (omega (arith, behind))

-- so do all runs that are lost
runs-lost : (number first count end : ℕ) → number ≤ 1000 * first → number ≤ end → 1000 * (first + count) < end + 1000 → AreLostFrom number end (map (lost_run end) (range_with_len first count))
unfolding AreLostFrom
runs-lost number first zero end behind within enough = within
runs-lost number first (suc count) end behind within enough =
    (behind, omega (arith, enough), runs-lost (1000 * first + min 50 (end - 1000 * first)) (first + 1) count end (omega arith) (omega (arith, enough)) (omega (arith, enough)))

pub lost_runs-lost : (end : ℕ) → AreLostFrom 0 end (lost_runs end)
unfolding lost_runs AreLostFrom
lost_runs-lost zero = omega arith
lost_runs-lost (suc end) = runs-lost 0 1 ((suc end - 1) / 1000) (suc end) (omega arith) (omega arith) (omega arith)

-- so is what is lost of a loop's edges
pub lost-short : (edges : List Edge) → length (thinned edges (lost_runs (length edges))) ≤ length edges
lost-short edges = thinned-short 0 (length edges) edges (lost_runs (length edges)) (omega arith) (lost_runs-lost (length edges))

-- ---- one edge more
-- the number of an edge is one of a lost run, or isn't
abbrev pub is_lost : ℕ → Bool
is_lost number = nat_le 1000 number && nat_lt (number % 1000) 50

pub lost-at : (number : ℕ) → is_lost number ≡ true → (1000 ≤ number) × (number % 1000 < 50)
lost-at number e = (grind (arith, nat_tests), grind (arith, nat_tests))

kept-late : (number : ℕ) (late : Bool) → nat_le 1000 number ≡ late → is_lost number ≡ false → (number < 1000) ⊎ (50 ≤ number % 1000)
kept-late number true le e = inr (grind (arith, nat_tests))
kept-late number false le e = inl (grind (arith, nat_tests))

pub kept-at : (number : ℕ) → is_lost number ≡ false → (number < 1000) ⊎ (50 ≤ number % 1000)
kept-at number e = kept-late number (nat_le 1000 number) refl e

pub nothing-thinned : IsThinnedTo [] []
unfolding thinned_from
nothing-thinned = record {
  whole = 0;
  kept = [];
  lost = [];
  parts = refl;
  are = refl;
  behind = inl refl;
  before = omega arith;
  few = omega arith;
  opened = inl refl;
  counted = refl;
  short = omega arith;
}

-- ---- where a run stands: so many are whole, so many edges are kept, and so many of the open one are lost
not_lost-none : (whole kept lost : ℕ) → (lost ≡ 0) ⊎ (kept ≡ 1000 * (whole + 1)) → lost < 50 → (kept + lost < 1000) ⊎ (50 ≤ (kept + lost) % 1000) → lost ≡ 0
not_lost-none whole kept lost (inl none) few at = none
not_lost-none whole kept lost (inr place) few (inl early) = absurd (omega (arith, place, early))
not_lost-none whole kept lost (inr place) few (inr late) = absurd (omega (arith, place, few, late))

not_lost-before : (whole kept : ℕ) → kept ≤ 1000 * (whole + 1) → (kept < 1000) ⊎ (50 ≤ kept % 1000) → kept + 1 ≤ 1000 * (whole + 1)
not_lost-before whole kept before (inl early) = omega (arith, before, early)
not_lost-before whole kept before (inr late) = omega (arith, before, late)

lost-place : (whole kept lost : ℕ) → (whole ≡ 0) ⊎ (1000 * whole + 50 ≤ kept) → kept ≤ 1000 * (whole + 1) → (lost ≡ 0) ⊎ (kept ≡ 1000 * (whole + 1)) → 1000 ≤ kept + lost → (kept + lost) % 1000 < 50 → kept ≡ 1000 * (whole + 1)
lost-place whole kept lost behind before (inr place) late early = place
lost-place whole kept lost (inl first) before (inl none) late early = omega (arith, first, before, none, late)
lost-place whole kept lost (inr behind) before (inl none) late early = omega (arith, behind, before, none, late, early)

lost-count : (whole kept lost : ℕ) → kept ≡ 1000 * (whole + 1) → lost < 50 → (kept + lost) % 1000 ≡ lost
lost-count whole kept lost place few = omega (arith, place, few)

still-behind : (whole kept kept' : ℕ) → kept ≤ kept' → (whole ≡ 0) ⊎ (1000 * whole + 50 ≤ kept) → (whole ≡ 0) ⊎ (1000 * whole + 50 ≤ kept')
still-behind whole kept kept' more (inl first) = inl first
still-behind whole kept kept' more (inr behind) = inr (omega (arith, more, behind))

pub no-edges : (edges : List Edge) → length edges ≡ 0 → edges ≡ []
no-edges [] e = refl
no-edges (edge ∷ edges) e = absurd (omega (arith, e))

module _ (edges : List Edge) (items : List Item) (made : IsThinnedTo edges items) where
  long : length edges ≡ length made.kept + length made.lost
  long = ap length made.parts ∙ length-append made.kept made.lost

  lies : AreLostFrom 0 (length made.kept) (whole_runs made.whole)
  lies = whole_runs-lost made.whole (length made.kept) made.behind

  none-open : is_lost (length edges) ≡ false → length made.lost ≡ 0
  none-open here = not_lost-none made.whole (length made.kept) (length made.lost) made.opened made.few (subst (λ (n : ℕ). (n < 1000) ⊎ (50 ≤ n % 1000)) long (kept-at (length edges) here))

  all-kept : length made.lost ≡ 0 → edges ≡ made.kept
  all-kept none = made.parts ∙ ap (λ l. made.kept ++ l) (no-edges made.lost none) ∙ append-nil made.kept

  place : is_lost (length edges) ≡ true → length made.kept ≡ 1000 * (made.whole + 1)
  place here =
      let at = lost-at (length edges) here in
      lost-place made.whole (length made.kept) (length made.lost) made.behind made.before made.opened (omega (arith, long, at.0)) (subst (λ (n : ℕ). n % 1000 < 50) long at.1)

  pub open-count : is_lost (length edges) ≡ true → length edges % 1000 ≡ length made.lost
  open-count here = ap (λ n. n % 1000) long ∙ lost-count made.whole (length made.kept) (length made.lost) (place here) made.few

  -- a run that is open may be lost as it is
  lost-all : length made.kept ≡ 1000 * (made.whole + 1) → 1 ≤ length made.lost → lost_runs (length edges) ≡ whole_runs made.whole ++ record { first = length made.kept; count = length made.lost } ∷ []
  lost-all at some =
      runs-within (length edges) made.whole (length made.lost) (omega (arith, long, at)) some (omega (arith, made.few))
      ∙ ap (λ (first : ℕ). whole_runs made.whole ++ record { first = first; count = length made.lost } ∷ []) (sym at)

  -- ---- the end
  -- of a run that is open there is a gap
  pub thinned-open : is_lost (length edges) ≡ true → 0 < length edges % 1000
      → thinned edges (lost_runs (length edges)) ≡ items ++ item.Gap (length edges - length edges % 1000) (length edges % 1000) ∷ []
  thinned-open here some =
      let count = open-count here in
      ap₂ thinned made.parts (lost-all (place here) (omega (arith, count, some)))
      ∙ thinned-lost made.lost 0 (length made.kept) made.kept (whole_runs made.whole) (omega arith) lies
      ∙ ap₂ (λ (front : List Item) (gap : Item). front ++ gap ∷ []) (sym made.are)
      (ap₂ item.Gap (let first : length made.kept ≡ length edges - length edges % 1000 = omega (arith, long, count) in first) (sym count))

  -- and else none
  thinned-kept : length made.lost ≡ 0 → thinned edges (lost_runs (length edges)) ≡ items
  thinned-kept none =
      let same = all-kept none in
      ap₂ thinned same (ap (λ (l : List Edge). lost_runs (length l)) same ∙ runs-between (length made.kept) made.whole made.behind made.before) ∙ sym made.are

  pub thinned-closed : (here : Bool) → is_lost (length edges) ≡ here → (here ≡ true → length edges % 1000 ≡ 0) → thinned edges (lost_runs (length edges)) ≡ items
  thinned-closed true here none = thinned-kept (sym (open-count here) ∙ none refl)
  thinned-closed false here none = thinned-kept (none-open here)

  -- ---- one edge more
  module _ (edge : Edge) where
    one-longer : length (edges ++ edge ∷ []) ≡ length edges + 1
    one-longer = length-append edges (edge ∷ [])

    -- one that isn't lost
    pub thins-kept : is_lost (length edges) ≡ false → IsThinnedTo (edges ++ edge ∷ []) (items ++ item.Edge edge ∷ [])
    thins-kept here =
        let none = none-open here in
        let same = all-kept none in
        let longer = length-append made.kept (edge ∷ []) in
        record {
          whole = made.whole;
          kept = made.kept ++ edge ∷ [];
          lost = [];
          parts = ap (λ l. l ++ edge ∷ []) same ∙ sym (append-nil (made.kept ++ edge ∷ []));
          are = ap (λ l. l ++ item.Edge edge ∷ []) made.are ∙ sym (thinned-more (edge ∷ []) 0 (length made.kept) made.kept (whole_runs made.whole) (omega arith) lies);
          behind = still-behind made.whole (length made.kept) (length (made.kept ++ edge ∷ [])) (omega (arith, longer)) made.behind;
          before = (let one = not_lost-before made.whole (length made.kept) made.before (subst (λ (l : List Edge). (length l < 1000) ⊎ (50 ≤ length l % 1000)) same (kept-at (length edges) here)) in omega (arith, longer, one));
          few = omega arith;
          opened = inl refl;
          counted = edges_counted-append items (item.Edge edge ∷ []) ∙ (let was = made.counted in omega (arith, was, longer));
          short = (let was = made.short in let more = length-append items (item.Edge edge ∷ []) in omega (arith, was, longer, more));
        }

    -- one of a run that stays open
    pub thins-lost : is_lost (length edges) ≡ true → length edges % 1000 < 49 → IsThinnedTo (edges ++ edge ∷ []) items
    thins-lost here stays =
        let count = open-count here in
        let longer = length-append made.lost (edge ∷ []) in
        record {
          whole = made.whole;
          kept = made.kept;
          lost = made.lost ++ edge ∷ [];
          parts = ap (λ l. l ++ edge ∷ []) made.parts ∙ append_assoc made.kept made.lost (edge ∷ []);
          are = made.are;
          behind = made.behind;
          before = made.before;
          few = omega (arith, longer, count, stays);
          opened = inr (place here);
          counted = made.counted;
          short = made.short;
        }

    -- the last one of a run
    pub thins-whole : is_lost (length edges) ≡ true → length edges % 1000 ≡ 49 → IsThinnedTo (edges ++ edge ∷ []) (items ++ item.Gap (length edges - 49) 50 ∷ [])
    thins-whole here last =
        let count = open-count here in
        let at = place here in
        let longer = length-append made.lost (edge ∷ []) in
        let whole_now : length (made.lost ++ edge ∷ []) ≡ 50 = omega (arith, longer, count, last) in
        let all = length-append made.kept (made.lost ++ edge ∷ []) in
        let first : length edges - 49 ≡ length made.kept = omega (arith, long, count, last) in
        let parts : edges ++ edge ∷ [] ≡ made.kept ++ (made.lost ++ edge ∷ []) = ap (λ l. l ++ edge ∷ []) made.parts ∙ append_assoc made.kept made.lost (edge ∷ []) in
        record {
          whole = made.whole + 1;
          kept = made.kept ++ (made.lost ++ edge ∷ []);
          lost = [];
          parts = parts ∙ sym (append-nil (made.kept ++ (made.lost ++ edge ∷ [])));
          are =
              ap₂ (λ (front : List Item) (gap : Item). front ++ gap ∷ []) made.are (ap₂ item.Gap first (sym whole_now))
              ∙ sym (thinned-lost (made.lost ++ edge ∷ []) 0 (length made.kept) made.kept (whole_runs made.whole) (omega arith) lies)
              ∙ ap (λ (run : LostRun). thinned (made.kept ++ (made.lost ++ edge ∷ [])) (whole_runs made.whole ++ run ∷ [])) (same-run (length made.kept) (length (made.lost ++ edge ∷ [])) (1000 * (made.whole + 1)) 50 at whole_now)
              ∙ ap (thinned (made.kept ++ (made.lost ++ edge ∷ []))) (sym (map-range_with_len_more whole_run 1 made.whole (made.whole + 1) (omega arith)));
          behind = inr (omega (arith, all, at, whole_now));
          before = omega (arith, all, at, whole_now);
          few = omega arith;
          opened = inl refl;
          counted = edges_counted-append items (item.Gap (length edges - 49) 50 ∷ []) ∙ (let was = made.counted in omega (arith, was, all, whole_now));
          short = (let was = made.short in let more = length-append items (item.Gap (length edges - 49) 50 ∷ []) in omega (arith, was, all, whole_now, more));
        }

-- ---- which runs are lost
pub run-lost : (edges number : ℕ) → 1 ≤ number → 1000 * number < edges → Contains (lost_runs edges) (lost_run edges number)
unfolding lost_runs
run-lost edges number first within =
    let count = (edges - 1) / 1000 in (
      number - 1,
      omega (arith, length-map-range_with_len (lost_run edges) 1 count, first, within),
      get_or-map-range_with_len (lost_run edges) 1 count (number - 1) number (lost_run edges number) (omega (arith, first, within)) (omega (arith, first)),
    )

pub runs-alone : (edges : ℕ) → All (λ run. (number : ℕ) × (1 ≤ number) × (1000 * number < edges) × (run ≡ lost_run edges number)) (lost_runs edges)
unfolding lost_runs
runs-alone edges = λ k d lt.
    let count = (edges - 1) / 1000 in
    let few : k < count = omega (arith, length-map-range_with_len (lost_run edges) 1 count, lt) in
    (k + 1, omega arith, omega (arith, few), get_or-map-range_with_len (lost_run edges) 1 count k (k + 1) d few (omega arith))

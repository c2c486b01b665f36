-- The bursts of a line, and what stands before the first edge of one.
--     parted-complete, parted-all      what stands before a burst's first edge is complete
--     complete-open, all-open      edges that end in a burst that isn't complete
--     complete-start      edges the last of which is the first of a burst
--     starts-append, starts-start      the first edges of bursts
use Rattle.std.proofs.Common.{◌≡◌, ℕ, suc, ◌+◌, Bool, true, false, ◌&&◌, ◌||◌, not, cond, if◌then◌else◌, List, [], ◌∷◌, ◌++◌, take, map, refl, sym, ◌∙◌, ap, append-nil, arith}
use Rattle.std.specs.List.{filter, prefix_len}
use Rattle.std.proofs.lemmas.List.{map-append}
use Rattle.std.proofs.lemmas.List.Elements.{filter-append}
use Rattle.std.proofs.lemmas.List.Folds.{list_any-append}
use Rattle.psi5_frame.specs.Setup.{Settings}
use Rattle.psi5_frame.specs.Edges.{Change}
use Rattle.psi5_frame.specs.Bursts.{begins, has_start, run_of, judged, complete_bursts, all_bursts, starts_in}

pub has_start-append : (xs ys : List Change) → has_start (xs ++ ys) ≡ (has_start xs || has_start ys)
unfolding has_start
has_start-append xs ys = list_any-append begins xs ys

pub run_of-cons : (x : Change) (xs : List Change) → run_of (x ∷ xs) ≡ (if begins x then [] else x ∷ run_of xs)
unfolding run_of
run_of-cons x xs = by_first (begins x) (prefix_len (λ edge. not (begins edge)) xs)
  where
    by_first : (b : Bool) (n : ℕ) → take (cond (not b) (1 + n) 0) (x ∷ xs) ≡ (if b then [] else x ∷ take n xs)
    by_first true n = refl
    by_first false n = let e : 1 + n ≡ suc n = omega arith in ap (λ k. take k (x ∷ xs)) e

-- a list with a start in it, whatever stands before
start_within : (before : List Change) (first : Change) (later : List Change) → begins first ≡ true → has_start (before ++ first ∷ later) ≡ true
unfolding has_start
start_within [] first later starts = rw starts refl
start_within (x ∷ before) first later starts = by_first (begins x) (start_within before first later starts)
  where
    by_first : (b : Bool) → has_start (before ++ first ∷ later) ≡ true → (b || has_start (before ++ first ∷ later)) ≡ true
    by_first true e = refl
    by_first false e = e

pub run_none : run_of [] ≡ []
unfolding run_of
run_none = refl

run_within : (before : List Change) (first : Change) (later : List Change) → begins first ≡ true → run_of (before ++ first ∷ later) ≡ run_of before
run_within [] first later starts = run_of-cons first later ∙ rw starts (sym run_none)
run_within (x ∷ before) first later starts =
    run_of-cons x (before ++ first ∷ later) ∙ ap (λ l. if begins x then [] else x ∷ l) (run_within before first later starts) ∙ sym (run_of-cons x before)

pub run_whole : (later : List Change) → has_start later ≡ false → run_of later ≡ later
unfolding has_start
run_whole [] none = run_none
run_whole (x ∷ later) none = run_of-cons x later ∙ by_first (begins x) none (λ n. run_whole later n)
  where
    by_first : (b : Bool) → (b || has_start later) ≡ false → (has_start later ≡ false → run_of later ≡ later) → (if b then [] else x ∷ run_of later) ≡ x ∷ later
    by_first true none whole = absurd cc
    by_first false none whole = ap (λ l. x ∷ l) (whole none)

-- edges none of which begins a burst make none
pub record HaveNone (s : Settings) (edges : List Change) : Type 0 where
  pub complete : complete_bursts s edges ≡ []
  pub all : all_bursts s edges ≡ []
  pub starts : starts_in edges ≡ []

pub no_bursts : (s : Settings) (edges : List Change) → has_start edges ≡ false → HaveNone s edges
unfolding complete_bursts all_bursts starts_in has_start
no_bursts s [] none = record { complete = refl; all = refl; starts = refl }
no_bursts s (x ∷ later) none = by_first (begins x) refl none (λ n. no_bursts s later n)
  where
    by_first : (b : Bool) → begins x ≡ b → (b || has_start later) ≡ false → (has_start later ≡ false → HaveNone s later) → HaveNone s (x ∷ later)
    by_first true e none later_none = absurd cc
    by_first false e none later_none =
        let h = later_none none in
        record { complete = rw e h.complete; all = rw e h.all; starts = rw e h.starts }

-- what stands before a burst's first edge is complete
pub parted-complete : (s : Settings) (before : List Change) (first : Change) (later : List Change) → begins first ≡ true
    → complete_bursts s (before ++ first ∷ later) ≡ all_bursts s before ++ complete_bursts s (first ∷ later)
unfolding complete_bursts all_bursts
parted-complete s [] first later starts = refl
parted-complete s (x ∷ before) first later starts =
    rw (start_within before first later starts, run_within before first later starts, parted-complete s before first later starts) (by_first (begins x))
  where
    by_first : (b : Bool) → cond (b && true) (judged s x (run_of before) ∷ (all_bursts s before ++ complete_bursts s (first ∷ later))) (all_bursts s before ++ complete_bursts s (first ∷ later))
        ≡ cond b (judged s x (run_of before) ∷ all_bursts s before) (all_bursts s before) ++ complete_bursts s (first ∷ later)
    by_first true = refl
    by_first false = refl

pub parted-all : (s : Settings) (before : List Change) (first : Change) (later : List Change) → begins first ≡ true
    → all_bursts s (before ++ first ∷ later) ≡ all_bursts s before ++ all_bursts s (first ∷ later)
unfolding all_bursts
parted-all s [] first later starts = refl
parted-all s (x ∷ before) first later starts =
    rw (run_within before first later starts, parted-all s before first later starts) (by_first (begins x))
  where
    by_first : (b : Bool) → cond b (judged s x (run_of before) ∷ (all_bursts s before ++ all_bursts s (first ∷ later))) (all_bursts s before ++ all_bursts s (first ∷ later))
        ≡ cond b (judged s x (run_of before) ∷ all_bursts s before) (all_bursts s before) ++ all_bursts s (first ∷ later)
    by_first true = refl
    by_first false = refl

-- a burst that nothing follows is open
pub open-complete : (s : Settings) (first : Change) (later : List Change) → has_start later ≡ false → complete_bursts s (first ∷ later) ≡ []
unfolding complete_bursts
open-complete s first later none = by_first (begins first)
  where
    by_first : (b : Bool) → cond (b && has_start later) (judged s first (run_of later) ∷ complete_bursts s later) (complete_bursts s later) ≡ []
    by_first true = rw none (no_bursts s later none).complete
    by_first false = (no_bursts s later none).complete

pub open-all : (s : Settings) (first : Change) (later : List Change) → begins first ≡ true → has_start later ≡ false → all_bursts s (first ∷ later) ≡ judged s first later ∷ []
unfolding all_bursts
open-all s first later starts none = rw (starts, run_whole later none, (no_bursts s later none).all) refl

-- ---- a list that ends in an open burst
pub complete-open : (s : Settings) (before : List Change) (first : Change) (later : List Change) → begins first ≡ true → has_start later ≡ false
    → complete_bursts s (before ++ first ∷ later) ≡ all_bursts s before
complete-open s before first later starts none =
    parted-complete s before first later starts ∙ ap (λ l. all_bursts s before ++ l) (open-complete s first later none) ∙ append-nil (all_bursts s before)

pub all-open : (s : Settings) (before : List Change) (first : Change) (later : List Change) → begins first ≡ true → has_start later ≡ false
    → all_bursts s (before ++ first ∷ later) ≡ all_bursts s before ++ judged s first later ∷ []
all-open s before first later starts none =
    parted-all s before first later starts ∙ ap (λ l. all_bursts s before ++ l) (open-all s first later starts none)

pub no_start : has_start [] ≡ false
unfolding has_start
no_start = refl

-- the last edge begins a burst, so all bursts before it are complete
pub complete-start : (s : Settings) (before : List Change) (edge : Change) → begins edge ≡ true → complete_bursts s (before ++ edge ∷ []) ≡ all_bursts s before
complete-start s before edge starts = complete-open s before edge [] starts no_start

pub starts-append : (xs ys : List Change) → starts_in (xs ++ ys) ≡ starts_in xs ++ starts_in ys
unfolding starts_in
starts-append xs ys = ap (map (λ (edge : Change). edge.number)) (filter-append begins xs ys) ∙ map-append (λ (edge : Change). edge.number) (filter begins xs) (filter begins ys)

pub starts-start : (edge : Change) → begins edge ≡ true → starts_in (edge ∷ []) ≡ edge.number ∷ []
unfolding starts_in
starts-start edge e = rw e refl

pub has_start-loud : (edge : Change) → begins edge ≡ false → has_start (edge ∷ []) ≡ false
unfolding has_start
has_start-loud edge e = rw e refl

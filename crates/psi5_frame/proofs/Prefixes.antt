-- What is told of some edges stays when more come, and at the end.
--     grows-bursts, grows-starts      the bursts so far, and their first edges, when more edges come
--     grows-at_end      the bursts so far, and those at the end of more edges
use Rattle.std.proofs.Common.{◌≡◌, ℕ, Bool, true, false, ◌&&◌, ◌||◌, if◌then◌else◌, List, [], ◌∷◌, ◌++◌, refl, sym, ◌∙◌, ap, subst}
use Rattle.line_base.specs.Edges.{NumberedEdge}
use Rattle.line_base.specs.Streams.{IsFrontOf}
use Rattle.line_base.proofs.Fronts.{IsFrontOf-nil, IsFrontOf-append, IsFrontOf-after}
use Rattle.psi5_frame.specs.declared.burst.Burst.{Burst}
use Rattle.psi5_frame.specs.Setup.{Settings}
use Rattle.psi5_frame.specs.Edges.{Change, change_at, changes_of, changes_after}
use Rattle.psi5_frame.specs.Bursts.{begins, has_start, run_of, judged, complete_bursts, all_bursts, starts_in, bursts_so_far, bursts_at_end, burst_starts}
use Rattle.psi5_frame.proofs.Runs.{has_start-append, no_bursts, run_of-cons, starts-append}

-- ---- the changes
changes_after-front : (bit before : ℕ) (edges more : List NumberedEdge) → IsFrontOf (changes_after bit before edges) (changes_after bit before (edges ++ more))
unfolding changes_after
changes_after-front bit before [] more = IsFrontOf-nil (changes_after bit before more)
changes_after-front bit before (e ∷ edges) more = IsFrontOf-after (change_at bit before e ∷ []) (changes_after-front bit e.edge.time edges more)

changes_of-front : (bit : ℕ) (edges more : List NumberedEdge) → IsFrontOf (changes_of bit edges) (changes_of bit (edges ++ more))
unfolding changes_of
changes_of-front bit [] more = IsFrontOf-nil (changes_of bit more)
changes_of-front bit (opening ∷ edges) more = changes_after-front bit opening.edge.time edges more

-- ---- the bursts
-- the run before a burst knows nothing of what comes after its first edge
run_of-append : (xs ys : List Change) → has_start xs ≡ true → run_of (xs ++ ys) ≡ run_of xs
unfolding has_start
run_of-append [] ys some = absurd cc
run_of-append (x ∷ xs) ys some = run_of-cons x (xs ++ ys) ∙ by_first (begins x) some (λ rest. run_of-append xs ys rest) ∙ sym (run_of-cons x xs)
  where
    by_first : (b : Bool) → (b || has_start xs) ≡ true → (has_start xs ≡ true → run_of (xs ++ ys) ≡ run_of xs) → (if b then [] else x ∷ run_of (xs ++ ys)) ≡ (if b then [] else x ∷ run_of xs)
    by_first true some rest = refl
    by_first false some rest = ap (λ l. x ∷ l) (rest some)

-- what one more edge at the front changes, where a burst begins behind it
pub complete-cons : (s : Settings) (x : Change) (xs : List Change) → has_start xs ≡ true
    → complete_bursts s (x ∷ xs) ≡ (if begins x then judged s x (run_of xs) ∷ [] else []) ++ complete_bursts s xs
unfolding complete_bursts
complete-cons s x xs some = rw some (by_first (begins x))
  where
    by_first : (b : Bool) → (if b && true then judged s x (run_of xs) ∷ complete_bursts s xs else complete_bursts s xs) ≡ (if b then judged s x (run_of xs) ∷ [] else []) ++ complete_bursts s xs
    by_first true = refl
    by_first false = refl

pub all-cons : (s : Settings) (x : Change) (xs : List Change) → all_bursts s (x ∷ xs) ≡ (if begins x then judged s x (run_of xs) ∷ [] else []) ++ all_bursts s xs
unfolding all_bursts
all-cons s x xs = by_first (begins x)
  where
    by_first : (b : Bool) → (if b then judged s x (run_of xs) ∷ all_bursts s xs else all_bursts s xs) ≡ (if b then judged s x (run_of xs) ∷ [] else []) ++ all_bursts s xs
    by_first true = refl
    by_first false = refl

-- nothing is told of an edge and of some behind it that begin no burst
pub open-complete : (s : Settings) (x : Change) (xs : List Change) → has_start xs ≡ false → complete_bursts s (x ∷ xs) ≡ []
unfolding complete_bursts
open-complete s x xs none = rw (none, (no_bursts s xs none).complete) (by_first (begins x))
  where
    by_first : (b : Bool) → (if b && false then judged s x (run_of xs) ∷ [] else []) ≡ []
    by_first true = refl
    by_first false = refl

none_told : (s : Settings) → complete_bursts s [] ≡ []
unfolding complete_bursts
none_told s = refl

-- what is told grows at its end, by these answers to the same edges and more
abbrev Grows : Settings → (List Change → List Burst) → List Change → List Change → Type 0
Grows s told xs ys = IsFrontOf (complete_bursts s xs) (told (xs ++ ys))

-- by the same answer at each edge behind which a burst begins
grows-by : (s : Settings) (told : List Change → List Burst)
    → ((x : Change) (xs : List Change) → has_start xs ≡ true → told (x ∷ xs) ≡ (if begins x then judged s x (run_of xs) ∷ [] else []) ++ told xs)
    → (xs ys : List Change) → Grows s told xs ys
grows-by s told next [] ys = subst (λ (l : List Burst). IsFrontOf l (told ys)) (sym (none_told s)) (IsFrontOf-nil (told ys))
grows-by s told next (x ∷ xs) ys = by_rest (has_start xs) refl (grows-by s told next xs ys)
  where
    by_rest : (b : Bool) → has_start xs ≡ b → Grows s told xs ys → Grows s told (x ∷ xs) ys
    by_rest true some rest =
        let longer : has_start (xs ++ ys) ≡ true = has_start-append xs ys ∙ ap (λ b. b || has_start ys) some in
        let told_now : told (x ∷ (xs ++ ys)) ≡ (if begins x then judged s x (run_of xs) ∷ [] else []) ++ told (xs ++ ys) =
        next x (xs ++ ys) longer ∙ ap (λ l. (if begins x then judged s x l ∷ [] else []) ++ told (xs ++ ys)) (run_of-append xs ys some) in
        rw (complete-cons s x xs some, told_now) (IsFrontOf-after (if begins x then judged s x (run_of xs) ∷ [] else []) rest)
    by_rest false none rest = rw (open-complete s x xs none) (IsFrontOf-nil (told (x ∷ (xs ++ ys))))

complete-front : (s : Settings) (xs ys : List Change) → IsFrontOf (complete_bursts s xs) (complete_bursts s (xs ++ ys))
complete-front s = grows-by s (complete_bursts s) (complete-cons s)

all-front : (s : Settings) (xs ys : List Change) → IsFrontOf (complete_bursts s xs) (all_bursts s (xs ++ ys))
all-front s = grows-by s (all_bursts s) (λ x xs some. all-cons s x xs)

-- ---- the edges
pub grows-bursts : (s : Settings) (edges more : List NumberedEdge) → IsFrontOf (bursts_so_far s edges) (bursts_so_far s (edges ++ more))
grows-bursts s edges more =
    let front = changes_of-front s.bit edges more in
    subst (λ (l : List Change). IsFrontOf (bursts_so_far s edges) (complete_bursts s l)) (sym front.is) (complete-front s (changes_of s.bit edges) front.rest)

pub grows-at_end : (s : Settings) (edges more : List NumberedEdge) → IsFrontOf (bursts_so_far s edges) (bursts_at_end s (edges ++ more))
grows-at_end s edges more =
    let front = changes_of-front s.bit edges more in
    subst (λ (l : List Change). IsFrontOf (bursts_so_far s edges) (all_bursts s l)) (sym front.is) (all-front s (changes_of s.bit edges) front.rest)

pub grows-starts : (s : Settings) (edges more : List NumberedEdge) → IsFrontOf (burst_starts s edges) (burst_starts s (edges ++ more))
grows-starts s edges more =
    let front = changes_of-front s.bit edges more in
    subst (λ (l : List ℕ). IsFrontOf (burst_starts s edges) l) (sym (ap starts_in front.is ∙ starts-append (changes_of s.bit edges) front.rest))
    (IsFrontOf-append (burst_starts s edges) (starts_in front.rest))

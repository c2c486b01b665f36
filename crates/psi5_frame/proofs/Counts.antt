-- How many bursts there are: one for each edge that begins one, of which the last isn't complete.
--     so_far-counted      those that are complete
--     at_end-counted      all of them
use Rattle.std.proofs.Common.{◌≡◌, suc, ◌+◌, ◌-◌, Bool, true, false, ◌||◌, if◌then◌else◌, List, [], ◌∷◌, ◌++◌, length, map, refl, ap, sym, ◌∙◌, arith}
use Rattle.std.specs.List.{filter}
use Rattle.line_base.specs.Edges.{NumberedEdge}
use Rattle.psi5_frame.specs.Setup.{Settings}
use Rattle.psi5_frame.specs.Edges.{Change, changes_of}
use Rattle.psi5_frame.specs.Bursts.{judged, run_of, begins, has_start, complete_bursts, all_bursts, starts_in, bursts_so_far, bursts_at_end, burst_starts}
use Rattle.psi5_frame.proofs.Prefixes.{all-cons, complete-cons, open-complete}
use Rattle.psi5_frame.proofs.Runs.{no_bursts}

by_first : (x : Change) (xs : List Change) (b : Bool) → length (map (λ (edge : Change). edge.number) (if b then x ∷ filter begins xs else filter begins xs))
    ≡ (if b then 1 else 0) + length (map (λ (edge : Change). edge.number) (filter begins xs))
by_first x xs true = omega arith
by_first x xs false = omega arith

-- one edge more at the front counts where it begins a burst
counted-cons : (x : Change) (xs : List Change) → length (starts_in (x ∷ xs)) ≡ (if begins x then 1 else 0) + length (starts_in xs)
unfolding starts_in
counted-cons x xs = by_first x xs (begins x)

one-more : (s : Settings) (x : Change) (xs : List Change) (told : List _) (b : Bool) → length ((if b then judged s x (run_of xs) ∷ [] else []) ++ told) ≡ (if b then 1 else 0) + length told
one-more s x xs told true = omega arith
one-more s x xs told false = omega arith

all-counted : (s : Settings) (edges : List Change) → length (all_bursts s edges) ≡ length (starts_in edges)
unfolding all_bursts starts_in
all-counted s [] = refl
all-counted s (x ∷ xs) =
    ap length (all-cons s x xs) ∙ one-more s x xs (all_bursts s xs) (begins x) ∙ ap (λ n. (if begins x then 1 else 0) + n) (all-counted s xs) ∙ sym (counted-cons x xs)

is-first : (b later : Bool) → (b || later) ≡ true → later ≡ false → b ≡ true
is-first true later h none = refl
is-first false true h none = absurd cc
is-first false false h none = absurd cc

first-begins : (x : Change) (xs : List Change) → has_start (x ∷ xs) ≡ true → has_start xs ≡ false → begins x ≡ true
unfolding has_start
first-begins x xs some none = is-first (begins x) (has_start xs) some none

no-start : {A : Type 0} → has_start [] ≡ true → A
unfolding has_start
no-start some = absurd cc

some-counted : (s : Settings) (edges : List Change) → has_start edges ≡ true → suc (length (complete_bursts s edges)) ≡ length (starts_in edges)
some-counted s [] some = no-start some
some-counted s (x ∷ xs) some = by_rest (has_start xs) refl (λ later. some-counted s xs later)
  where
    by_rest : (b : Bool) → has_start xs ≡ b → (has_start xs ≡ true → suc (length (complete_bursts s xs)) ≡ length (starts_in xs)) → suc (length (complete_bursts s (x ∷ xs))) ≡ length (starts_in (x ∷ xs))
    by_rest true later each =
        let told : length (complete_bursts s (x ∷ xs)) ≡ (if begins x then 1 else 0) + length (complete_bursts s xs) =
        ap length (complete-cons s x xs later) ∙ one-more s x xs (complete_bursts s xs) (begins x) in
        let before = each later in
        omega (arith, told, before, counted-cons x xs)
    by_rest false later each =
        let here : begins x ≡ true = first-begins x xs some later in
        let told : length (complete_bursts s (x ∷ xs)) ≡ 0 = ap length (open-complete s x xs later) in
        let behind : length (starts_in xs) ≡ 0 = ap length (no_bursts s xs later).starts in
        let starts : length (starts_in (x ∷ xs)) ≡ 1 = counted-cons x xs ∙ ap (λ (b : Bool). (if b then 1 else 0) + length (starts_in xs)) here ∙ ap (λ n. 1 + n) behind in
        omega (arith, told, starts)

complete-counted : (s : Settings) (edges : List Change) → length (complete_bursts s edges) ≡ length (starts_in edges) - 1
complete-counted s edges = by_any (has_start edges) refl
  where
    by_any : (b : Bool) → has_start edges ≡ b → length (complete_bursts s edges) ≡ length (starts_in edges) - 1
    by_any true some = omega (arith, some-counted s edges some)
    by_any false none =
        let told : length (complete_bursts s edges) ≡ 0 = ap length (no_bursts s edges none).complete in
        let starts : length (starts_in edges) ≡ 0 = ap length (no_bursts s edges none).starts in
        omega (arith, told, starts)

pub so_far-counted : (s : Settings) (edges : List NumberedEdge) → length (bursts_so_far s edges) ≡ length (burst_starts s edges) - 1
so_far-counted s edges = complete-counted s (changes_of s.bit edges)

pub at_end-counted : (s : Settings) (edges : List NumberedEdge) → length (bursts_at_end s edges) ≡ length (burst_starts s edges)
at_end-counted s edges = all-counted s (changes_of s.bit edges)

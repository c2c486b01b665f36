-- What a phase comes to block by block is what it comes to place by place.
--     phase_told-places      over all places
--     told-reading      what a phase comes to that is read from any place on
use Rattle.std.proofs.Common.{◌≡◌, ℕ, zero, suc, ◌+◌, ◌-◌, ◌*◌, ◌/◌, ◌%◌, ◌<◌, ◌≤◌, Bool, true, false, nat_eq, nat_le, cond, if◌then◌else◌, List, [], ◌∷◌, ◌++◌, length, get_or, drop, map, refl, sym, ◌∙◌, ap, ap₂, append_assoc, append-nil, arith}
use Rattle.std.specs.List.{count_by, range_with_len}
use Rattle.std.proofs.Math.Seq.{get_or-append_seam}
use Rattle.std.proofs.lemmas.Bool.{eq-eqb, ne_eqb}
use Rattle.std.proofs.lemmas.List.{length-append, map-append}
use Rattle.std.proofs.lemmas.List.Sums.{sum_by-append}
use Rattle.std.proofs.lemmas.Nat.{div-mul-add, mod-mul-add}
use Rattle.psi5_init.specs.declared.step.InitStep.{InitStep}
use Rattle.psi5_init.specs.declared.step.InitStep.TheVariants as step
use Rattle.psi5_init.specs.Phases.{id_at, phase}
use Rattle.psi5_init.specs.Readings.{init_reading}
use Rattle.psi5_init.proofs.LookingBack.{reading-stands}
use Rattle.psi5_init.specs.Meanings.{place_of, index_at, is_last, is_whole, whole_blocks, told_at, told}
use Rattle.psi5_init.proofs.PhaseSteps.{pair_steps, phase_told, whole_phase}

-- ---- what a place comes to
-- a place within a block: its index, and how far it is in the block
index_is : (k index rest : ℕ) → rest < 2 * k → index_at k (place_of k index + rest) ≡ index
index_is k index rest within =
    let e : place_of k index + rest ≡ index * (2 * k) + rest = omega arith in
    ap (λ n. n / (2 * k)) e ∙ div-mul-add index (2 * k) rest within

rest_is : (k index rest : ℕ) → rest < 2 * k → (place_of k index + rest) % (2 * k) ≡ rest
rest_is k index rest within =
    let e : place_of k index + rest ≡ index * (2 * k) + rest = omega arith in
    ap (λ n. n % (2 * k)) e ∙ mod-mul-add index (2 * k) rest within

-- the places of a block come before the end of the phase
before_end : (k index rest count : ℕ) → rest < 2 * k → index < count → place_of k index + rest ≡ place_of k count → ⊥
before_end k index rest count within fewer e =
    let more : suc index + (count - suc index) ≡ count = omega (arith, fewer) in
    let split : place_of k count ≡ place_of k index + 2 * k + place_of k (count - suc index) = ap (place_of k) (sym more) ∙ omega arith in
    omega (arith, within, e, split)

-- what the last place of a block comes to, by whether the block is whole
last_step : ℕ → ℕ → ℕ → ℕ → InitStep
last_step k from index nibble = if is_whole k from index then step.Block (id_at index) nibble else step.Nothing

told_at-last : (k from index rest : ℕ) (nibbles : List ℕ) → suc rest ≡ 2 * k → index < length nibbles → told_at k from nibbles (place_of k index + rest) ≡ last_step k from index (get_or nibbles index 0)
unfolding last_step
told_at-last k from index rest nibbles last within =
    let inside : rest < 2 * k = omega (arith, last) in
    let is : is_last k (place_of k index + rest) ≡ true = eq-eqb ((place_of k index + rest) % (2 * k)) (2 * k - 1) (rest_is k index rest inside ∙ omega (arith, last)) in
    let not_end : nat_eq (place_of k index + rest) (place_of k (length nibbles)) ≡ false = ne_eqb (place_of k index + rest) (place_of k (length nibbles)) (before_end k index rest (length nibbles) inside within) in
    rw (is, not_end, index_is k index rest inside) refl

told_at-before : (k from index rest : ℕ) (nibbles : List ℕ) → suc rest < 2 * k → index < length nibbles → told_at k from nibbles (place_of k index + rest) ≡ step.Nothing
told_at-before k from index rest nibbles before within =
    let inside : rest < 2 * k = omega (arith, before) in
    let isnt : is_last k (place_of k index + rest) ≡ false = ne_eqb ((place_of k index + rest) % (2 * k)) (2 * k - 1) (λ e. omega (arith, e, rest_is k index rest inside, before)) in
    let not_end : nat_eq (place_of k index + rest) (place_of k (length nibbles)) ≡ false = ne_eqb (place_of k index + rest) (place_of k (length nibbles)) (before_end k index rest (length nibbles) inside within) in
    rw (isnt, not_end) refl

told_at-end : (k from : ℕ) (nibbles : List ℕ) → 1 ≤ k
    → told_at k from nibbles (place_of k (length nibbles)) ≡ (if nat_le (from + 2) (place_of k (length nibbles)) then step.Done (whole_blocks k from (length nibbles)) else step.Nothing)
told_at-end k from nibbles some =
    let place = place_of k (length nibbles) in
    let none : place ≡ place + 0 = omega arith in
    let first : place % (2 * k) ≡ 0 = ap (λ n. n % (2 * k)) none ∙ rest_is k (length nibbles) 0 (omega (arith, some)) in
    let isnt : is_last k place ≡ false = ne_eqb (place % (2 * k)) (2 * k - 1) (λ e. omega (arith, e, first, some)) in
    rw (isnt, eq-eqb place place refl) refl

-- ---- the places of a block
range-add : (a m n : ℕ) → range_with_len a (m + n) ≡ range_with_len a m ++ range_with_len (a + m) n
range-add a zero n = let e : zero + n ≡ n = omega arith in let f : a ≡ a + zero = omega arith in ap₂ range_with_len f e
range-add a (suc m) n =
    let e : suc m + n ≡ suc (m + n) = omega arith in
    let f : a + 1 + m ≡ a + suc m = omega arith in
    ap (range_with_len a) e ∙ ap (λ l. a ∷ l) (range-add (a + 1) m n ∙ ap (λ b. range_with_len (a + 1) m ++ range_with_len b n) f)

two_places : (f : ℕ → InitStep) (a n : ℕ) → map f (range_with_len a (2 * suc n)) ≡ f a ∷ f (a + 1) ∷ map f (range_with_len (a + 2) (2 * n))
two_places f a n =
    let e : 2 * suc n ≡ suc (suc (2 * n)) = omega arith in
    let g : a + 1 + 1 ≡ a + 2 = omega arith in
    ap (λ m. map f (range_with_len a m)) e ∙ ap (λ b. f a ∷ f (a + 1) ∷ map f (range_with_len b (2 * n))) g

-- the last so many pairs of a block
pair_steps-places : (n k from index seen : ℕ) (nibbles : List ℕ) → seen + suc n ≡ k → index < length nibbles
    → pair_steps (suc n) (last_step k from index (get_or nibbles index 0)) ≡ map (told_at k from nibbles) (range_with_len (place_of k index + 2 * seen) (2 * suc n))
unfolding pair_steps
pair_steps-places zero k from index seen nibbles all within =
    let start = place_of k index + 2 * seen in
    let last : start + 1 ≡ place_of k index + suc (2 * seen) = omega arith in
    ap₂ (λ a b. a ∷ b ∷ [])
    (sym (told_at-before k from index (2 * seen) nibbles (omega (arith, all)) within))
    (sym (ap (told_at k from nibbles) last ∙ told_at-last k from index (suc (2 * seen)) nibbles (omega (arith, all)) within))
    ∙ sym (two_places (told_at k from nibbles) start 0)
pair_steps-places (suc n) k from index seen nibbles all within =
    let start = place_of k index + 2 * seen in
    let second : start + 1 ≡ place_of k index + suc (2 * seen) = omega arith in
    let next : place_of k index + 2 * suc seen ≡ start + 2 = omega arith in
    ap₂ (λ a b. a ∷ b ∷ pair_steps (suc n) (last_step k from index (get_or nibbles index 0)))
    (sym (told_at-before k from index (2 * seen) nibbles (omega (arith, all)) within))
    (sym (ap (told_at k from nibbles) second ∙ told_at-before k from index (suc (2 * seen)) nibbles (omega (arith, all)) within))
    ∙ ap (λ l. told_at k from nibbles start ∷ told_at k from nibbles (start + 1) ∷ l)
    (pair_steps-places n k from index (suc seen) nibbles (omega (arith, all)) within ∙ ap (λ a. map (told_at k from nibbles) (range_with_len a (2 * suc n))) next)
    ∙ sym (two_places (told_at k from nibbles) start (suc n))

block-places : (k from index : ℕ) (nibbles : List ℕ) → 1 ≤ k → index < length nibbles
    → pair_steps k (last_step k from index (get_or nibbles index 0)) ≡ map (told_at k from nibbles) (range_with_len (place_of k index) (2 * k))
block-places zero from index nibbles some within = absurd (omega arith)
block-places (suc n) from index nibbles some within =
    let e : place_of (suc n) index + 2 * 0 ≡ place_of (suc n) index = omega arith in
    pair_steps-places n (suc n) from index 0 nibbles (omega arith) within ∙ ap (λ a. map (told_at (suc n) from nibbles) (range_with_len a (2 * suc n))) e

-- ---- all places
whole_blocks-more : (k from count : ℕ) → whole_blocks k from (suc count) ≡ (if is_whole k from count then suc (whole_blocks k from count) else whole_blocks k from count)
whole_blocks-more k from count =
    let e : suc count ≡ count + 1 = omega arith in
    let g : 0 + count ≡ count = omega arith in
    ap (whole_blocks k from) e
    ∙ ap (count_by (is_whole k from)) (range-add 0 count 1 ∙ ap (λ a. range_with_len 0 count ++ a ∷ []) g)
    ∙ sum_by-append (λ index. cond (is_whole k from index) 1 0) (range_with_len 0 count) (count ∷ [])
    ∙ one_more (is_whole k from count)
  where
    one_more : (b : Bool) → whole_blocks k from count + (0 + cond b 1 0) ≡ (if b then suc (whole_blocks k from count) else whole_blocks k from count)
    one_more true = omega arith
    one_more false = omega arith

phase_told-places : (k from : ℕ) (before vs : List ℕ) → 1 ≤ k
    → phase_told k from (place_of k (length before)) (length before) (whole_blocks k from (length before)) vs
    ≡ map (told_at k from (before ++ vs)) (range_with_len (place_of k (length before)) (place_of k (length vs) + 1))
unfolding phase_told last_step
phase_told-places k from before [] some =
    let nibbles = before ++ [] in
    let same : nibbles ≡ before = append-nil before in
    let place = place_of k (length before) in
    let at_end : told_at k from before place ≡ (if nat_le (from + 2) place then step.Done (whole_blocks k from (length before)) else step.Nothing) = told_at-end k from before some in
    let one : place_of k 0 + 1 ≡ 1 = omega arith in
    ap (λ s. s ∷ []) (sym at_end)
    ∙ ap₂ (λ all n. map (told_at k from all) (range_with_len place n)) (sym same) (sym one)
phase_told-places k from before (v ∷ vs) some =
    let index = length before in
    let nibbles = before ++ v ∷ vs in
    let longer = before ++ v ∷ [] in
    let place = place_of k index in
    let within : index < length nibbles = omega (arith, length-append before (v ∷ vs)) in
    let nibble : get_or nibbles index 0 ≡ v = get_or-append_seam before v vs 0 in
    let count : length longer ≡ suc index = omega (arith, length-append before (v ∷ [])) in
    let next : place + 2 * k ≡ place_of k (length longer) = (let e : place + 2 * k ≡ place_of k (suc index) = omega arith in e) ∙ ap (place_of k) (sym count) in
    let blocks : (if is_whole k from index then suc (whole_blocks k from index) else whole_blocks k from index) ≡ whole_blocks k from (length longer) =
    sym (whole_blocks-more k from index) ∙ ap (whole_blocks k from) (sym count) in
    let long : place_of k (length (v ∷ vs)) + 1 ≡ 2 * k + (place_of k (length vs) + 1) = omega arith in
    let first : pair_steps k (last_step k from index v) ≡ map (told_at k from nibbles) (range_with_len place (2 * k)) =
    ap (λ n. pair_steps k (last_step k from index n)) (sym nibble) ∙ block-places k from index nibbles some within in
    let rest : phase_told k from (place + 2 * k) (suc index) (if is_whole k from index then suc (whole_blocks k from index) else whole_blocks k from index) vs
    ≡ map (told_at k from nibbles) (range_with_len (place + 2 * k) (place_of k (length vs) + 1)) =
    ap₂ (λ a b. phase_told k from a (suc index) b vs) next blocks
    ∙ ap (λ i. phase_told k from (place_of k (length longer)) i (whole_blocks k from (length longer)) vs) (sym count)
    ∙ phase_told-places k from longer vs some
    ∙ ap₂ (λ all a. map (told_at k from all) (range_with_len a (place_of k (length vs) + 1))) (append_assoc before (v ∷ []) vs) (sym next) in
    ap₂ (λ a b. a ++ b) first rest
    ∙ sym (map-append (told_at k from nibbles) (range_with_len place (2 * k)) (range_with_len (place + 2 * k) (place_of k (length vs) + 1)))
    ∙ ap (map (told_at k from nibbles)) (sym (range-add place (2 * k) (place_of k (length vs) + 1)))
    ∙ ap (λ n. map (told_at k from nibbles) (range_with_len place n)) (sym long)

drop-places : (f : ℕ → InitStep) (p a n : ℕ) → drop p (map f (range_with_len a n)) ≡ map f (range_with_len (a + p) (n - p))
drop-places f zero a n = let e : a ≡ a + zero = omega arith in let g : n ≡ n - zero = omega arith in ap₂ (λ b m. map f (range_with_len b m)) e g
drop-places f (suc p) a zero = let none : 0 ≡ zero - suc p = omega arith in ap (λ m. map f (range_with_len (a + suc p) m)) none
drop-places f (suc p) a (suc n) =
    let e : a + 1 + p ≡ a + suc p = omega arith in
    let g : n - p ≡ suc n - suc p = omega arith in
    drop-places f p (a + 1) n ∙ ap₂ (λ b m. map f (range_with_len b m)) e g

pub told-reading : (k from : ℕ) (nibbles : List ℕ) → 1 ≤ k → init_reading k (drop from (phase k nibbles)) ≡ told k from nibbles
told-reading k from nibbles some =
    let start : place_of k 0 ≡ 0 = omega arith in
    let places : phase_told k from 0 0 0 nibbles ≡ map (told_at k from nibbles) (range_with_len 0 (place_of k (length nibbles) + 1)) =
    ap (λ a. phase_told k from a 0 0 nibbles) (sym start) ∙ phase_told-places k from [] nibbles some
    ∙ ap (λ a. map (told_at k from nibbles) (range_with_len a (place_of k (length nibbles) + 1))) start in
    let none : 0 + from ≡ from = omega arith in
    reading-stands k (drop from (phase k nibbles))
    ∙ whole_phase k from nibbles some
    ∙ ap (drop from) places
    ∙ drop-places (told_at k from nibbles) from 0 (place_of k (length nibbles) + 1)
    ∙ ap (λ a. map (told_at k from nibbles) (range_with_len a (place_of k (length nibbles) + 1 - from))) none

-- The bits and the places of a frame, put at the end one after another.
--     places_none, places_pushed, places_few, places_all      the places of the bits so far
--     bits_more, bits_all      the bits of a number so far
use Rattle.std.proofs.Common.{◌≡◌, ℕ, zero, suc, ◌+◌, ◌*◌, ◌≤◌, ◌<◌, Bool, true, false, not, cond, ◌-◌, ◌/◌, ◌%◌, nat_eq, List, [], ◌∷◌, ◌++◌, length, length-append, drop, get_or, refl, sym, ◌∙◌, ap, ap₂, append_assoc, append-nil, arith}
use mathlib.Core.Bool.{beq}
use Rattle.std.proofs.lemmas.List.{drop_more}
use Rattle.psi5_frame.specs.Frames.{low_bits, changed_at, waveform, levels_of}

drop_nil : {A : Type 0} (i : ℕ) → drop {A = A} i [] ≡ []
drop_nil zero = refl
drop_nil (suc i) = refl

drop_all : {A : Type 0} (i : ℕ) (xs : List A) → length xs ≤ i → drop i xs ≡ []
drop_all i [] all = drop_nil i
drop_all zero (x ∷ xs) all = absurd (omega arith)
drop_all (suc i) (x ∷ xs) all = drop_all i xs (omega arith)

-- ---- the places of one bit more
next_places : (place : ℕ) (level bit : Bool) (rest : List Bool)
    → changed_at place level (bit ∷ not bit ∷ rest) ≡ cond (not (beq bit level)) (place ∷ []) [] ++ suc place ∷ changed_at (suc (suc place)) (not bit) rest
unfolding changed_at
next_places place true true rest = refl
next_places place true false rest = refl
next_places place false true rest = refl
next_places place false false rest = refl

last_place : (place : ℕ) (level : Bool) → changed_at place level (false ∷ []) ≡ cond level (place ∷ []) []
unfolding changed_at
last_place place true = refl
last_place place false = refl

-- the places so far, and those of the bits that are left
abbrev pub PlacesAre : List ℕ → ℕ → Bool → List Bool → List Bool → Type 0
PlacesAre places place level rest bits = places ++ changed_at place level (levels_of rest ++ false ∷ []) ≡ waveform bits

pub places_more : (places : List ℕ) (place i : ℕ) (level : Bool) (bits : List Bool) → i < length bits → PlacesAre places place level (drop i bits) bits
    → PlacesAre ((places ++ cond (not (beq (get_or bits i false) level)) (place ∷ []) []) ++ (place + 1) ∷ []) (place + 2) (not (get_or bits i false)) (drop (i + 1) bits) bits
places_more places place i level bits within before =
    let bit = get_or bits i false in
    let rest = levels_of (drop (i + 1) bits) ++ false ∷ [] in
    let front = cond (not (beq bit level)) (place ∷ []) [] in
    let one : place + 1 ≡ suc place = omega arith in
    let two : place + 2 ≡ suc (suc place) = omega arith in
    let split : changed_at place level (levels_of (drop i bits) ++ false ∷ []) ≡ front ++ (place + 1) ∷ changed_at (place + 2) (not bit) rest =
    ap (λ l. changed_at place level (levels_of l ++ false ∷ [])) (drop_more bits i false within)
    ∙ next_places place level bit rest ∙ sym (ap₂ (λ a b. front ++ a ∷ changed_at b (not bit) rest) one two) in
    append_assoc (places ++ front) ((place + 1) ∷ []) (changed_at (place + 2) (not bit) rest)
    ∙ append_assoc places front ((place + 1) ∷ changed_at (place + 2) (not bit) rest)
    ∙ ap (λ l. places ++ l) (sym split) ∙ before

pub places_all : (places : List ℕ) (place i : ℕ) (level : Bool) (bits : List Bool) → length bits ≤ i → PlacesAre places place level (drop i bits) bits → places ++ cond level (place ∷ []) [] ≡ waveform bits
places_all places place i level bits all before =
    ap (λ l. places ++ l) (sym (ap (λ l. changed_at place level (levels_of l ++ false ∷ [])) (drop_all i bits all) ∙ last_place place level)) ∙ before

pub places_none : (places : List ℕ) (bits : List Bool) → places ≡ [] → PlacesAre places 0 false bits bits
unfolding waveform
places_none places bits none = rw none refl

pub places_pushed : (new mid places : List ℕ) (place i : ℕ) (level : Bool) (bits : List Bool) → mid ≡ places ++ cond (not (beq (get_or bits i false) level)) (place ∷ []) [] → new ≡ mid ++ (place + 1) ∷ []
    → i < length bits → PlacesAre places place level (drop i bits) bits → PlacesAre new (place + 2) (not (get_or bits i false)) (drop (i + 1) bits) bits
places_pushed new mid places place i level bits m n within before =
    let whole : new ≡ (places ++ cond (not (beq (get_or bits i false) level)) (place ∷ []) []) ++ (place + 1) ∷ [] = n ∙ ap (λ l. l ++ (place + 1) ∷ []) m in
    ap (λ l. l ++ changed_at (place + 2) (not (get_or bits i false)) (levels_of (drop (i + 1) bits) ++ false ∷ [])) whole
    ∙ places_more places place i level bits within before

one_or_none : (test : Bool) (place : ℕ) → length (cond test (place ∷ []) []) ≤ 1
one_or_none true place = omega arith
one_or_none false place = omega arith

pub places_few : (new mid places : List ℕ) (place i : ℕ) (test : Bool) → mid ≡ places ++ cond test (place ∷ []) [] → new ≡ mid ++ (place + 1) ∷ [] → length places ≤ 2 * i → length new ≤ 2 * (i + 1)
places_few new mid places place i test m n few =
    omega (arith, few, ap length n, length-append mid ((place + 1) ∷ []), ap length m, length-append places (cond test (place ∷ []) []), one_or_none test place)

-- ---- the bits of a number, one after another
pub bits_more : (bits new : List Bool) (width i rest : ℕ) (whole : List Bool) → i < width → bits ++ low_bits (width - i) rest ≡ whole → new ≡ bits ++ nat_eq (rest % 2) 1 ∷ []
    → new ++ low_bits (width - (i + 1)) (rest / 2) ≡ whole
unfolding low_bits
bits_more bits new width i rest whole more before n =
    let next : width - i ≡ suc (width - (i + 1)) = omega arith in
    ap (λ l. l ++ low_bits (width - (i + 1)) (rest / 2)) n
    ∙ append_assoc bits (nat_eq (rest % 2) 1 ∷ []) (low_bits (width - (i + 1)) (rest / 2))
    ∙ sym (ap (λ w. bits ++ low_bits w rest) next) ∙ before

pub bits_all : (bits whole : List Bool) (width i rest : ℕ) → width ≤ i → bits ++ low_bits (width - i) rest ≡ whole → bits ≡ whole
unfolding low_bits
bits_all bits whole width i rest all before =
    let none : width - i ≡ 0 = omega arith in
    sym (append-nil bits) ∙ sym (ap (λ w. bits ++ low_bits w rest) none) ∙ before

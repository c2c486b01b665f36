-- The nibble that a pulse carries: there is one at most, and `value_of` is that one.
--     each_nibble        what holds of 0 to 15 holds of each number below 16
--     one_value          a pulse carries at most one value
--     value_is           a carried value is `value_of`
--     value_carries      `value_of` is carried
--     no_value           where `value_of` is None, nothing is carried
--     none_is            where nothing is carried, `value_of` is None
--     too_few, in_range, too_many      `value_of` by the half ticks in the pulse, rounded down
--     crc_small, crc_legacy_small      a CRC nibble is below 16
use borrow.Author.Count.{below_more, below_none}
use Rattle.std.proofs.Common.{◌≡◌, ℕ, zero, suc, ◌+◌, ◌-◌, ◌*◌, ◌/◌, ◌<◌, ◌≤◌, Bool, true, false, List, [], ◌∷◌, ◌++◌, length, get_or, Option, Some, None, find, nat_lt, refl, sym, ◌∙◌, ap, inl, inr, arith}
use Rattle.std.proofs.lemmas.Bool.{and_parts, cases_Bool, cases_order, ltb-true, both_ways}
use Rattle.std.proofs.Math.Nat.{div-mul-le_self}
use Rattle.std.proofs.lemmas.Nat.{div-add-mod', div_below, le-div, mod_below, mul-le}
use Rattle.std.proofs.lemmas.List.{length-append}
use Rattle.std.specs.List.{list_all}
use Rattle.link_math.specs.Sent.{Carries, carries, value_of}
use Rattle.link_math.specs.Checks.{crc4_legacy_of, crc4_of, seeded}
use Rattle.link_math.proofs.CheckTable.{crc4_remainder-below, length_seeded}
use Rattle.link_math.proofs.Thresholds.{le_and_lt, le_and_lt_parts}

pub each_nibble : (P : ℕ → Type 0) → P 0 → P 1 → P 2 → P 3 → P 4 → P 5 → P 6 → P 7 → P 8 → P 9 → P 10 → P 11 → P 12 → P 13 → P 14 → P 15 → (n : ℕ) → n < 16 → P n
each_nibble P p0 p1 p2 p3 p4 p5 p6 p7 p8 p9 p10 p11 p12 p13 p14 p15 =
    let to3 = below_more P 3 (below_more P 2 (below_more P 1 (below_more P 0 (below_none P) p0) p1) p2) p3 in
    let to7 = below_more P 7 (below_more P 6 (below_more P 5 (below_more P 4 to3 p4) p5) p6) p7 in
    let to11 = below_more P 11 (below_more P 10 (below_more P 9 (below_more P 8 to7 p8) p9) p10) p11 in
    below_more P 15 (below_more P 14 (below_more P 13 (below_more P 12 to11 p12) p13) p14) p15

-- ---- `find` over the sixteen values
abbrev sixteen : List ℕ
sixteen = 0 ∷ 1 ∷ 2 ∷ 3 ∷ 4 ∷ 5 ∷ 6 ∷ 7 ∷ 8 ∷ 9 ∷ 10 ∷ 11 ∷ 12 ∷ 13 ∷ 14 ∷ 15 ∷ []

found_passes : (p q : ℕ → Bool) (xs : List ℕ) (v : ℕ) → list_all q xs ≡ true → find p xs ≡ Some v → (p v ≡ true) × (q v ≡ true)
found_passes p q [] v all found = absurd (cc)
found_passes p q (x ∷ xs) v all found =
    let parts = and_parts (q x) (list_all q xs) all in
    elim (cases_Bool (p x)) [
      | inl yes_here ↦
          let first : x ≡ v = cc (rw yes_here at found) in
          (ap p (sym first) ∙ yes_here, ap q (sym first) ∙ parts.0)
      | inr not_here ↦ found_passes p q xs v parts.1 (rw not_here at found)
    ]

none_passes : (p : ℕ → Bool) (xs : List ℕ) → find p xs ≡ None → (i : ℕ) → i < length xs → p (get_or xs i 0) ≡ false
none_passes p [] none i within = absurd (omega arith)
none_passes p (x ∷ xs) none i within =
    elim (cases_Bool (p x)) [
      | inl yes_here ↦ absurd (cc (rw yes_here at none))
      | inr not_here ↦ at_place i within not_here (none_passes p xs (rw not_here at none))
    ]
  where
    at_place : (i : ℕ) → i < length (x ∷ xs) → p x ≡ false → ((j : ℕ) → j < length xs → p (get_or xs j 0) ≡ false) → p (get_or (x ∷ xs) i 0) ≡ false
    at_place zero within here later = here
    at_place (suc j) within here later = later j (omega arith)

-- ---- what a pulse carries
carries_true : (m c v : ℕ) → Carries m c v → carries m c v ≡ true
carries_true m c v carried = le_and_lt ((23 + 2 * v) * c) (112 * m) (112 * m) ((25 + 2 * v) * c) carried.not_below carried.not_above

carried_from : (m c v : ℕ) → v < 16 → carries m c v ≡ true → Carries m c v
carried_from m c v small passes =
    let parts = le_and_lt_parts ((23 + 2 * v) * c) (112 * m) (112 * m) ((25 + 2 * v) * c) passes in
    record { is_nibble = small; not_below = parts.0; not_above = parts.1 }

not_above_another : (m c v w : ℕ) → v < w → Carries m c v → Carries m c w → ⊥
not_above_another m c v w below lower upper =
    omega (arith, lower.not_above, upper.not_below, mul-le (25 + 2 * v) c (23 + 2 * w) c (omega arith) (omega arith))

pub one_value : (m c v w : ℕ) → Carries m c v → Carries m c w → v ≡ w
one_value m c v w carried other =
    elim (cases_order v w) [
      | inl same ↦ same
      | inr apart ↦ elim apart [
        | inl below ↦ absurd (not_above_another m c v w below carried other)
        | inr above ↦ absurd (not_above_another m c w v above other carried)
      ]
    ]

pub value_carries : (m c v : ℕ) → value_of m c ≡ Some v → Carries m c v
unfolding value_of
value_carries m c v found =
    let passes = found_passes (carries m c) (λ w. nat_lt w 16) sixteen v refl found in
    carried_from m c v (ltb-true v 16 passes.1) passes.0

pub no_value : (m c : ℕ) → value_of m c ≡ None → (v : ℕ) → Carries m c v → ⊥
unfolding value_of
no_value m c none v carried =
    let place : get_or sixteen v 0 ≡ v =
    each_nibble (λ n. get_or sixteen n 0 ≡ n) refl refl refl refl refl refl refl refl refl refl refl refl refl refl refl refl v carried.is_nibble in
    both_ways (carries m c v) (ap (carries m c) (sym place) ∙ none_passes (carries m c) sixteen none v carried.is_nibble) (carries_true m c v carried)

pub value_is : (m c v : ℕ) → Carries m c v → value_of m c ≡ Some v
value_is m c v carried = by_answer (value_of m c) refl
  where
    by_answer : (answer : Option ℕ) → value_of m c ≡ answer → value_of m c ≡ Some v
    by_answer None none = absurd (no_value m c none v carried)
    by_answer (Some w) found = found ∙ ap Some (one_value m c w v (value_carries m c w found) carried)

pub none_is : (m c : ℕ) → ((v : ℕ) → Carries m c v → ⊥) → value_of m c ≡ None
none_is m c nothing = by_answer (value_of m c) refl
  where
    by_answer : (answer : Option ℕ) → value_of m c ≡ answer → value_of m c ≡ None
    by_answer None none = none
    by_answer (Some w) found = absurd (nothing w (value_carries m c w found))

-- ---- the half ticks in a pulse, rounded down
half_ticks_of : (m c v : ℕ) → 1 ≤ c → Carries m c v → (23 + 2 * v ≤ 112 * m / c) × (112 * m / c < 25 + 2 * v)
half_ticks_of m c v some carried =
    (le-div (23 + 2 * v) (112 * m) c some carried.not_below, div_below (112 * m) c (25 + 2 * v) some carried.not_above)

pub too_few : (m c : ℕ) → 1 ≤ c → 112 * m / c < 23 → value_of m c ≡ None
too_few m c some few = none_is m c (λ v carried. omega (arith, (half_ticks_of m c v some carried).0))

pub too_many : (m c : ℕ) → 1 ≤ c → 16 ≤ (112 * m / c - 23) / 2 → value_of m c ≡ None
too_many m c some many = none_is m c (λ v carried. omega (arith, carried.is_nibble, (half_ticks_of m c v some carried).1))

pub in_range : (m c : ℕ) → 1 ≤ c → 23 ≤ 112 * m / c → (112 * m / c - 23) / 2 < 16 → value_of m c ≡ Some ((112 * m / c - 23) / 2)
in_range m c some enough small =
    let half_ticks = 112 * m / c in
    let value = (half_ticks - 23) / 2 in
    let from : half_ticks * c ≤ 112 * m = div-mul-le_self (112 * m) c in
    let to : 112 * m < (half_ticks + 1) * c = omega (arith, div-add-mod' (112 * m) c, mod_below (112 * m) c some) in
    value_is m c value (record {
      is_nibble = small;
      not_below = omega (arith, mul-le (23 + 2 * value) c half_ticks c (omega arith) (omega arith));
      not_above = omega (arith, mul-le (half_ticks + 1) c (25 + 2 * value) c (omega arith) (omega arith));
    })

-- ---- CRC nibbles
pub crc_small : (nibbles : List ℕ) → crc4_of nibbles < 16
unfolding crc4_of
crc_small nibbles =
    let zeros = false ∷ false ∷ false ∷ false ∷ [] in
    crc4_remainder-below (seeded nibbles ++ zeros) (omega (arith, length-append (seeded nibbles) zeros))

pub crc_legacy_small : (nibbles : List ℕ) → crc4_legacy_of nibbles < 16
unfolding crc4_legacy_of
crc_legacy_small nibbles = crc4_remainder-below (seeded nibbles) (length_seeded nibbles)

-- A distance in sync periods, by division.
--     rounded, most      the quotient, below six and from six on
use Rattle.std.proofs.Common.{◌≡◌, ℕ, zero, suc, ◌+◌, ◌*◌, ◌/◌, ◌<◌, ◌≤◌, true, false, nat_lt, refl, sym, arith}
use Rattle.std.proofs.lemmas.Bool.Decides.{nat_tests}
use Rattle.std.proofs.Math.Nat.{div-mul-le_self}
use Rattle.std.proofs.lemmas.Nat.{div-add-mod', mod_below, mul-le}
use Rattle.link_math.specs.Periods.{periods_in}

-- so many periods fit the distance and half a period, and no more
below_six : (n d p : ℕ) → n < 6 → n * (2 * p) ≤ 2 * d + p → 2 * d + p < (n + 1) * (2 * p) → periods_in d p ≡ n
below_six zero d p few low high = let t0 : nat_lt (2 * d) p ≡ true = grind (arith, nat_tests, high) in rw t0 refl
below_six (suc zero) d p few low high =
    let t0 : nat_lt (2 * d) p ≡ false = grind (arith, nat_tests, low) in
    let t1 : nat_lt (2 * d) (3 * p) ≡ true = grind (arith, nat_tests, high) in
    rw (t0, t1) refl
below_six (suc (suc zero)) d p few low high =
    let t0 : nat_lt (2 * d) p ≡ false = grind (arith, nat_tests, low) in
    let t1 : nat_lt (2 * d) (3 * p) ≡ false = grind (arith, nat_tests, low) in
    let t2 : nat_lt (2 * d) (5 * p) ≡ true = grind (arith, nat_tests, high) in
    rw (t0, t1, t2) refl
below_six (suc (suc (suc zero))) d p few low high =
    let t0 : nat_lt (2 * d) p ≡ false = grind (arith, nat_tests, low) in
    let t1 : nat_lt (2 * d) (3 * p) ≡ false = grind (arith, nat_tests, low) in
    let t2 : nat_lt (2 * d) (5 * p) ≡ false = grind (arith, nat_tests, low) in
    let t3 : nat_lt (2 * d) (7 * p) ≡ true = grind (arith, nat_tests, high) in
    rw (t0, t1, t2, t3) refl
below_six (suc (suc (suc (suc zero)))) d p few low high =
    let t0 : nat_lt (2 * d) p ≡ false = grind (arith, nat_tests, low) in
    let t1 : nat_lt (2 * d) (3 * p) ≡ false = grind (arith, nat_tests, low) in
    let t2 : nat_lt (2 * d) (5 * p) ≡ false = grind (arith, nat_tests, low) in
    let t3 : nat_lt (2 * d) (7 * p) ≡ false = grind (arith, nat_tests, low) in
    let t4 : nat_lt (2 * d) (9 * p) ≡ true = grind (arith, nat_tests, high) in
    rw (t0, t1, t2, t3, t4) refl
below_six (suc (suc (suc (suc (suc zero))))) d p few low high =
    let t0 : nat_lt (2 * d) p ≡ false = grind (arith, nat_tests, low) in
    let t1 : nat_lt (2 * d) (3 * p) ≡ false = grind (arith, nat_tests, low) in
    let t2 : nat_lt (2 * d) (5 * p) ≡ false = grind (arith, nat_tests, low) in
    let t3 : nat_lt (2 * d) (7 * p) ≡ false = grind (arith, nat_tests, low) in
    let t4 : nat_lt (2 * d) (9 * p) ≡ false = grind (arith, nat_tests, low) in
    let t5 : nat_lt (2 * d) (11 * p) ≡ true = grind (arith, nat_tests, high) in
    rw (t0, t1, t2, t3, t4, t5) refl
below_six (suc (suc (suc (suc (suc (suc n)))))) d p few low high = absurd (omega (arith, few))

from_six : (d p : ℕ) → 1 ≤ p → 6 * (2 * p) ≤ 2 * d + p → periods_in d p ≡ 6
from_six d p some low =
    let t0 : nat_lt (2 * d) p ≡ false = grind (arith, nat_tests, low) in
    let t1 : nat_lt (2 * d) (3 * p) ≡ false = grind (arith, nat_tests, low) in
    let t2 : nat_lt (2 * d) (5 * p) ≡ false = grind (arith, nat_tests, low) in
    let t3 : nat_lt (2 * d) (7 * p) ≡ false = grind (arith, nat_tests, low) in
    let t4 : nat_lt (2 * d) (9 * p) ≡ false = grind (arith, nat_tests, low) in
    let t5 : nat_lt (2 * d) (11 * p) ≡ false = grind (arith, nat_tests, low) in
    rw (t0, t1, t2, t3, t4, t5) refl

pub rounded : (d p : ℕ) → 1 ≤ p → (2 * d + p) / (2 * p) < 6 → (2 * d + p) / (2 * p) ≡ periods_in d p
rounded d p some few =
    let whole = 2 * d + p in
    let n = whole / (2 * p) in
    let low : n * (2 * p) ≤ whole = div-mul-le_self whole (2 * p) in
    let high : whole < (n + 1) * (2 * p) = omega (arith, div-add-mod' whole (2 * p), mod_below whole (2 * p) (omega (arith, some))) in
    sym (below_six n d p few low high)

pub most : (d p : ℕ) → 1 ≤ p → 6 ≤ (2 * d + p) / (2 * p) → 6 ≡ periods_in d p
most d p some many =
    let whole = 2 * d + p in
    let n = whole / (2 * p) in
    let low : n * (2 * p) ≤ whole = div-mul-le_self whole (2 * p) in
    sym (from_six d p some (omega (arith, low, mul-le 6 (2 * p) n (2 * p) many (omega arith))))

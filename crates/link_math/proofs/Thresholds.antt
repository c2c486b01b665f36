-- What tests of two inequalities say, and what they follow from.
--     both_le, le_and_lt                  both inequalities hold, so the test is true
--     both_le_parts, le_and_lt_parts      the test is true, so both hold
--     first_above, second_above           one `≤` fails, so the test of two of them is false
--     below_first, not_below_second       one fails, so the test of a `≤` and a `<` is false
--     both_le_fails, le_and_lt_fails      the test is false, so one fails
use Rattle.std.proofs.Common.{◌≡◌, ℕ, ◌<◌, ◌≤◌, ◌⊎◌, true, false, ◌&&◌, nat_le, nat_lt, arith}
use Rattle.std.proofs.lemmas.Bool.Decides.{nat_tests}

pub both_le : (a b c d : ℕ) → a ≤ b → c ≤ d → (nat_le a b && nat_le c d) ≡ true
both_le a b c d ab cd = grind (arith, nat_tests)

pub both_le_parts : (a b c d : ℕ) → (nat_le a b && nat_le c d) ≡ true → (a ≤ b) × (c ≤ d)
both_le_parts a b c d holds = grind (arith, nat_tests)

pub first_above : (a b c d : ℕ) → b < a → (nat_le a b && nat_le c d) ≡ false
first_above a b c d ba = grind (arith, nat_tests)

pub second_above : (a b c d : ℕ) → d < c → (nat_le a b && nat_le c d) ≡ false
second_above a b c d dc = grind (arith, nat_tests)

pub both_le_fails : (a b c d : ℕ) → (nat_le a b && nat_le c d) ≡ false → (b < a) ⊎ (d < c)
both_le_fails a b c d fails = grind (arith, nat_tests)

pub le_and_lt : (a b c d : ℕ) → a ≤ b → c < d → (nat_le a b && nat_lt c d) ≡ true
le_and_lt a b c d ab cd = grind (arith, nat_tests)

pub le_and_lt_parts : (a b c d : ℕ) → (nat_le a b && nat_lt c d) ≡ true → (a ≤ b) × (c < d)
le_and_lt_parts a b c d holds = grind (arith, nat_tests)

pub below_first : (a b c d : ℕ) → b < a → (nat_le a b && nat_lt c d) ≡ false
below_first a b c d ba = grind (arith, nat_tests)

pub not_below_second : (a b c d : ℕ) → d ≤ c → (nat_le a b && nat_lt c d) ≡ false
not_below_second a b c d dc = grind (arith, nat_tests)

pub le_and_lt_fails : (a b c d : ℕ) → (nat_le a b && nat_lt c d) ≡ false → (b < a) ⊎ (d ≤ c)
le_and_lt_fails a b c d fails = grind (arith, nat_tests)

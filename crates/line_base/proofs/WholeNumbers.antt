-- Numbers below 2^64 that are read digit by digit.
use Rattle.std.proofs.Common.{◌≡◌, ℕ, ◌+◌, ◌-◌, ◌*◌, ◌^◌, ◌<◌, ◌≤◌, List, length, get_or, drop, sym, ◌∙◌, ap, subst, arith}
use Rattle.std.proofs.lemmas.List.{drop_more, drop_all}
use Rattle.line_base.specs.Texts.{number_after}
use Rattle.line_base.proofs.Numbers.{number_after_ge}

-- the digits of a number that is read digit by digit, and stays below 2^64
pub record WholeSoFar (digits : List ℕ) (number : ℕ) (left : List ℕ) : Type 0 where
  pub whole : number_after number left ≡ number_after 0 digits
  pub small : number < 2 ^ 64

one_after : (digits : List ℕ) (number i : ℕ) → WholeSoFar digits number (drop i digits) → i < length digits → number_after (number * 10 + (get_or digits i 0 - 48)) (drop (i + 1) digits) ≡ number_after 0 digits
one_after digits number i so_far within = ap (number_after number) (sym (drop_more digits i 0 within)) ∙ so_far.whole

-- one more digit
pub one_more : (digits : List ℕ) (number i : ℕ) → WholeSoFar digits number (drop i digits) → i < length digits → number * 10 + (get_or digits i 0 - 48) < 2 ^ 64 → WholeSoFar digits (number * 10 + (get_or digits i 0 - 48)) (drop (i + 1) digits)
one_more digits number i so_far within small = record { whole = one_after digits number i so_far within; small = small }

-- a number whose first digits pass the bound passes it
pub too_large : (digits : List ℕ) (number i : ℕ) → WholeSoFar digits number (drop i digits) → i < length digits → 2 ^ 64 ≤ number * 10 + (get_or digits i 0 - 48) → number_after 0 digits < 2 ^ 64 → ⊥
too_large digits number i so_far within large below =
    let later = one_after digits number i so_far within in
    let grows = number_after_ge (number * 10 + (get_or digits i 0 - 48)) (drop (i + 1) digits) in
    omega (arith, later, grows)

-- the last digit
pub all_digits : (digits : List ℕ) (number i : ℕ) → WholeSoFar digits number (drop i digits) → length digits ≤ i → (number_after 0 digits < 2 ^ 64) × (number ≡ number_after 0 digits)
all_digits digits number i so_far past =
    let same : number ≡ number_after 0 digits = sym (ap (number_after number) (drop_all i digits past)) ∙ so_far.whole in
    (subst (λ n. n < 2 ^ 64) same so_far.small, same)

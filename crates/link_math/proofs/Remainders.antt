-- The long division goes from left to right: what is left of a front may stand in its place.
--     length_remainder     a remainder is one bit shorter than the divisor
--     remainder-append     the remainder of bits and more is that of the bits' remainder and more
--     number-below, number-append      the same of the remainder's number
use Rattle.std.proofs.Common.{◌≡◌, ℕ, zero, suc, ◌+◌, ◌-◌, ◌≤◌, Bool, true, false, List, [], ◌∷◌, ◌++◌, length, refl, sym, ◌∙◌, ap, subst, ◌^◌, ◌<◌, arith}
use Rattle.std.proofs.lemmas.List.{length-append}
use Rattle.link_math.specs.Division.{after_front, bits_of, differ, divided, number_of, remainder, take_away}
use Rattle.link_math.proofs.BitLists.{bits_of-number_of, number_of-below}

length_taken : (divisor bits : List Bool) → length (take_away divisor bits) ≡ length bits
unfolding take_away
length_taken [] bits = refl
length_taken (d ∷ ds) [] = refl
length_taken (d ∷ ds) (b ∷ bs) = ap suc (length_taken ds bs)

taken-append : (divisor front back : List Bool) → length divisor ≤ length front → take_away divisor (front ++ back) ≡ take_away divisor front ++ back
unfolding take_away
taken-append [] front back fits = refl
taken-append (d ∷ ds) [] back fits = absurd (omega arith)
taken-append (d ∷ ds) (b ∷ bs) back fits = ap (λ rest. differ d b ∷ rest) (taken-append ds bs back (omega arith))

length_after : (divisor : List Bool) (bit : Bool) (rest : List Bool) → length (after_front divisor bit rest) ≡ length rest
unfolding take_away
length_after divisor false rest = refl
length_after [] true rest = refl
length_after (d ∷ ds) true rest = length_taken ds rest

after-append : (divisor : List Bool) (bit : Bool) (front back : List Bool) → length divisor ≤ suc (length front) → after_front divisor bit (front ++ back) ≡ after_front divisor bit front ++ back
unfolding take_away
after-append divisor false front back fits = refl
after-append [] true front back fits = refl
after-append (d ∷ ds) true front back fits = taken-append ds front back (omega arith)

length_divided : (steps : ℕ) (divisor bits : List Bool) → length (divided steps divisor bits) ≡ length bits - steps
unfolding divided
length_divided zero divisor bits = omega arith
length_divided (suc steps) divisor [] = omega arith
length_divided (suc steps) divisor (bit ∷ rest) =
    omega (arith, length_divided steps divisor (after_front divisor bit rest), length_after divisor bit rest)

divided-append : (steps : ℕ) (divisor front back : List Bool) → steps + (length divisor - 1) ≤ length front → divided steps divisor (front ++ back) ≡ divided steps divisor front ++ back
unfolding divided
divided-append zero divisor front back fits = refl
divided-append (suc steps) divisor [] back fits = absurd (omega arith)
divided-append (suc steps) divisor (bit ∷ rest) back fits =
    ap (divided steps divisor) (after-append divisor bit rest back (omega arith))
    ∙ divided-append steps divisor (after_front divisor bit rest) back (omega (arith, length_after divisor bit rest))

divided_none : (steps : ℕ) (divisor : List Bool) → divided steps divisor [] ≡ []
unfolding divided
divided_none zero divisor = refl
divided_none (suc steps) divisor = refl

divided-add : (steps more : ℕ) (divisor bits : List Bool) → divided (steps + more) divisor bits ≡ divided more divisor (divided steps divisor bits)
unfolding divided
divided-add zero more divisor bits = let none : zero + more ≡ more = omega arith in ap (λ n. divided n divisor bits) none
divided-add (suc steps) more divisor [] =
    divided_none (suc steps + more) divisor ∙ sym (divided_none more divisor)
divided-add (suc steps) more divisor (bit ∷ rest) =
    let next : suc steps + more ≡ suc (steps + more) = omega arith in
    ap (λ n. divided n divisor (bit ∷ rest)) next ∙ divided-add steps more divisor (after_front divisor bit rest)

pub length_remainder : (divisor bits : List Bool) → length divisor - 1 ≤ length bits → length (remainder divisor bits) ≡ length divisor - 1
unfolding remainder
length_remainder divisor bits fits = omega (arith, length_divided (length bits - (length divisor - 1)) divisor bits)

pub remainder-append : (divisor bits more : List Bool) → length divisor - 1 ≤ length bits → remainder divisor (bits ++ more) ≡ remainder divisor (remainder divisor bits ++ more)
unfolding remainder
remainder-append divisor bits more fits =
    let kept = length divisor - 1 in
    let front = divided (length bits - kept) divisor bits in
    let all : length (bits ++ more) - kept ≡ (length bits - kept) + length more = omega (arith, length-append bits more) in
    let rest : length (front ++ more) - kept ≡ length more = omega (arith, length-append front more, length_divided (length bits - kept) divisor bits) in
    ap (λ n. divided n divisor (bits ++ more)) all
    ∙ divided-add (length bits - kept) (length more) divisor (bits ++ more)
    ∙ ap (divided (length more) divisor) (divided-append (length bits - kept) divisor bits more (omega arith))
    ∙ ap (λ n. divided n divisor (front ++ more)) (sym rest)

pub number-below : (divisor bits : List Bool) → length divisor - 1 ≤ length bits → number_of (remainder divisor bits) < 2 ^ (length divisor - 1)
number-below divisor bits fits =
    let left = remainder divisor bits in
    subst (λ (n : ℕ). number_of left < 2 ^ n) (length_remainder divisor bits fits) (number_of-below left)

bits_of-number : (divisor bits : List Bool) → length divisor - 1 ≤ length bits → bits_of (length divisor - 1) (number_of (remainder divisor bits)) ≡ remainder divisor bits
bits_of-number divisor bits fits =
    let left = remainder divisor bits in
    subst (λ (n : ℕ). bits_of n (number_of left) ≡ left) (length_remainder divisor bits fits) (bits_of-number_of left)

pub number-append : (divisor bits more : List Bool) → length divisor - 1 ≤ length bits
    → number_of (remainder divisor (bits_of (length divisor - 1) (number_of (remainder divisor bits)) ++ more)) ≡ number_of (remainder divisor (bits ++ more))
number-append divisor bits more fits =
    ap (λ left. number_of (remainder divisor (left ++ more))) (bits_of-number divisor bits fits)
    ∙ ap number_of (sym (remainder-append divisor bits more fits))

-- A register that holds the remainder of the bits so far, for any divisor.
--     register-below      it is below the power of two of its width
--     taken-one           it is that of one bit more
--     taken-more          it is that of some bits more
use Rattle.std.proofs.Common.{◌≡◌, ℕ, ◌+◌, ◌-◌, ◌^◌, ◌<◌, ◌≤◌, Bool, false, List, [], ◌∷◌, ◌++◌, length, get_or, take, sym, ◌∙◌, ap, subst, append_assoc, arith}
use Rattle.std.proofs.lemmas.List.{length-append, take_more}
use Rattle.link_math.specs.Division.{bits_of, number_of, remainder}
use Rattle.link_math.proofs.Remainders.{number-append, number-below}

pub register-below : (divisor bits : List Bool) (register : ℕ) → length divisor - 1 ≤ length bits → register ≡ number_of (remainder divisor bits) → register < 2 ^ (length divisor - 1)
register-below divisor bits register fits e = subst (λ (n : ℕ). n < 2 ^ (length divisor - 1)) (sym e) (number-below divisor bits fits)

pub taken-more : (divisor front more : List Bool) (left : ℕ) → length divisor - 1 ≤ length front → left ≡ number_of (remainder divisor front)
    → number_of (remainder divisor (bits_of (length divisor - 1) left ++ more)) ≡ number_of (remainder divisor (front ++ more))
taken-more divisor front more left fits e =
    ap (λ n. number_of (remainder divisor (bits_of (length divisor - 1) n ++ more))) e ∙ number-append divisor front more fits

pub taken-one : (divisor front bits : List Bool) (left i : ℕ) → length divisor - 1 ≤ length front → i < length bits → left ≡ number_of (remainder divisor (front ++ take i bits))
    → number_of (remainder divisor (bits_of (length divisor - 1) left ++ get_or bits i false ∷ [])) ≡ number_of (remainder divisor (front ++ take (i + 1) bits))
taken-one divisor front bits left i fits within e =
    let one = get_or bits i false ∷ [] in
    let long : length divisor - 1 ≤ length (front ++ take i bits) = omega (arith, length-append front (take i bits)) in
    taken-more divisor (front ++ take i bits) one left long e
    ∙ ap (λ l. number_of (remainder divisor l)) (append_assoc front (take i bits) one ∙ ap (λ more. front ++ more) (sym (take_more bits i false within)))

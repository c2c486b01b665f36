-- Some of the bits of a number, as a number of their own.
--     number_of-append, number_of-push      the number of bits and more of them
--     number_of-field      the number of some of the bits in the middle, by division
--     number_of-later      the number without its highest bit
--     number_of-bits_of      the number of the lowest bits
--     number_of-bits_of-field      and of some of these
use Rattle.std.proofs.Common.{◌≡◌, ℕ, zero, suc, ◌+◌, ◌*◌, ◌/◌, ◌%◌, ◌^◌, ◌<◌, ◌≤◌, Bool, nat_eq, List, [], ◌∷◌, ◌++◌, length, take, drop, refl, sym, ◌∙◌, ap, ap₂, arith, if◌then◌else◌}
use Rattle.std.proofs.lemmas.List.{length-append, length-drop, length-take-le, take-append-drop}
use Rattle.std.proofs.Math.Nat.{mod-eq_of_lt}
use Rattle.std.proofs.lemmas.Nat.{mod-mul-add, mod-pow-add, pow-add, shr_high}
use Rattle.link_math.specs.Division.{bits_of, number_of}
use Rattle.link_math.proofs.BitLists.{length-bits_of, number_of-below}

pub number_of-append : (front back : List Bool) → number_of (front ++ back) ≡ number_of front * 2 ^ length back + number_of back
unfolding number_of
number_of-append [] back = omega arith
number_of-append (bit ∷ front) back =
    let one : ℕ = if bit then 1 else 0 in
    let wide : 2 ^ length (front ++ back) ≡ 2 ^ length front * 2 ^ length back = ap (λ n. 2 ^ n) (length-append front back) ∙ pow-add 2 (length front) (length back) in
    ap₂ (λ power rest. one * power + rest) wide (number_of-append front back) ∙ omega arith

-- one bit more, lowest
pub number_of-push : (bits : List Bool) (bit : Bool) → number_of (bits ++ bit ∷ []) ≡ 2 * number_of bits + (if bit then 1 else 0)
unfolding number_of
number_of-push bits bit = number_of-append bits (bit ∷ []) ∙ omega arith

-- the bits between a front and a back
number_of-middle : (front middle back : List Bool) → number_of (front ++ (middle ++ back)) / 2 ^ length back % 2 ^ length middle ≡ number_of middle
number_of-middle front middle back =
    let upper = number_of front * 2 ^ length middle + number_of middle in
    let whole : number_of (front ++ (middle ++ back)) ≡ upper * 2 ^ length back + number_of back =
    number_of-append front (middle ++ back)
    ∙ ap₂ (λ power rest. number_of front * power + rest) (ap (λ n. 2 ^ n) (length-append middle back) ∙ pow-add 2 (length middle) (length back)) (number_of-append middle back)
    ∙ omega arith in
    ap (λ n. n / 2 ^ length back % 2 ^ length middle) whole
    ∙ ap (λ n. n % 2 ^ length middle) (shr_high upper (length back) (number_of back) (number_of-below back))
    ∙ mod-mul-add (number_of front) (2 ^ length middle) (number_of middle) (number_of-below middle)

parted : (bits : List Bool) (place count : ℕ) → take place bits ++ (take count (drop place bits) ++ drop count (drop place bits)) ≡ bits
parted bits place count =
    ap (λ rest. take place bits ++ rest) (take-append-drop count (drop place bits)) ∙ take-append-drop place bits

-- so many bits from a place on, with so many behind them
pub number_of-field : (bits : List Bool) (place count behind : ℕ) → place + count + behind ≡ length bits → number_of (take count (drop place bits)) ≡ number_of bits / 2 ^ behind % 2 ^ count
number_of-field bits place count behind fits =
    let back = drop count (drop place bits) in
    let middle = take count (drop place bits) in
    let below : count ≤ length (drop place bits) = omega (arith, length-drop place bits) in
    let long : length middle ≡ count = length-take-le count (drop place bits) below in
    let rest : length back ≡ behind = omega (arith, length-drop count (drop place bits), length-drop place bits) in
    sym (number_of-middle (take place bits) middle back)
    ∙ ap₂ (λ b m. number_of (take place bits ++ (middle ++ back)) / 2 ^ b % 2 ^ m) rest long
    ∙ ap (λ all. number_of all / 2 ^ behind % 2 ^ count) (parted bits place count)

-- a remainder by 2 is one bit
one_bit : (n : ℕ) → n < 2 → (if nat_eq n 1 then 1 else 0) ≡ n
one_bit zero small = refl
one_bit (suc zero) small = refl
one_bit (suc (suc n)) small = absurd (omega arith)

pub number_of-bits_of : (width number : ℕ) → number_of (bits_of width number) ≡ number % 2 ^ width
unfolding bits_of number_of
number_of-bits_of zero number = omega arith
number_of-bits_of (suc width) number =
    let more : suc width ≡ 1 + width = omega arith in
    let front : (if nat_eq (number / 2 ^ width % 2) 1 then 1 else 0) ≡ number / 2 ^ width % 2 = one_bit (number / 2 ^ width % 2) (omega arith) in
    ap₂ (λ power rest. (if nat_eq (number / 2 ^ width % 2) 1 then 1 else 0) * power + rest) (ap (λ n. 2 ^ n) (length-bits_of width number)) (number_of-bits_of width number)
    ∙ ap (λ one. one * 2 ^ width + number % 2 ^ width) front
    ∙ sym (mod-pow-add number 1 width)
    ∙ ap (λ n. number % 2 ^ n) (sym more)

-- so many bits from a place on, with so many behind them, of a number's lowest bits
pub number_of-bits_of-field : (width number place count behind : ℕ) → number < 2 ^ width → place + count + behind ≡ width
    → number_of (take count (drop place (bits_of width number))) ≡ number / 2 ^ behind % 2 ^ count
number_of-bits_of-field width number place count behind small fits =
    number_of-field (bits_of width number) place count behind (omega (arith, length-bits_of width number))
    ∙ ap (λ n. n / 2 ^ behind % 2 ^ count) (number_of-bits_of width number ∙ mod-eq_of_lt small)

-- a number without its highest bit is a remainder
pub number_of-later : (bit : Bool) (bits : List Bool) → number_of (bit ∷ bits) % 2 ^ length bits ≡ number_of bits
unfolding number_of
number_of-later bit bits = mod-mul-add (if bit then 1 else 0) (2 ^ length bits) (number_of bits) (number_of-below bits)

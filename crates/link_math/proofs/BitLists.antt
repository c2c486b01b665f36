-- Numbers as lists of bits, most significant first.
--     length-bits_of      so many bits
--     number_of-below     the number of some bits is below that power of two
--     bits_of-number_of   the bits of the number of some bits are these
--     bits_of-mod         the lowest bits are those of a remainder
use Rattle.std.proofs.Common.{◌≡◌, ℕ, zero, suc, ◌+◌, ◌*◌, ◌/◌, ◌%◌, ◌^◌, ◌<◌, Bool, true, false, nat_eq, List, [], ◌∷◌, length, refl, sym, ◌∙◌, ap, ap₂, arith, if◌then◌else◌}
use Rattle.std.proofs.Math.Nat.{add-mul-div_right, pow-suc}
use Rattle.std.proofs.lemmas.Nat.{div-add-mod', pow_pos, shr_high}
use Rattle.link_math.specs.Division.{bits_of, number_of}

pub length-bits_of : (width number : ℕ) → length (bits_of width number) ≡ width
unfolding bits_of
length-bits_of zero number = refl
length-bits_of (suc width) number = ap suc (length-bits_of width number)

pub number_of-below : (bits : List Bool) → number_of bits < 2 ^ length bits
unfolding number_of
number_of-below [] = omega arith
number_of-below (bit ∷ bits) = with_front bit (number_of-below bits)
  where
    with_front : (bit : Bool) → number_of bits < 2 ^ length bits → (if bit then 1 else 0) * 2 ^ length bits + number_of bits < 2 ^ suc (length bits)
    with_front true below = omega (arith)
    with_front false below = omega (arith)

twice : (width above : ℕ) → above * 2 ^ suc width ≡ 2 * above * 2 ^ width
twice width above = ap (λ n. above * n) (pow-suc 2 width) ∙ omega arith

front_bit : (width number above : ℕ) → (number + above * 2 ^ suc width) / 2 ^ width % 2 ≡ number / 2 ^ width % 2
front_bit width number above =
    ap (λ n. (number + n) / 2 ^ width % 2) (twice width above)
    ∙ ap (λ n. n % 2) (add-mul-div_right number (2 * above) (pow_pos width))
    ∙ omega arith

-- the lowest bits know nothing of those above
bits_of-add : (width number above : ℕ) → bits_of width (number + above * 2 ^ width) ≡ bits_of width number
unfolding bits_of
bits_of-add zero number above = refl
bits_of-add (suc width) number above =
    ap₂ (λ bit bits. bit ∷ bits)
    (ap (λ n. nat_eq n 1) (front_bit width number above))
    (ap (λ n. bits_of width (number + n)) (twice width above) ∙ bits_of-add width number (2 * above))

with_bit : (bit : Bool) (width number : ℕ) → number < 2 ^ width → nat_eq (((if bit then 1 else 0) * 2 ^ width + number) / 2 ^ width % 2) 1 ≡ bit
with_bit true width number below = let front : (1 * 2 ^ width + number) / 2 ^ width ≡ 1 = shr_high 1 width number below in ap (λ n. nat_eq (n % 2) 1) front
with_bit false width number below = let front : (0 * 2 ^ width + number) / 2 ^ width ≡ 0 = shr_high 0 width number below in ap (λ n. nat_eq (n % 2) 1) front

pub bits_of-number_of : (bits : List Bool) → bits_of (length bits) (number_of bits) ≡ bits
unfolding bits_of number_of
bits_of-number_of [] = refl
bits_of-number_of (bit ∷ bits) =
    let above : ℕ = if bit then 1 else 0 in
    let turned : above * 2 ^ length bits + number_of bits ≡ number_of bits + above * 2 ^ length bits = omega arith in
    ap₂ (λ b bs. b ∷ bs)
    (with_bit bit (length bits) (number_of bits) (number_of-below bits))
    (ap (bits_of (length bits)) turned ∙ bits_of-add (length bits) (number_of bits) above ∙ bits_of-number_of bits)

pub bits_of-mod : (width number : ℕ) → bits_of width (number % 2 ^ width) ≡ bits_of width number
bits_of-mod width number =
    let some : 0 < 2 ^ width = pow_pos width in
    let parts : number % 2 ^ width + number / 2 ^ width * 2 ^ width ≡ number = omega (arith, div-add-mod' number (2 ^ width)) in
    sym (bits_of-add width (number % 2 ^ width) (number / 2 ^ width)) ∙ ap (bits_of width) parts

-- The numbers of some bits, most significant first and least significant first.
--     high_bound, high_fits, high_more, high_few      the number of the first so many of three bits, most significant first
--     length-low_bits, low_number-low_bits, low_bits-low_number, low_number-below      a number and its bits, least significant first
--     low_fits, low_more, low_few      the number of the first so many of 24 bits, least significant first
use Rattle.std.proofs.Common.{◌≡◌, ℕ, zero, suc, ◌+◌, ◌*◌, ◌/◌, ◌%◌, ◌^◌, ◌<◌, ◌≤◌, Bool, true, false, nat_eq, if◌then◌else◌, List, [], ◌∷◌, ◌++◌, length, take, get_or, refl, sym, ◌∙◌, ap, ap₂, subst, take_all, arith}
use mir.Val.{bool_byte}
use Rattle.std.proofs.Math.Nat.{mod-eq_of_lt, pow-le-pow_right, pow-suc}
use Rattle.std.proofs.lemmas.List.{length-take, length-take-le, take_more}
use Rattle.link_math.specs.Division.{number_of}
use Rattle.link_math.proofs.BitLists.{number_of-below}
use Rattle.link_math.proofs.BitFields.{number_of-push}
use Rattle.psi5_frame.specs.Frames.{low_bits, low_number}

-- ---- most significant first
pub below_8 : (bits : List Bool) → length bits ≤ 3 → number_of bits < 8
below_8 [] few = omega (arith, number_of-below [])
below_8 (a ∷ []) few = omega (arith, number_of-below (a ∷ []))
below_8 (a ∷ b ∷ []) few = omega (arith, number_of-below (a ∷ b ∷ []))
below_8 (a ∷ b ∷ c ∷ []) few = omega (arith, number_of-below (a ∷ b ∷ c ∷ []))
below_8 (a ∷ b ∷ c ∷ d ∷ more) few = absurd (omega arith)

byte_is : (bit : Bool) → (if bit then 1 else 0) ≡ bool_byte bit
byte_is true = refl
byte_is false = refl

short : (i : ℕ) (bits : List Bool) → length bits ≤ 3 → length (take i bits) ≤ 3
short i bits few = omega (arith, length-take i bits)

pub high_bound : (number i : ℕ) (bits : List Bool) → length bits ≤ 3 → number ≡ number_of (take i bits) → number < 8
high_bound number i bits few e = omega (arith, e, below_8 (take i bits) (short i bits few))

pub high_all : (number i : ℕ) (bits : List Bool) → length bits ≤ i → number ≡ number_of (take i bits) → number ≡ number_of bits
high_all number i bits all e = e ∙ ap number_of (take_all i bits all)

pub high_few : (number i : ℕ) (bits : List Bool) → length bits ≤ i → number ≡ number_of (take i bits) → number < 2 ^ length bits
high_few number i bits all e = subst (λ (n : ℕ). n < 2 ^ length bits) (sym (high_all number i bits all e)) (number_of-below bits)

pub high_more : (number i one : ℕ) (bits : List Bool) → i < length bits → number ≡ number_of (take i bits) → one ≡ bool_byte (get_or bits i false) → 2 * number + one ≡ number_of (take (i + 1) bits)
high_more number i one bits within e o =
    ap₂ (λ n b. 2 * n + b) e (o ∙ sym (byte_is (get_or bits i false)))
    ∙ sym (number_of-push (take i bits) (get_or bits i false)) ∙ ap number_of (sym (take_more bits i false within))

byte_small : (bit : Bool) → bool_byte bit < 2
byte_small true = omega arith
byte_small false = omega arith

pub high_fits : (number i one : ℕ) (bits : List Bool) → length bits ≤ 3 → number ≡ number_of (take i bits) → one ≡ bool_byte (get_or bits i false) → 2 * number + one < 256
high_fits number i one bits few e o = omega (arith, high_bound number i bits few e, o, byte_small (get_or bits i false))

-- ---- least significant first
pub length-low_bits : (width number : ℕ) → length (low_bits width number) ≡ width
unfolding low_bits
length-low_bits zero number = refl
length-low_bits (suc width) number = ap suc (length-low_bits width (number / 2))

one_bit : (n : ℕ) → n < 2 → (if nat_eq n 1 then 1 else 0) ≡ n
one_bit zero small = refl
one_bit (suc zero) small = refl
one_bit (suc (suc n)) small = absurd (omega arith)

half_below : (number width : ℕ) → number < 2 ^ suc width → number / 2 < 2 ^ width
half_below number width small = omega (arith, pow-suc 2 width)

pub low_number-low_bits : (width number : ℕ) → number < 2 ^ width → low_number (low_bits width number) ≡ number
unfolding low_bits low_number
low_number-low_bits zero number small = omega arith
low_number-low_bits (suc width) number small =
    ap₂ (λ a b. a + 2 * b) (one_bit (number % 2) (omega arith)) (low_number-low_bits width (number / 2) (half_below number width small)) ∙ omega arith

pub low_number-below : (bits : List Bool) → low_number bits < 2 ^ length bits
unfolding low_number
low_number-below [] = omega arith
low_number-below (bit ∷ bits) = with_bit bit (low_number-below bits)
  where
    with_bit : (bit : Bool) → low_number bits < 2 ^ length bits → (if bit then 1 else 0) + 2 * low_number bits < 2 ^ suc (length bits)
    with_bit true below = omega (arith, pow-suc 2 (length bits))
    with_bit false below = omega (arith, pow-suc 2 (length bits))

halved : (bit : Bool) (n : ℕ) → (nat_eq (((if bit then 1 else 0) + 2 * n) % 2) 1 ≡ bit) × (((if bit then 1 else 0) + 2 * n) / 2 ≡ n)
halved true n = (let e : (1 + 2 * n) % 2 ≡ 1 = omega arith in ap (λ k. nat_eq k 1) e, omega arith)
halved false n = (let e : (0 + 2 * n) % 2 ≡ 0 = omega arith in ap (λ k. nat_eq k 1) e, omega arith)

pub low_bits-low_number : (bits : List Bool) → low_bits (length bits) (low_number bits) ≡ bits
unfolding low_bits low_number
low_bits-low_number [] = refl
low_bits-low_number (bit ∷ bits) =
    let h = halved bit (low_number bits) in
    ap₂ (λ b bs. b ∷ bs) h.0 (ap (low_bits (length bits)) h.1 ∙ low_bits-low_number bits)

low_number-push : (bits : List Bool) (bit : Bool) → low_number (bits ++ bit ∷ []) ≡ low_number bits + bool_byte bit * 2 ^ length bits
unfolding low_number
low_number-push [] true = refl
low_number-push [] false = refl
low_number-push (b ∷ bits) bit =
    let one : ℕ = if b then 1 else 0 in
    let power : ℕ = 2 ^ length bits in
    let byte : ℕ = bool_byte bit in
    let moved : one + 2 * (low_number bits + byte * power) ≡ one + 2 * low_number bits + byte * (2 * power) = omega arith in
    let double : 2 * power ≡ 2 ^ suc (length bits) = omega (arith, pow-suc 2 (length bits)) in
    ap (λ n. one + 2 * n) (low_number-push bits bit) ∙ moved ∙ ap (λ n. one + 2 * low_number bits + byte * n) double

-- one bit more of the first 24
below_more : (i one : ℕ) (bit : Bool) → i < 24 → one ≡ bool_byte bit → one * 2 ^ i < 2 ^ 24
below_more i one bit within e =
    let low : 2 ^ i ≤ 2 ^ 23 = pow-le-pow_right (omega arith) {j = 23} (omega arith) in
    omega (arith, low, product bit e)
  where
    product : (bit : Bool) → one ≡ bool_byte bit → one * 2 ^ i ≤ 2 ^ i
    product true e = rw e (omega arith)
    product false e = rw e (omega arith)

unwrapped : (i one : ℕ) (bit : Bool) → i < 24 → one ≡ bool_byte bit → one * 2 ^ i % 2 ^ 32 ≡ one * 2 ^ i
unwrapped i one bit within e = let small : one * 2 ^ i < 2 ^ 32 = omega (arith, below_more i one bit within e) in mod-eq_of_lt small

pub low_more : (number i one : ℕ) (bits : List Bool) → length bits ≤ 24 → i < length bits → number ≡ low_number (take i bits) → one ≡ bool_byte (get_or bits i false)
    → number + one * 2 ^ i % 2 ^ 32 ≡ low_number (take (i + 1) bits)
low_more number i one bits few within e o =
    let bit = get_or bits i false in
    let long : length (take i bits) ≡ i = length-take-le i bits (omega arith) in
    ap₂ (λ a b. a + b) e (unwrapped i one bit (omega arith) o ∙ ap₂ (λ a b. a * 2 ^ b) o (sym long))
    ∙ sym (low_number-push (take i bits) bit) ∙ ap low_number (sym (take_more bits i false within))

below_at : (i : ℕ) (bits : List Bool) → length bits ≤ 24 → low_number (take i bits) < 2 ^ 24
below_at i bits few =
    let long : length (take i bits) ≤ 24 = omega (arith, length-take i bits) in
    let low : 2 ^ length (take i bits) ≤ 2 ^ 24 = pow-le-pow_right (omega arith) {j = 24} long in
    omega (arith, low, low_number-below (take i bits))

pub low_fits : (number i one : ℕ) (bits : List Bool) → length bits ≤ 24 → i < length bits → number ≡ low_number (take i bits) → one ≡ bool_byte (get_or bits i false)
    → number + one * 2 ^ i % 2 ^ 32 < 2 ^ 32
low_fits number i one bits few within e o = omega (arith, low_more number i one bits few within e o, below_at (i + 1) bits few)

pub low_few : (number i : ℕ) (bits : List Bool) → length bits ≤ i → number ≡ low_number (take i bits) → number < 2 ^ length bits
low_few number i bits all e = subst (λ (n : ℕ). n < 2 ^ length bits) (sym (e ∙ ap low_number (take_all i bits all))) (low_number-below bits)

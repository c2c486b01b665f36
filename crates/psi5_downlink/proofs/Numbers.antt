-- The number of the first so many of nine bits, most significant first.
--     number_none, number_bound, number_fits, number_more, number_few      before the first bit, one bit more, and all bits
use Rattle.std.proofs.Common.{◌≡◌, ℕ, ◌+◌, ◌*◌, ◌^◌, ◌<◌, ◌≤◌, Bool, true, false, if◌then◌else◌, List, [], length, take, get_or, refl, sym, ◌∙◌, ap, ap₂, subst, take_all, arith}
use mir.Val.{bool_byte}
use Rattle.std.proofs.Math.Nat.{pow-le-pow_right}
use Rattle.std.proofs.lemmas.List.{length-take, take_more}
use Rattle.link_math.specs.Division.{number_of}
use Rattle.link_math.proofs.BitLists.{number_of-below}
use Rattle.link_math.proofs.BitFields.{number_of-push}

pub number_none : 0 ≡ number_of []
unfolding number_of
number_none = refl

below_512 : (bits : List Bool) → length bits ≤ 9 → number_of bits < 2 ^ 9
below_512 bits few =
    let low : 2 ^ length bits ≤ 2 ^ 9 = pow-le-pow_right (omega arith) {j = 9} few in
    omega (arith, low, number_of-below bits)

byte_is : (bit : Bool) → (if bit then 1 else 0) ≡ bool_byte bit
byte_is true = refl
byte_is false = refl

byte_small : (bit : Bool) → bool_byte bit < 2
byte_small true = omega arith
byte_small false = omega arith

pub number_bound : (number i : ℕ) (bits : List Bool) → length bits ≤ 9 → number ≡ number_of (take i bits) → number < 2 ^ 9
number_bound number i bits few e =
    let short : length (take i bits) ≤ 9 = omega (arith, length-take i bits) in
    omega (arith, e, below_512 (take i bits) short)

pub number_fits : (number i one : ℕ) (bits : List Bool) → length bits ≤ 9 → number ≡ number_of (take i bits) → one ≡ bool_byte (get_or bits i false) → 2 * number + one < 2 ^ 16
number_fits number i one bits few e o = omega (arith, number_bound number i bits few e, o, byte_small (get_or bits i false))

pub number_more : (number i one : ℕ) (bits : List Bool) → i < length bits → number ≡ number_of (take i bits) → one ≡ bool_byte (get_or bits i false) → 2 * number + one ≡ number_of (take (i + 1) bits)
number_more number i one bits within e o =
    ap₂ (λ n b. 2 * n + b) e (o ∙ sym (byte_is (get_or bits i false)))
    ∙ sym (number_of-push (take i bits) (get_or bits i false)) ∙ ap number_of (sym (take_more bits i false within))

pub number_few : (number i : ℕ) (bits : List Bool) → length bits ≤ i → number ≡ number_of (take i bits) → number < 2 ^ length bits
number_few number i bits all e = subst (λ (n : ℕ). n < 2 ^ length bits) (sym (e ∙ ap number_of (take_all i bits all))) (number_of-below bits)

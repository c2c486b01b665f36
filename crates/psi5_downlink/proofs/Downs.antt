-- The bits of fields, and what some bits say.
--     down_of-field_bits      what the bits of fields say
--     field_bits-down_of, fits-down_of      the bits of what some bits say, and that it fits
--     length-field_bits      how many bits the fields have
use Rattle.std.proofs.Common.{◌≡◌, ℕ, zero, suc, ◌+◌, ◌^◌, ◌<◌, ◌≤◌, Bool, List, [], ◌∷◌, ◌++◌, length, take, drop, refl, sym, ◌∙◌, ap, ap₂, subst, append_assoc, arith}
use Rattle.std.proofs.Math.Nat.{mod-eq_of_lt}
use Rattle.std.proofs.lemmas.List.{length-append, length-drop, length-take-le, take_at, drop_at, take_all}
use Rattle.link_math.specs.Division.{bits_of, number_of}
use Rattle.link_math.proofs.BitLists.{bits_of-number_of, length-bits_of, number_of-below}
use Rattle.link_math.proofs.BitFields.{number_of-bits_of}
use Rattle.psi5_downlink.specs.declared.down.Form.{Form}
use Rattle.psi5_downlink.specs.declared.down.Down.{Down}
use Rattle.psi5_downlink.specs.Frames.{Fits, down_of, field_bits, field_width, value_at, wide}

-- ---- what the bits of fields say
value_at-part : (skipped width number : ℕ) (front back : List Bool) → length front ≡ skipped → number < 2 ^ width → value_at skipped width (front ++ (bits_of width number ++ back)) ≡ number
value_at-part skipped width number front back long small =
    ap (λ l. number_of (take width l)) (drop_at front (bits_of width number ++ back) skipped long)
    ∙ ap number_of (take_at (bits_of width number) back width (length-bits_of width number))
    ∙ number_of-bits_of width number ∙ mod-eq_of_lt small

down_same : (a f r v a' f' r' v' : ℕ) → a ≡ a' → f ≡ f' → r ≡ r' → v ≡ v'
    → ◌≡◌ {A = Down} (record { address = a; function = f; register = r; value = v }) (record { address = a'; function = f'; register = r'; value = v' })
down_same a f r v a' f' r' v' ea ef er ev = rw (ea, ef, er, ev) refl

pub down_of-field_bits : (form : Form) (d : Down) (more : List Bool) → Fits form d → down_of form (field_bits form d ++ more) ≡ d
down_of-field_bits form d more fits =
    let w = wide form in
    let a = bits_of 3 d.address in
    let f = bits_of 3 d.function in
    let r = bits_of w d.register in
    let v = bits_of w d.value in
    let row = field_bits form d ++ more in
    let af : length (a ++ f) ≡ 6 = length-append a f ∙ ap₂ (λ x y. x + y) (length-bits_of 3 d.address) (length-bits_of 3 d.function) in
    let afr : length ((a ++ f) ++ r) ≡ 6 + w = length-append (a ++ f) r ∙ ap₂ (λ x y. x + y) af (length-bits_of w d.register) in
    let row3 : row ≡ ((a ++ f) ++ r) ++ (v ++ more) = append_assoc ((a ++ f) ++ r) v more in
    let row2 : row ≡ (a ++ f) ++ (r ++ (v ++ more)) = row3 ∙ append_assoc (a ++ f) r (v ++ more) in
    let row1 : row ≡ a ++ (f ++ (r ++ (v ++ more))) = row2 ∙ append_assoc a f (r ++ (v ++ more)) in
    down_same (value_at 0 3 row) (value_at 3 3 row) (value_at 6 w row) (value_at (6 + w) w row) d.address d.function d.register d.value
    (ap (value_at 0 3) row1 ∙ value_at-part 0 3 d.address [] (f ++ (r ++ (v ++ more))) refl fits.address)
    (ap (value_at 3 3) row1 ∙ value_at-part 3 3 d.function a (r ++ (v ++ more)) (length-bits_of 3 d.address) fits.function)
    (ap (value_at 6 w) row2 ∙ value_at-part 6 w d.register (a ++ f) (v ++ more) af fits.register)
    (ap (value_at (6 + w) w) row3 ∙ value_at-part (6 + w) w d.value ((a ++ f) ++ r) more afr fits.value)

-- ---- the bits of what some bits say
length-part : (skipped width : ℕ) (bits : List Bool) → skipped + width ≤ length bits → length (take width (drop skipped bits)) ≡ width
length-part skipped width bits within = length-take-le width (drop skipped bits) (omega (arith, length-drop skipped bits))

bits-part : (skipped width : ℕ) (bits : List Bool) → skipped + width ≤ length bits → bits_of width (value_at skipped width bits) ≡ take width (drop skipped bits)
bits-part skipped width bits within =
    let part = take width (drop skipped bits) in
    ap (λ w. bits_of w (number_of part)) (sym (length-part skipped width bits within)) ∙ bits_of-number_of part

below-part : (skipped width : ℕ) (bits : List Bool) → skipped + width ≤ length bits → value_at skipped width bits < 2 ^ width
below-part skipped width bits within =
    let part = take width (drop skipped bits) in
    subst (λ (w : ℕ). number_of part < 2 ^ w) (length-part skipped width bits within) (number_of-below part)

take-add : {A : Type 0} (a b : ℕ) (xs : List A) → take (a + b) xs ≡ take a xs ++ take b (drop a xs)
take-add zero b xs = let e : zero + b ≡ b = omega arith in ap (λ n. take n xs) e
take-add {A = A} (suc a) b [] = take_none (suc a + b) ∙ sym (take_none b)
  where
    take_none : (n : ℕ) → take {A = A} n [] ≡ []
    take_none zero = refl
    take_none (suc n) = refl
take-add (suc a) b (x ∷ xs) = let e : suc a + b ≡ suc (a + b) = omega arith in ap (λ n. take n (x ∷ xs)) e ∙ ap (λ l. x ∷ l) (take-add a b xs)

pub fits-down_of : (form : Form) (bits : List Bool) → length bits ≡ field_width form → Fits form (down_of form bits)
fits-down_of form bits long = record {
  address = below-part 0 3 bits (omega (arith, long));
  function = below-part 3 3 bits (omega (arith, long));
  register = below-part 6 (wide form) bits (omega (arith, long));
  value = below-part (6 + wide form) (wide form) bits (omega (arith, long));
}

pub field_bits-down_of : (form : Form) (bits : List Bool) → length bits ≡ field_width form → field_bits form (down_of form bits) ≡ bits
field_bits-down_of form bits long =
    let w = wide form in
    let a = take 3 bits in
    let f = take 3 (drop 3 bits) in
    let r = take w (drop 6 bits) in
    let v = take w (drop (6 + w) bits) in
    let each : field_bits form (down_of form bits) ≡ a ++ f ++ r ++ v =
    rw (
      bits-part 0 3 bits (omega (arith, long)),
      bits-part 3 3 bits (omega (arith, long)),
      bits-part 6 w bits (omega (arith, long)),
      bits-part (6 + w) w bits (omega (arith, long)),
    ) refl in
    let all : take (6 + w + w) bits ≡ ((a ++ f) ++ r) ++ v =
    take-add (6 + w) w bits ∙ ap (λ l. l ++ v) (take-add 6 w bits ∙ ap (λ l. l ++ r) (take-add 3 3 bits)) in
    each ∙ sym all ∙ take_all (6 + w + w) bits (omega (arith, long))

pub length-field_bits : (form : Form) (d : Down) → length (field_bits form d) ≡ field_width form
length-field_bits form d =
    let w = wide form in
    let a = bits_of 3 d.address in
    let f = bits_of 3 d.function in
    let r = bits_of w d.register in
    let v = bits_of w d.value in
    omega (
      arith,
      length-append ((a ++ f) ++ r) v,
      length-append (a ++ f) r,
      length-append a f,
      length-bits_of 3 d.address,
      length-bits_of 3 d.function,
      length-bits_of w d.register,
      length-bits_of w d.value,
    )

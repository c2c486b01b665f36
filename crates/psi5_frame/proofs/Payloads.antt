-- The bits of a payload, and the payload of some bits.
--     payload_of-payload_bits      the payload of a payload's bits
--     payload_bits-payload_of, fits-payload_of      the bits of the payload of some bits, and that it fits
--     length-payload_bits      how many bits a payload has
use Rattle.std.proofs.Common.{◌≡◌, ℕ, zero, suc, ◌+◌, ◌^◌, ◌<◌, ◌≤◌, Bool, List, [], ◌∷◌, ◌++◌, length, take, drop, refl, sym, ◌∙◌, ap, ap₂, subst, append_assoc, arith}
use Rattle.std.proofs.lemmas.List.{length-append, length-drop, length-take-le, take_at, drop_at}
use Rattle.psi5_frame.specs.declared.setup.Parts.{Parts}
use Rattle.psi5_frame.specs.declared.burst.Payload.{Payload}
use Rattle.psi5_frame.specs.Setup.{payload_width}
use Rattle.psi5_frame.specs.Frames.{low_bits, low_number, payload_bits, value_at, payload_of, Fits}
use Rattle.psi5_frame.proofs.Numbers.{length-low_bits, low_number-below, low_number-low_bits, low_bits-low_number}

-- ---- the payload of a payload's bits
value_at-part : (skipped width number : ℕ) (front back : List Bool) → length front ≡ skipped → number < 2 ^ width → value_at skipped width (front ++ (low_bits width number ++ back)) ≡ number
value_at-part skipped width number front back long small =
    ap (λ l. low_number (take width l)) (drop_at front (low_bits width number ++ back) skipped long)
    ∙ ap low_number (take_at (low_bits width number) back width (length-low_bits width number))
    ∙ low_number-low_bits width number small

payload_same : (m f s b a m' f' s' b' a' : ℕ) → m ≡ m' → f ≡ f' → s ≡ s' → b ≡ b' → a ≡ a'
    → ◌≡◌ {A = Payload} (record { m = m; f = f; s = s; b = b; a = a }) (record { m = m'; f = f'; s = s'; b = b'; a = a' })
payload_same m f s b a m' f' s' b' a' em ef es eb ea = rw (em, ef, es, eb, ea) refl

pub payload_of-payload_bits : (parts : Parts) (p : Payload) (more : List Bool) → Fits parts p → payload_of parts (payload_bits parts p ++ more) ≡ p
payload_of-payload_bits parts p more fits =
    let m = low_bits parts.m p.m in
    let f = low_bits parts.f p.f in
    let s = low_bits parts.s p.s in
    let b = low_bits parts.b p.b in
    let a = low_bits parts.a p.a in
    let after_s = b ++ (a ++ more) in
    let row = payload_bits parts p ++ more in
    let mf : length (m ++ f) ≡ parts.m + parts.f = length-append m f ∙ ap₂ (λ x y. x + y) (length-low_bits parts.m p.m) (length-low_bits parts.f p.f) in
    let mfs : length ((m ++ f) ++ s) ≡ parts.m + parts.f + parts.s = length-append (m ++ f) s ∙ ap₂ (λ x y. x + y) mf (length-low_bits parts.s p.s) in
    let mfsb : length (((m ++ f) ++ s) ++ b) ≡ parts.m + parts.f + parts.s + parts.b = length-append ((m ++ f) ++ s) b ∙ ap₂ (λ x y. x + y) mfs (length-low_bits parts.b p.b) in
    let row4 : row ≡ (((m ++ f) ++ s) ++ b) ++ (a ++ more) = append_assoc (((m ++ f) ++ s) ++ b) a more in
    let row3 : row ≡ ((m ++ f) ++ s) ++ after_s = row4 ∙ append_assoc ((m ++ f) ++ s) b (a ++ more) in
    let row2 : row ≡ (m ++ f) ++ (s ++ after_s) = row3 ∙ append_assoc (m ++ f) s after_s in
    let row1 : row ≡ m ++ (f ++ (s ++ after_s)) = row2 ∙ append_assoc m f (s ++ after_s) in
    payload_same (value_at 0 parts.m row) (value_at parts.m parts.f row) (value_at (parts.m + parts.f) parts.s row) (value_at (parts.m + parts.f + parts.s) parts.b row) (value_at (parts.m + parts.f + parts.s + parts.b) parts.a row)
    p.m p.f p.s p.b p.a
    (ap (value_at 0 parts.m) row1 ∙ value_at-part 0 parts.m p.m [] (f ++ (s ++ after_s)) refl fits.m)
    (ap (value_at parts.m parts.f) row1 ∙ value_at-part parts.m parts.f p.f m (s ++ after_s) (length-low_bits parts.m p.m) fits.f)
    (ap (value_at (parts.m + parts.f) parts.s) row2 ∙ value_at-part (parts.m + parts.f) parts.s p.s (m ++ f) after_s mf fits.s)
    (ap (value_at (parts.m + parts.f + parts.s) parts.b) row3 ∙ value_at-part (parts.m + parts.f + parts.s) parts.b p.b ((m ++ f) ++ s) (a ++ more) mfs fits.b)
    (ap (value_at (parts.m + parts.f + parts.s + parts.b) parts.a) row4 ∙ value_at-part (parts.m + parts.f + parts.s + parts.b) parts.a p.a (((m ++ f) ++ s) ++ b) more mfsb fits.a)

-- ---- the bits of the payload of some bits
length-part : (skipped width : ℕ) (bits : List Bool) → skipped + width ≤ length bits → length (take width (drop skipped bits)) ≡ width
length-part skipped width bits within = length-take-le width (drop skipped bits) (omega (arith, length-drop skipped bits))

bits-part : (skipped width : ℕ) (bits : List Bool) → skipped + width ≤ length bits → low_bits width (value_at skipped width bits) ≡ take width (drop skipped bits)
bits-part skipped width bits within =
    let part = take width (drop skipped bits) in
    ap (λ w. low_bits w (low_number part)) (sym (length-part skipped width bits within)) ∙ low_bits-low_number part

below-part : (skipped width : ℕ) (bits : List Bool) → skipped + width ≤ length bits → value_at skipped width bits < 2 ^ width
below-part skipped width bits within =
    let part = take width (drop skipped bits) in
    subst (λ (w : ℕ). low_number part < 2 ^ w) (length-part skipped width bits within) (low_number-below part)

pub take-add : {A : Type 0} (a b : ℕ) (xs : List A) → take (a + b) xs ≡ take a xs ++ take b (drop a xs)
take-add zero b xs = let e : zero + b ≡ b = omega arith in ap (λ n. take n xs) e
take-add {A = A} (suc a) b [] = take_none (suc a + b) ∙ sym (take_none b)
  where
    take_none : (n : ℕ) → take {A = A} n [] ≡ []
    take_none zero = refl
    take_none (suc n) = refl
take-add (suc a) b (x ∷ xs) = let e : suc a + b ≡ suc (a + b) = omega arith in ap (λ n. take n (x ∷ xs)) e ∙ ap (λ l. x ∷ l) (take-add a b xs)

pub fits-payload_of : (parts : Parts) (bits : List Bool) → payload_width parts ≤ length bits → Fits parts (payload_of parts bits)
fits-payload_of parts bits within = record {
  m = below-part 0 parts.m bits (omega arith);
  f = below-part parts.m parts.f bits (omega arith);
  s = below-part (parts.m + parts.f) parts.s bits (omega arith);
  b = below-part (parts.m + parts.f + parts.s) parts.b bits (omega arith);
  a = below-part (parts.m + parts.f + parts.s + parts.b) parts.a bits within;
}

pub payload_bits-payload_of : (parts : Parts) (bits : List Bool) → payload_width parts ≤ length bits → payload_bits parts (payload_of parts bits) ≡ take (payload_width parts) bits
payload_bits-payload_of parts bits within =
    let m = take parts.m bits in
    let f = take parts.f (drop parts.m bits) in
    let s = take parts.s (drop (parts.m + parts.f) bits) in
    let b = take parts.b (drop (parts.m + parts.f + parts.s) bits) in
    let a = take parts.a (drop (parts.m + parts.f + parts.s + parts.b) bits) in
    let each : payload_bits parts (payload_of parts bits) ≡ m ++ f ++ s ++ b ++ a =
    rw (
      bits-part 0 parts.m bits (omega arith),
      bits-part parts.m parts.f bits (omega arith),
      bits-part (parts.m + parts.f) parts.s bits (omega arith),
      bits-part (parts.m + parts.f + parts.s) parts.b bits (omega arith),
      bits-part (parts.m + parts.f + parts.s + parts.b) parts.a bits within,
    ) refl in
    let all : take (payload_width parts) bits ≡ (((m ++ f) ++ s) ++ b) ++ a =
    take-add (parts.m + parts.f + parts.s + parts.b) parts.a bits
    ∙ ap (λ l. l ++ a) (take-add (parts.m + parts.f + parts.s) parts.b bits
    ∙ ap (λ l. l ++ b) (take-add (parts.m + parts.f) parts.s bits
    ∙ ap (λ l. l ++ s) (take-add parts.m parts.f bits))) in
    each ∙ sym all

pub length-payload_bits : (parts : Parts) (p : Payload) → length (payload_bits parts p) ≡ payload_width parts
length-payload_bits parts p =
    let m = low_bits parts.m p.m in
    let f = low_bits parts.f p.f in
    let s = low_bits parts.s p.s in
    let b = low_bits parts.b p.b in
    let a = low_bits parts.a p.a in
    length-append (((m ++ f) ++ s) ++ b) a
    ∙ ap₂ (λ x y. x + y) (length-append ((m ++ f) ++ s) b
    ∙ ap₂ (λ x y. x + y) (length-append (m ++ f) s
    ∙ ap₂ (λ x y. x + y) (length-append m f
    ∙ ap₂ (λ x y. x + y) (length-low_bits parts.m p.m) (length-low_bits parts.f p.f)) (length-low_bits parts.s p.s)) (length-low_bits parts.b p.b)) (length-low_bits parts.a p.a)

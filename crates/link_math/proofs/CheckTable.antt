-- A table of sixteen does four steps of the division at once.
--     crc4_remainder-below       four bits are below 16
--     crc4_remainder-append      what remains of a front stands in its place
--     shifted_is, shifted_below      a step by the table is a remainder
--     seed_is, after_another, after_zeros      no nibbles, one more, and the four 0 bits after the last
use Rattle.std.proofs.Common.{◌≡◌, ℕ, ◌+◌, ◌*◌, ◌/◌, ◌%◌, ◌<◌, ◌≤◌, Bool, true, false, nat_eq, List, [], ◌∷◌, ◌++◌, length, get_or, take, bit_xor, refl, sym, ◌∙◌, ap, ap₂, subst, arith}
use Rattle.std.proofs.lemmas.Bool.{agree_below, agree_below_at, eqb-true}
use Rattle.std.proofs.lemmas.List.{flat_map_more, length-append, take_more}
use Rattle.link_math.specs.Checks.{crc4_legacy_of, crc4_of, crc4_remainder, seeded}
use Rattle.link_math.specs.Division.{bits_of, divided, number_of, remainder, take_away}
use Rattle.link_math.specs.declared.nibble_check.TheConstants.{SHIFTED}
use Rattle.link_math.proofs.BitLists.{length-bits_of}
use Rattle.link_math.proofs.Remainders.{number-append, number-below}

abbrev crc4_divisor : List Bool
crc4_divisor = true ∷ true ∷ true ∷ false ∷ true ∷ []

pub crc4_remainder-below : (bits : List Bool) → 4 ≤ length bits → crc4_remainder bits < 16
unfolding crc4_remainder
crc4_remainder-below bits fits = number-below crc4_divisor bits fits

pub crc4_remainder-append : (bits more : List Bool) → 4 ≤ length bits → crc4_remainder (bits_of 4 (crc4_remainder bits) ++ more) ≡ crc4_remainder (bits ++ more)
unfolding crc4_remainder
crc4_remainder-append bits more fits = number-append crc4_divisor bits more fits

-- ---- the table
abbrev same_step : ℕ → ℕ → Bool
same_step check nibble = nat_eq (bit_xor nibble (get_or SHIFTED check 0)) (crc4_remainder (bits_of 4 check ++ bits_of 4 nibble))

all_steps : agree_below (λ place. same_step (place / 16) (place % 16)) (λ _. true) 256 ≡ true
unfolding bits_of crc4_remainder number_of remainder divided take_away
all_steps = refl

pub shifted_is : (check nibble : ℕ) → check < 16 → nibble < 16 → bit_xor nibble (get_or SHIFTED check 0) ≡ crc4_remainder (bits_of 4 check ++ bits_of 4 nibble)
shifted_is check nibble check_small nibble_small =
    let place = check * 16 + nibble in
    let there = agree_below_at (λ place. same_step (place / 16) (place % 16)) (λ _. true) 256 place all_steps (omega arith) in
    let row : place / 16 ≡ check = omega arith in
    let column : place % 16 ≡ nibble = omega arith in
    eqb-true (bit_xor nibble (get_or SHIFTED check 0)) (crc4_remainder (bits_of 4 check ++ bits_of 4 nibble)) (sym (ap₂ same_step row column) ∙ there)

pub shifted_below : (check nibble : ℕ) → check < 16 → nibble < 16 → bit_xor nibble (get_or SHIFTED check 0) < 16
shifted_below check nibble check_small nibble_small =
    let bits = bits_of 4 check ++ bits_of 4 nibble in
    let fits : 4 ≤ length bits = omega (arith, length-append (bits_of 4 check) (bits_of 4 nibble), length-bits_of 4 check) in
    subst (λ (n : ℕ). n < 16) (sym (shifted_is check nibble check_small nibble_small)) (crc4_remainder-below bits fits)

-- ---- one nibble after another
pub length_seeded : (nibbles : List ℕ) → 4 ≤ length (seeded nibbles)
unfolding seeded
length_seeded nibbles = omega arith

pub seed_is : 5 ≡ crc4_legacy_of []
unfolding crc4_legacy_of seeded bits_of crc4_remainder number_of remainder divided take_away
seed_is = refl

legacy-push : (done : List ℕ) (check nibble : ℕ) → check ≡ crc4_legacy_of done → crc4_remainder (bits_of 4 check ++ bits_of 4 nibble) ≡ crc4_legacy_of (done ++ nibble ∷ [])
unfolding crc4_legacy_of seeded
legacy-push done check nibble e =
    ap (λ n. crc4_remainder (bits_of 4 n ++ bits_of 4 nibble)) e
    ∙ crc4_remainder-append (seeded done) (bits_of 4 nibble) (length_seeded done)
    ∙ ap crc4_remainder (flat_map_more (bits_of 4) (false ∷ true ∷ false ∷ true ∷ []) done nibble)

pub after_another : (nibbles : List ℕ) (i check : ℕ) → i < length nibbles → check ≡ crc4_legacy_of (take i nibbles) → crc4_remainder (bits_of 4 check ++ bits_of 4 (get_or nibbles i 0)) ≡ crc4_legacy_of (take (i + 1) nibbles)
after_another nibbles i check within e =
    legacy-push (take i nibbles) check (get_or nibbles i 0) e ∙ ap crc4_legacy_of (sym (take_more nibbles i 0 within))

pub after_zeros : (nibbles : List ℕ) (check : ℕ) → check ≡ crc4_legacy_of nibbles → crc4_remainder (bits_of 4 check ++ bits_of 4 0) ≡ crc4_of nibbles
unfolding crc4_legacy_of crc4_of bits_of
after_zeros nibbles check e =
    ap (λ n. crc4_remainder (bits_of 4 n ++ bits_of 4 0)) e
    ∙ crc4_remainder-append (seeded nibbles) (bits_of 4 0) (length_seeded nibbles)

-- The bits of a message that is sent, as numbers.
--     short_values-number      the value bits of a short one
--     start_bits-wide, start_bits-narrow      the start bits of frames 7 to 18 of an enhanced one
--     front-starts, front-values      all its bits, from those of these frames
--     lower-starts      and back
use Rattle.std.proofs.Common.{◌≡◌, ℕ, ◌+◌, ◌*◌, ◌/◌, ◌%◌, ◌^◌, ◌<◌, List, [], ◌∷◌, ◌++◌, Bool, true, false, length, replicate, refl, sym, ap, ap₂, ◌∙◌, if◌then◌else◌, length-append, arith}
use Rattle.std.proofs.Math.Nat.{mod-eq_of_lt}
use Rattle.link_math.specs.Division.{bits_of, number_of}
use Rattle.link_math.proofs.BitFields.{number_of-append, number_of-bits_of}
use Rattle.link_math.proofs.BitLists.{bits_of-mod, bits_of-number_of, length-bits_of}
use Rattle.link_math.proofs.Nibbles.{crc_small}
use Rattle.sent_serial.specs.Meanings.{short_crc}
use Rattle.sent_serial.specs.SentStatuses.{short_values, later_starts}

-- so many bits are those of their number
is_bits : (bits : List Bool) (width number : ℕ) → length bits ≡ width → number_of bits ≡ number → bits_of width number ≡ bits
is_bits bits width number long is = ap₂ bits_of (sym long) (sym is) ∙ bits_of-number_of bits

-- the number of a field and of the bits behind it
field_before : (width field : ℕ) (back : List Bool) (long rest : ℕ) → length back ≡ long → number_of back ≡ rest → number_of (bits_of width field ++ back) ≡ field % 2 ^ width * 2 ^ long + rest
field_before width field back long rest many is =
    number_of-append (bits_of width field) back
    ∙ ap₂ (λ f b. f * 2 ^ length back + b) (number_of-bits_of width field) is
    ∙ ap (λ n. field % 2 ^ width * 2 ^ n + rest) many

bit_before : (bit : Bool) (back : List Bool) (long rest : ℕ) → length back ≡ long → number_of back ≡ rest → number_of (bit ∷ back) ≡ (if bit then 1 else 0) * 2 ^ long + rest
unfolding number_of
bit_before bit back long rest many is = ap₂ (λ n b. (if bit then 1 else 0) * 2 ^ n + b) many is

-- ---- a short message
pub short_values-length : (id value : ℕ) → length (short_values id value) ≡ 16
unfolding short_values bits_of
short_values-length id value = refl

three_fields : (id value check : ℕ) → id < 16 → value < 256 → check < 16 → number_of (bits_of 4 id ++ (bits_of 8 value ++ bits_of 4 check)) ≡ 4096 * id + 16 * value + check
three_fields id value check id_small value_small check_small =
    let last : number_of (bits_of 4 check) ≡ check = number_of-bits_of 4 check ∙ mod-eq_of_lt check_small in
    let later : number_of (bits_of 8 value ++ bits_of 4 check) ≡ value % 2 ^ 8 * 2 ^ 4 + check = field_before 8 value (bits_of 4 check) 4 check (length-bits_of 4 check) last in
    let long : length (bits_of 8 value ++ bits_of 4 check) ≡ 12 = omega (arith, length-append (bits_of 8 value) (bits_of 4 check), length-bits_of 8 value, length-bits_of 4 check) in
    let sum : id % 2 ^ 4 * 2 ^ 12 + (value % 2 ^ 8 * 2 ^ 4 + check) ≡ 4096 * id + 16 * value + check = omega arith in
    field_before 4 id (bits_of 8 value ++ bits_of 4 check) 12 (value % 2 ^ 8 * 2 ^ 4 + check) long later ∙ sum

pub short_values-number : (id value : ℕ) → id < 16 → value < 256 → bits_of 16 (4096 * id + 16 * value + short_crc id value) ≡ short_values id value
unfolding short_values bits_of
short_values-number id value id_small value_small =
    is_bits (short_values id value) 16 (4096 * id + 16 * value + short_crc id value) (short_values-length id value)
    (three_fields id value (short_crc id value) id_small value_small (crc_small _))

-- ---- an enhanced message
-- the start bits of frames 7 to 18, with these two fields
abbrev starts_of : Bool → ℕ → ℕ → List Bool
starts_of wide first second = false ∷ wide ∷ (bits_of 4 first ++ false ∷ (bits_of 4 second ++ false ∷ []))

starts-length : (wide : Bool) (first second : ℕ) → length (starts_of wide first second) ≡ 12
unfolding bits_of
starts-length wide first second = refl

number_of-clear : number_of (false ∷ []) ≡ 0
unfolding number_of
number_of-clear = refl

starts-number : (wide : Bool) (first second : ℕ) → number_of (starts_of wide first second) ≡ (if wide then 1 else 0) * 1024 + (first % 16 * 64 + second % 16 * 2)
starts-number wide first second =
    let end = bits_of 4 second ++ false ∷ [] in
    let middle = bits_of 4 first ++ false ∷ end in
    let end_long : length end ≡ 5 = omega (arith, length-append (bits_of 4 second) (false ∷ []), length-bits_of 4 second) in
    let middle_long : length middle ≡ 10 = omega (arith, length-append (bits_of 4 first) (false ∷ end), length-bits_of 4 first) in
    let end_is : number_of end ≡ second % 2 ^ 4 * 2 ^ 1 + 0 = field_before 4 second (false ∷ []) 1 0 refl number_of-clear in
    let later : number_of (false ∷ end) ≡ 0 * 2 ^ 5 + (second % 2 ^ 4 * 2 ^ 1 + 0) = bit_before false end 5 (second % 2 ^ 4 * 2 ^ 1 + 0) end_long end_is in
    let middle_is : number_of middle ≡ first % 2 ^ 4 * 2 ^ 6 + (0 * 2 ^ 5 + (second % 2 ^ 4 * 2 ^ 1 + 0)) =
    field_before 4 first (false ∷ end) 6 (0 * 2 ^ 5 + (second % 2 ^ 4 * 2 ^ 1 + 0)) (omega arith) later in
    let formed : number_of (wide ∷ middle) ≡ (if wide then 1 else 0) * 2 ^ 10 + (first % 2 ^ 4 * 2 ^ 6 + (0 * 2 ^ 5 + (second % 2 ^ 4 * 2 ^ 1 + 0))) =
    bit_before wide middle 10 (first % 2 ^ 4 * 2 ^ 6 + (0 * 2 ^ 5 + (second % 2 ^ 4 * 2 ^ 1 + 0))) middle_long middle_is in
    bit_before false (wide ∷ middle) 11 _ (omega arith) formed ∙ omega arith

pub later_starts-length : (id value : ℕ) (wide : Bool) → length (later_starts id value wide) ≡ 12
unfolding later_starts bits_of
later_starts-length id value wide = refl

pub start_bits-wide : (id value : ℕ) → id < 16 → value < 65536 → bits_of 12 (1024 + 64 * id + 2 * (value / 4096)) ≡ later_starts id value true
unfolding later_starts bits_of
start_bits-wide id value id_small value_small =
    let sum : 1 * 1024 + (id % 16 * 64 + value / 4096 % 16 * 2) ≡ 1024 + 64 * id + 2 * (value / 4096) = omega arith in
    is_bits (starts_of true id (value / 4096)) 12 (1024 + 64 * id + 2 * (value / 4096)) (starts-length true id (value / 4096)) (starts-number true id (value / 4096) ∙ sum)

pub start_bits-narrow : (id value : ℕ) → id < 256 → bits_of 12 (64 * (id / 16) + 2 * (id % 16)) ≡ later_starts id value false
unfolding later_starts bits_of
start_bits-narrow id value id_small =
    let sum : 0 * 1024 + (id / 16 % 16 * 64 + id % 16 * 2) ≡ 64 * (id / 16) + 2 * (id % 16) = omega arith in
    is_bits (starts_of false (id / 16) id) 12 (64 * (id / 16) + 2 * (id % 16)) (starts-length false (id / 16) id) (starts-number false (id / 16) id ∙ sum)

-- ---- all eighteen frames
-- the bits of a number with a field in front of it
front_bits : (width more field number : ℕ) → field < 2 ^ width → number < 2 ^ more → bits_of (width + more) (field * 2 ^ more + number) ≡ bits_of width field ++ bits_of more number
front_bits width more field number field_small number_small =
    let rest : number_of (bits_of more number) ≡ number = number_of-bits_of more number ∙ mod-eq_of_lt number_small in
    let high : field % 2 ^ width ≡ field = mod-eq_of_lt field_small in
    is_bits (bits_of width field ++ bits_of more number) (width + more) (field * 2 ^ more + number)
    (omega (arith, length-append (bits_of width field) (bits_of more number), length-bits_of width field, length-bits_of more number))
    (field_before width field (bits_of more number) more number (length-bits_of more number) rest ∙ ap (λ f. f * 2 ^ more + number) high)

six_ones : bits_of 6 63 ≡ replicate 6 true
unfolding bits_of
six_ones = refl

pub front-starts : (free : ℕ) → free < 2048 → bits_of 18 (258048 + free) ≡ replicate 6 true ++ bits_of 12 free
front-starts free small = front_bits 6 12 63 free (omega arith) (omega arith) ∙ ap (λ bits. bits ++ bits_of 12 free) six_ones

pub front-values : (check values : ℕ) → check < 64 → values < 4096 → bits_of 18 (4096 * check + values) ≡ bits_of 6 check ++ bits_of 12 values
front-values check values check_small values_small =
    let turned : 4096 * check + values ≡ check * 2 ^ 12 + values = omega arith in
    ap (bits_of 18) turned ∙ front_bits 6 12 check values check_small values_small

-- the lowest 12 of the start bits
pub lower-starts : (free : ℕ) → bits_of 12 (258048 + free) ≡ bits_of 12 free
lower-starts free =
    let same : (258048 + free) % 4096 ≡ free % 4096 = omega arith in
    sym (bits_of-mod 12 (258048 + free)) ∙ ap (bits_of 12) same ∙ bits_of-mod 12 free

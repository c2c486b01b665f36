-- A register of three bits does one step of the CRC-3's division for each bit.
--     lower_is, upper_is, upper_below      a step of a register whose highest bit is clear, or set
--     taken_none, taken_one      the register after no bit, and after one more
--     message_is      the seed, the frame's bits and then the three 0 bits
--     crc3-below      the CRC-3 is below 8
use Rattle.std.proofs.Common.{◌≡◌, ℕ, ◌+◌, ◌*◌, ◌/◌, ◌%◌, ◌<◌, ◌≤◌, Bool, true, false, nat_eq, nat_lt, List, [], ◌∷◌, ◌++◌, length, get_or, take, bit_xor, refl, sym, ◌∙◌, ap, ap₂, append_assoc, append-nil, cond, arith}
use mir.Val.{bool_byte}
use Rattle.std.proofs.lemmas.Bool.{agree_below, agree_below_at, cond_above, cond_below, eqb-true}
use Rattle.std.proofs.lemmas.List.{length-append}
use Rattle.link_math.specs.Checks.{crc3_of, crc3_remainder}
use Rattle.link_math.specs.Division.{bits_of, divided, number_of, remainder, take_away}
use Rattle.link_math.proofs.BitLists.{length-bits_of}
use Rattle.link_math.proofs.Registers.{register-below, taken-more, taken-one}

abbrev crc3_divisor : List Bool
crc3_divisor = true ∷ false ∷ true ∷ true ∷ []

-- ---- one step
-- the register after one bit more
abbrev stepped : ℕ → ℕ → ℕ
stepped register one = cond (nat_lt register 4) (register % 4 * 2 + one) (bit_xor (register % 4 * 2 + one) 3)

abbrev is_step : ℕ → ℕ → Bool
is_step register one = nat_eq (stepped register one) (crc3_remainder (bits_of 3 register ++ nat_eq one 1 ∷ []))

all_steps : agree_below (λ place. is_step (place / 2) (place % 2)) (λ _. true) 16 ≡ true
unfolding bits_of crc3_remainder number_of remainder divided take_away
all_steps = refl

step_is : (register one : ℕ) → register < 8 → one < 2 → stepped register one ≡ crc3_remainder (bits_of 3 register ++ nat_eq one 1 ∷ [])
step_is register one small bit =
    let place = register * 2 + one in
    let there = agree_below_at (λ place. is_step (place / 2) (place % 2)) (λ _. true) 16 place all_steps (omega arith) in
    let row : place / 2 ≡ register = omega arith in
    let column : place % 2 ≡ one = omega arith in
    eqb-true (stepped register one) (crc3_remainder (bits_of 3 register ++ nat_eq one 1 ∷ [])) (sym (ap₂ is_step row column) ∙ there)

step_takes : (register : ℕ) (bit : Bool) → register < 8 → stepped register (bool_byte bit) ≡ crc3_remainder (bits_of 3 register ++ bit ∷ [])
step_takes register true small = step_is register 1 small (omega arith)
step_takes register false small = step_is register 0 small (omega arith)

pub lower_is : (register one : ℕ) (bit : Bool) → register < 4 → one ≡ bool_byte bit → register % 4 * 2 + one ≡ crc3_remainder (bits_of 3 register ++ bit ∷ [])
lower_is register one bit low e =
    rw e (cond_below register 4 (register % 4 * 2 + bool_byte bit) (bit_xor (register % 4 * 2 + bool_byte bit) 3) low ∙ step_takes register bit (omega arith))

pub upper_is : (register one : ℕ) (bit : Bool) → 4 ≤ register → register < 8 → one ≡ bool_byte bit → bit_xor (register % 4 * 2 + one) 3 ≡ crc3_remainder (bits_of 3 register ++ bit ∷ [])
upper_is register one bit high small e =
    rw e (cond_above register 4 (register % 4 * 2 + bool_byte bit) (bit_xor (register % 4 * 2 + bool_byte bit) 3) (bit_xor (register % 4 * 2 + bool_byte bit) 3) high refl ∙ step_takes register bit small)

pub upper_below : (register one : ℕ) (bit : Bool) → 4 ≤ register → register < 8 → one ≡ bool_byte bit → bit_xor (register % 4 * 2 + one) 3 < 8
unfolding crc3_remainder
upper_below register one bit high small e =
    let fits : 3 ≤ length (bits_of 3 register ++ bit ∷ []) = omega (arith, length-append (bits_of 3 register) (bit ∷ []), length-bits_of 3 register) in
    register-below crc3_divisor (bits_of 3 register ++ bit ∷ []) (bit_xor (register % 4 * 2 + one) 3) fits (upper_is register one bit high small e)

-- ---- one bit after another
abbrev holds_itself : ℕ → Bool
holds_itself register = nat_eq register (crc3_remainder (bits_of 3 register))

all_hold : agree_below holds_itself (λ _. true) 8 ≡ true
unfolding bits_of crc3_remainder number_of remainder divided take_away
all_hold = refl

pub taken_none : (register : ℕ) → register < 8 → register ≡ crc3_remainder (bits_of 3 register ++ [])
taken_none register small =
    eqb-true register (crc3_remainder (bits_of 3 register)) (agree_below_at holds_itself (λ _. true) 8 register all_hold small)
    ∙ ap crc3_remainder (sym (append-nil (bits_of 3 register)))

three_bits : (register : ℕ) → 3 ≤ length (bits_of 3 register)
three_bits register = omega (arith, length-bits_of 3 register)

pub taken_one : (register left i : ℕ) (bits : List Bool) → i < length bits → left ≡ crc3_remainder (bits_of 3 register ++ take i bits)
    → crc3_remainder (bits_of 3 left ++ get_or bits i false ∷ []) ≡ crc3_remainder (bits_of 3 register ++ take (i + 1) bits)
unfolding crc3_remainder
taken_one register left i bits within e = taken-one crc3_divisor (bits_of 3 register) bits left i (three_bits register) within e

pub message_is : (register : ℕ) (bits : List Bool) → register ≡ crc3_remainder (bits_of 3 7 ++ bits) → crc3_remainder (bits_of 3 register ++ false ∷ false ∷ false ∷ []) ≡ crc3_of bits
unfolding crc3_of crc3_remainder bits_of
message_is register bits e =
    let zeros = false ∷ false ∷ false ∷ [] in
    let fits : 3 ≤ length (bits_of 3 7 ++ bits) = omega (arith, length-append (bits_of 3 7) bits, three_bits 7) in
    taken-more crc3_divisor (bits_of 3 7 ++ bits) zeros register fits e
    ∙ ap (λ l. number_of (remainder crc3_divisor l)) (append_assoc (bits_of 3 7) bits zeros)

pub crc3-below : (bits : List Bool) → crc3_of bits < 8
unfolding crc3_of crc3_remainder
crc3-below bits =
    let seed = true ∷ true ∷ true ∷ [] in
    let zeros = false ∷ false ∷ false ∷ [] in
    register-below crc3_divisor (seed ++ bits ++ zeros) (crc3_of bits) (omega (arith, length-append (seed ++ bits) zeros)) refl

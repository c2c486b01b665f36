-- A register of six bits does one step of the division for each bit.
--     lower_is, upper_is, upper_below      a step of a register whose highest bit is clear, or set
--     taken_none, taken_one      the register after no bit, and after one more
--     message_is      the seed, the message's bits and then the six 0 bits
use Rattle.std.proofs.Common.{◌≡◌, ℕ, ◌+◌, ◌*◌, ◌/◌, ◌%◌, ◌<◌, ◌≤◌, Bool, true, false, nat_eq, nat_lt, List, [], ◌∷◌, ◌++◌, length, get_or, take, bit_xor, refl, sym, ◌∙◌, ap, ap₂, subst, append_assoc, append-nil, cond, arith}
use mir.Val.{bool_byte}
use Rattle.std.proofs.lemmas.Bool.{agree_below, agree_below_at, cond_above, cond_below, eqb-true}
use Rattle.std.proofs.lemmas.List.{length-append, take_more}
use Rattle.link_math.specs.Checks.{crc6_of, crc6_remainder}
use Rattle.link_math.specs.Division.{bits_of, divided, number_of, remainder, take_away}
use Rattle.link_math.proofs.BitLists.{length-bits_of}
use Rattle.link_math.proofs.Remainders.{number-append, number-below}

abbrev crc6_divisor : List Bool
crc6_divisor = true ∷ false ∷ true ∷ true ∷ false ∷ false ∷ true ∷ []

pub crc6_remainder-below : (bits : List Bool) → 6 ≤ length bits → crc6_remainder bits < 64
unfolding crc6_remainder
crc6_remainder-below bits fits = number-below crc6_divisor bits fits

pub crc6_remainder-append : (bits more : List Bool) → 6 ≤ length bits → crc6_remainder (bits_of 6 (crc6_remainder bits) ++ more) ≡ crc6_remainder (bits ++ more)
unfolding crc6_remainder
crc6_remainder-append bits more fits = number-append crc6_divisor bits more fits

-- ---- one step
-- the register after one bit more
abbrev stepped : ℕ → ℕ → ℕ
stepped register one = cond (nat_lt register 32) (register % 32 * 2 + one) (bit_xor (register % 32 * 2 + one) 25)

abbrev is_step : ℕ → ℕ → Bool
is_step register one = nat_eq (stepped register one) (crc6_remainder (bits_of 6 register ++ nat_eq one 1 ∷ []))

all_steps : agree_below (λ place. is_step (place / 2) (place % 2)) (λ _. true) 128 ≡ true
unfolding bits_of crc6_remainder number_of remainder divided take_away
all_steps = refl

step_is : (register one : ℕ) → register < 64 → one < 2 → stepped register one ≡ crc6_remainder (bits_of 6 register ++ nat_eq one 1 ∷ [])
step_is register one small bit =
    let place = register * 2 + one in
    let there = agree_below_at (λ place. is_step (place / 2) (place % 2)) (λ _. true) 128 place all_steps (omega arith) in
    let row : place / 2 ≡ register = omega arith in
    let column : place % 2 ≡ one = omega arith in
    eqb-true (stepped register one) (crc6_remainder (bits_of 6 register ++ nat_eq one 1 ∷ [])) (sym (ap₂ is_step row column) ∙ there)

bit_below : (bit : Bool) → bool_byte bit < 2
bit_below true = omega arith
bit_below false = omega arith

bit_is : (bit : Bool) → nat_eq (bool_byte bit) 1 ≡ bit
bit_is true = refl
bit_is false = refl

step_takes : (register : ℕ) (bit : Bool) → register < 64 → stepped register (bool_byte bit) ≡ crc6_remainder (bits_of 6 register ++ bit ∷ [])
step_takes register bit small =
    step_is register (bool_byte bit) small (bit_below bit) ∙ ap (λ b. crc6_remainder (bits_of 6 register ++ b ∷ [])) (bit_is bit)

pub lower_is : (register one : ℕ) (bit : Bool) → register < 32 → one ≡ bool_byte bit → register % 32 * 2 + one ≡ crc6_remainder (bits_of 6 register ++ bit ∷ [])
lower_is register one bit low e =
    rw e (cond_below register 32 (register % 32 * 2 + bool_byte bit) (bit_xor (register % 32 * 2 + bool_byte bit) 25) low ∙ step_takes register bit (omega arith))

pub upper_is : (register one : ℕ) (bit : Bool) → 32 ≤ register → register < 64 → one ≡ bool_byte bit → bit_xor (register % 32 * 2 + one) 25 ≡ crc6_remainder (bits_of 6 register ++ bit ∷ [])
upper_is register one bit high small e =
    rw e (cond_above register 32 (register % 32 * 2 + bool_byte bit) (bit_xor (register % 32 * 2 + bool_byte bit) 25) (bit_xor (register % 32 * 2 + bool_byte bit) 25) high refl ∙ step_takes register bit small)

pub upper_below : (register one : ℕ) (bit : Bool) → 32 ≤ register → register < 64 → one ≡ bool_byte bit → bit_xor (register % 32 * 2 + one) 25 < 64
upper_below register one bit high small e =
    let fits : 6 ≤ length (bits_of 6 register ++ bit ∷ []) = omega (arith, length-append (bits_of 6 register) (bit ∷ []), length-bits_of 6 register) in
    subst (λ (n : ℕ). n < 64) (sym (upper_is register one bit high small e)) (crc6_remainder-below (bits_of 6 register ++ bit ∷ []) fits)

-- ---- one bit after another
abbrev holds_itself : ℕ → Bool
holds_itself register = nat_eq register (crc6_remainder (bits_of 6 register))

all_hold : agree_below holds_itself (λ _. true) 64 ≡ true
unfolding bits_of crc6_remainder number_of remainder divided take_away
all_hold = refl

held : (register : ℕ) → register < 64 → register ≡ crc6_remainder (bits_of 6 register)
held register small = eqb-true register (crc6_remainder (bits_of 6 register)) (agree_below_at holds_itself (λ _. true) 64 register all_hold small)

pub taken_none : (register : ℕ) → register < 64 → register ≡ crc6_remainder (bits_of 6 register ++ [])
taken_none register small = held register small ∙ ap crc6_remainder (sym (append-nil (bits_of 6 register)))

pub taken_one : (register left i : ℕ) (bits : List Bool) → i < length bits → left ≡ crc6_remainder (bits_of 6 register ++ take i bits)
    → crc6_remainder (bits_of 6 left ++ get_or bits i false ∷ []) ≡ crc6_remainder (bits_of 6 register ++ take (i + 1) bits)
taken_one register left i bits within e =
    let fits : 6 ≤ length (bits_of 6 register ++ take i bits) = omega (arith, length-append (bits_of 6 register) (take i bits), length-bits_of 6 register) in
    ap (λ n. crc6_remainder (bits_of 6 n ++ get_or bits i false ∷ [])) e
    ∙ crc6_remainder-append (bits_of 6 register ++ take i bits) (get_or bits i false ∷ []) fits
    ∙ ap crc6_remainder (append_assoc (bits_of 6 register) (take i bits) (get_or bits i false ∷ []) ∙ ap (λ more. bits_of 6 register ++ more) (sym (take_more bits i false within)))

pub message_is : (register : ℕ) (bits : List Bool) → register ≡ crc6_remainder (bits_of 6 21 ++ bits) → crc6_remainder (bits_of 6 register ++ false ∷ false ∷ false ∷ false ∷ false ∷ false ∷ []) ≡ crc6_of bits
unfolding crc6_of bits_of
message_is register bits e =
    let fits : 6 ≤ length (bits_of 6 21 ++ bits) = omega (arith, length-append (bits_of 6 21) bits, length-bits_of 6 21) in
    ap (λ n. crc6_remainder (bits_of 6 n ++ false ∷ false ∷ false ∷ false ∷ false ∷ false ∷ [])) e
    ∙ crc6_remainder-append (bits_of 6 21 ++ bits) (false ∷ false ∷ false ∷ false ∷ false ∷ false ∷ []) fits
    ∙ ap crc6_remainder (append_assoc (bits_of 6 21) bits (false ∷ false ∷ false ∷ false ∷ false ∷ false ∷ []))

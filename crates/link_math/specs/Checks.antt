-- The 4-bit CRC of a SENT frame's nibbles, the 6-bit CRC of an enhanced serial message (SAE J2716) and the 3-bit CRC of a PSI5 frame (PSI5 V2.1), as remainders of a long division, and a PSI5 frame's parity.
use Rattle.std.specs.Prelude.{ℕ, ◌%◌, Bool, true, false, nat_eq, List, [], ◌∷◌, ◌++◌, count_by, flat_map}
use Rattle.link_math.specs.Division.{bits_of, number_of, remainder}

-- the number of the four bits that remain of these bits by the polynomial x⁴ + x³ + x² + 1
unfoldable pub crc4_remainder : List Bool → ℕ
crc4_remainder bits = number_of (remainder (true ∷ true ∷ true ∷ false ∷ true ∷ []) bits)

-- the bits 0101 and then each nibble in four bits
unfoldable pub seeded : List ℕ → List Bool
seeded nibbles = (false ∷ true ∷ false ∷ true ∷ []) ++ flat_map (bits_of 4) nibbles

-- the legacy CRC nibble of these nibbles, the first sent first
unfoldable pub crc4_legacy_of : List ℕ → ℕ
crc4_legacy_of nibbles = crc4_remainder (seeded nibbles)

-- the recommended CRC nibble of these nibbles, the first sent first: the bits 0000 follow them
unfoldable pub crc4_of : List ℕ → ℕ
crc4_of nibbles = crc4_remainder (seeded nibbles ++ (false ∷ false ∷ false ∷ false ∷ []))

-- the number of the six bits that remain of these bits by the polynomial x⁶ + x⁴ + x³ + 1
unfoldable pub crc6_remainder : List Bool → ℕ
crc6_remainder bits = number_of (remainder (true ∷ false ∷ true ∷ true ∷ false ∷ false ∷ true ∷ []) bits)

-- the 6-bit CRC of an enhanced serial message's bits, the first sent first: the bits 010101 stand before them, and the bits 000000 follow them
unfoldable pub crc6_of : List Bool → ℕ
crc6_of bits = crc6_remainder ((false ∷ true ∷ false ∷ true ∷ false ∷ true ∷ []) ++ bits ++ (false ∷ false ∷ false ∷ false ∷ false ∷ false ∷ []))

-- the number of the three bits that remain of these bits by the polynomial x³ + x + 1
unfoldable pub crc3_remainder : List Bool → ℕ
crc3_remainder bits = number_of (remainder (true ∷ false ∷ true ∷ true ∷ []) bits)

-- the 3-bit CRC of a PSI5 frame's bits, the first sent first: the bits 111 stand before them, and the bits 000 follow them
unfoldable pub crc3_of : List Bool → ℕ
crc3_of bits = crc3_remainder ((true ∷ true ∷ true ∷ []) ++ bits ++ (false ∷ false ∷ false ∷ []))

-- the number of ones among these bits is odd
unfoldable pub has_odd_ones : List Bool → Bool
has_odd_ones bits = nat_eq (count_by (λ bit. bit) bits % 2) 1

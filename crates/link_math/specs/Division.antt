-- Numbers as bits, and the long division of bits by a polynomial as in a textbook, most significant bit first.
use Rattle.std.specs.Prelude.{ℕ, zero, suc, ◌+◌, ◌-◌, ◌*◌, ◌/◌, ◌%◌, ◌^◌, Bool, not, nat_eq, if◌then◌else◌, List, [], ◌∷◌, length, drop}

-- the lowest so many bits of a number, most significant first
unfoldable pub bits_of : ℕ → ℕ → List Bool
bits_of zero number = []
bits_of (suc width) number = nat_eq (number / 2 ^ width % 2) 1 ∷ bits_of width number

-- the number that these bits write, most significant first
unfoldable pub number_of : List Bool → ℕ
number_of [] = 0
number_of (bit ∷ bits) = (if bit then 1 else 0) * 2 ^ length bits + number_of bits

-- two bits differ
abbrev pub differ : Bool → Bool → Bool
differ a b = if a then not b else b

-- the bits once the divisor is taken away from their front, bit by bit and with no borrow
unfoldable pub take_away : List Bool → List Bool → List Bool
take_away [] bits = bits
take_away (d ∷ ds) [] = []
take_away (d ∷ ds) (b ∷ bs) = differ d b ∷ take_away ds bs

-- the bits once the front bit is gone, and the divisor with it where that bit is one
abbrev pub after_front : List Bool → Bool → List Bool → List Bool
after_front divisor front rest = if front then drop 1 (take_away divisor (front ∷ rest)) else rest

-- the bits that are left after so many steps of the division, each of which takes the front bit away
unfoldable pub divided : ℕ → List Bool → List Bool → List Bool
divided zero divisor bits = bits
divided (suc steps) divisor [] = []
divided (suc steps) divisor (front ∷ rest) = divided steps divisor (after_front divisor front rest)

-- the remainder of bits by a divisor, the coefficients of a polynomial from its highest on: one bit fewer than the divisor has, so there are as many steps as the bits are more than that
unfoldable pub remainder : List Bool → List Bool → List Bool
remainder divisor bits = divided (length bits - (length divisor - 1)) divisor bits

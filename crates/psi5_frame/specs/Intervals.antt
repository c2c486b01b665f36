-- What the interval between two edges of a PSI5 data line is, within a burst.
use Rattle.std.specs.Prelude.{ℕ, Bool, true, false}
use Rattle.link_math.specs.declared.manchester.Halves.{Halves}
use Rattle.link_math.specs.declared.manchester.Halves.TheVariants.{Short, One, Two, Quiet}

-- how many half-bits further the second edge is
abbrev pub half_bits : Halves → ℕ
half_bits Short = 0
half_bits One = 1
half_bits Two = 2
half_bits Quiet = 0

-- the interval is less than half of a half-bit
abbrev pub is_short : Halves → Bool
is_short Short = true
is_short One = false
is_short Two = false
is_short Quiet = false

-- the interval is two half-bits
abbrev pub is_two : Halves → Bool
is_two Short = false
is_two One = false
is_two Two = true
is_two Quiet = false

-- no burst goes on over the interval
abbrev pub is_quiet : Halves → Bool
is_quiet Short = false
is_quiet One = false
is_quiet Two = false
is_quiet Quiet = true

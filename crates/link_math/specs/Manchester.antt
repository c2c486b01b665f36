-- How many half-bits lie between two edges of a PSI5 data line (the Manchester code: PSI5 V2.1, base standard); the thresholds are this project's own.
use Rattle.std.specs.Prelude.{ℕ, ◌*◌, ◌<◌, ◌≤◌, nat_lt, if◌then◌else◌}
use Rattle.link_math.specs.declared.manchester.Halves.{Halves}
use Rattle.link_math.specs.declared.manchester.Halves.TheVariants.{Short, One, Two, Quiet}

-- an interval, at this nominal bit time (both in ns), counts as so many half-bits: below a quarter of a bit as none, then to the nearest as one or two, and from five quarters on as quiet
abbrev pub CountsAs : ℕ → ℕ → Halves → Type 0
CountsAs interval bit Short = 4 * interval < bit
CountsAs interval bit One = (bit ≤ 4 * interval) × (4 * interval < 3 * bit)
CountsAs interval bit Two = (3 * bit ≤ 4 * interval) × (4 * interval < 5 * bit)
CountsAs interval bit Quiet = 5 * bit ≤ 4 * interval

-- the same as a value: what an interval counts as, at this nominal bit time (both in ns)
abbrev pub halves_in : ℕ → ℕ → Halves
halves_in interval bit =
    if nat_lt (4 * interval) bit then Short
    else (if nat_lt (4 * interval) (3 * bit) then One
    else (if nat_lt (4 * interval) (5 * bit) then Two
    else Quiet))

-- The seed of a simulation, as a word writes it; this project's own.
use Rattle.std.specs.Prelude.{ℕ, ◌^◌, nat_lt, Option, None, Some, List, if◌then◌else◌}
use Rattle.line_base.specs.Texts.{◌>>=◌, number_in}

-- the number below 2^64 that one or more decimal digits write
unfoldable pub seed_in : List ℕ → Option ℕ
seed_in text = do
  number ← number_in text
  if nat_lt number (2 ^ 64) then Some number else None

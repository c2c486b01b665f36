-- The bits of a frame that is being read or made, as they are kept; this project's own.
use Rattle.std.specs.Prelude.{◌≡◌, ℕ, ◌-◌, ◌≤◌, Bool, false, List, ◌++◌, length, take, replicate}

-- the first cells of 44 hold bits, and the cells behind them are false
pub record IsKept (cells : List Bool) (count : ℕ) : Type 0 where
  pub few : length (take count cells) ≤ 44
  pub padded : cells ≡ take count cells ++ replicate (44 - length (take count cells)) false
  pub counted : count ≡ length (take count cells)

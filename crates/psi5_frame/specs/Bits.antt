-- The bits of a burst that isn't complete yet.
use Rattle.std.specs.Prelude.{◌≡◌, ℕ, ◌-◌, ◌≤◌, Bool, false, List, ◌++◌, length, take, replicate}

-- the first cells of 33 hold bits, and the cells behind them are false
pub record IsKept (cells : List Bool) (count : ℕ) : Type 0 where
  pub few : length (take count cells) ≤ 33
  pub padded : cells ≡ take count cells ++ replicate (33 - length (take count cells)) false
  pub counted : count ≡ length (take count cells)

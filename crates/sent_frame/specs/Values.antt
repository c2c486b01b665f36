-- The values of a frame that isn't whole yet.
use Rattle.std.specs.Prelude.{◌≡◌, ℕ, ◌-◌, ◌<◌, ◌≤◌, List, ◌++◌, All, length, take, replicate}

-- up to 8 numbers below 16
pub record AreValues (values : List ℕ) : Type 0 where
  pub few : length values ≤ 8
  pub each : All (λ value. value < 16) values

-- the first cells of eight hold values, and the cells behind them are 0
pub record IsKept (cells : List ℕ) (count : ℕ) : Type 0 where
  pub values : AreValues (take count cells)
  pub padded : cells ≡ take count cells ++ replicate (8 - length (take count cells)) 0
  pub counted : count ≡ length (take count cells)

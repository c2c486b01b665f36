-- Data nibbles of a frame (SAE J2716).
use Rattle.std.specs.Prelude.{◌≡◌, ℕ, ◌-◌, ◌<◌, ◌≤◌, List, ◌++◌, All, length, take, replicate}

-- 1 to 6 numbers below 16
pub record AreNibbles (values : List ℕ) : Type 0 where
  pub some : 1 ≤ length values
  pub few : length values ≤ 6
  pub each : All (λ value. value < 16) values

-- the first cells of six hold nibbles, and the cells behind them are 0
pub record IsKept (cells : List ℕ) (count : ℕ) : Type 0 where
  pub nibbles : AreNibbles (take count cells)
  pub padded : cells ≡ take count cells ++ replicate (6 - length (take count cells)) 0
  pub counted : count ≡ length (take count cells)

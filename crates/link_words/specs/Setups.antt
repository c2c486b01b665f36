-- The channels of a command, and how they are kept.
use Rattle.std.specs.Prelude.{◌≡◌, ℕ, ◌-◌, ◌≤◌, List, [], ◌∷◌, ◌++◌, length, take, replicate}
use Rattle.receiver_core.specs.declared.setup.ChannelSetup.{ChannelSetup}

-- sixteen cells that begin with these setups, and then hold the first of them
abbrev pub padded : List ChannelSetup → List ChannelSetup
padded [] = []
padded (first ∷ others) = (first ∷ others) ++ replicate (16 - length (first ∷ others)) first

-- the first 1 to 16 of the cells hold setups, and those behind them the first setup
pub record IsKept (cells : List ChannelSetup) (count : ℕ) : Type 0 where
  pub some : 1 ≤ count
  pub few : count ≤ 16
  pub counted : length (take count cells) ≡ count
  pub filled : padded (take count cells) ≡ cells

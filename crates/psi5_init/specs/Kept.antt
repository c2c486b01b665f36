-- What a reader of codes has kept; this project's own.
use Rattle.std.specs.Prelude.{ℕ, ◌<◌, ◌≤◌}
use Rattle.psi5_init.specs.declared.reader.OpenBlock.{OpenBlock}
use Rattle.psi5_init.specs.declared.reader.State.{State}
use Rattle.psi5_init.specs.declared.reader.State.TheVariants as state
use Rattle.psi5_init.specs.Standings.{BlockRead, Standing}
use Rattle.psi5_init.specs.Standings.Standing.{Fresh, Idle, AwaitsValue, AwaitsId}

-- the block that is being read
abbrev pub block_of : OpenBlock → BlockRead
block_of b = record { id = b.id; loose = b.loose; pairs = b.pairs; value = b.value; blocks = b.blocks }

-- where the reading stands
abbrev pub standing_of : State → Standing
standing_of state.Fresh = Fresh
standing_of state.Idle = Idle
standing_of (state.AwaitsValue b) = AwaitsValue (block_of b)
standing_of (state.AwaitsId b) = AwaitsId (block_of b)

-- how many pairs a block can have in a state, where it is sent so many times
abbrev pub IsState : ℕ → State → Type 0
IsState repeats state.Fresh = Unit {0}
IsState repeats state.Idle = Unit {0}
IsState repeats (state.AwaitsValue b) = b.pairs < repeats
IsState repeats (state.AwaitsId b) = b.pairs ≤ repeats

-- how many blocks were told in the phase
abbrev pub blocks_in : State → ℕ
blocks_in state.Fresh = 0
blocks_in state.Idle = 0
blocks_in (state.AwaitsValue b) = b.blocks
blocks_in (state.AwaitsId b) = b.blocks

-- what a reader has kept
pub record IsKept (repeats : ℕ) (state : State) : Type 0 where
  pub some : 1 ≤ repeats
  pub few : repeats ≤ 16
  pub valid : IsState repeats state

-- How far a sensor's tick may be off, and how it may drift; ticks are whole numbers of ps, the nominal tick is in ns. The bounds are this project's own.
use Rattle.std.specs.Prelude.{ℕ, ◌+◌, ◌*◌, ◌≤◌}

-- a tick in ps is 4/5 to 6/5 of the nominal tick in ns
pub record IsTick (nominal tick : ℕ) : Type 0 where
  pub not_below : 800 * nominal ≤ tick
  pub not_above : tick ≤ 1200 * nominal

-- a tick is off from another by at most one of so many parts of that one
pub record IsNear (parts tick other : ℕ) : Type 0 where
  pub not_below : parts * tick ≤ parts * other + tick
  pub not_above : parts * other ≤ parts * tick + tick

-- a frame's tick may follow that of the frame before: it is off by at most a 200th of it
abbrev pub FollowsTick : ℕ → ℕ → Type 0
FollowsTick before tick = IsNear 200 before tick

-- a pulse's own tick may stand in a frame whose calibration pulse has that tick: it is off by at most a 400th of it
abbrev pub IsOwnTick : ℕ → ℕ → Type 0
IsOwnTick calibration own = IsNear 400 calibration own

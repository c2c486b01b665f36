-- The rises of a sync line, and the sync periods between them; this project's own.
use Rattle.std.specs.Prelude.{ℕ, ◌-◌, List, [], ◌∷◌}
use Rattle.link_math.specs.Periods.{periods_in}

-- a rise, with its number in the channel and its time in ns
pub record Rise : Type 0 where
  pub number : ℕ
  pub time : ℕ

-- from one rise to the next: the number of the later, and how many sync periods lie between them, at most six
pub record Interval : Type 0 where
  pub number : ℕ
  pub periods : ℕ

-- the intervals up to these rises, at this nominal period, where the rise before them came at this time
unfoldable pub intervals_after : ℕ → ℕ → List Rise → List Interval
intervals_after period before [] = []
intervals_after period before (rise ∷ rises) = record { number = rise.number; periods = periods_in (rise.time - before) period } ∷ intervals_after period rise.time rises

-- the intervals of these rises, at this nominal period: the first rise ends none
abbrev pub intervals_of : ℕ → List Rise → List Interval
intervals_of period [] = []
intervals_of period (rise ∷ rises) = intervals_after period rise.time rises

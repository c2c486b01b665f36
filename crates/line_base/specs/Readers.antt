-- Readers that are fed one element after another; this project's own.
use Rattle.std.specs.Prelude.{◌≡◌, List, ◌++◌}

-- whatever comes after what was seen, the answers are those so far and then these
pub record GoesOn {X Y : Type 0} (so_far : List X → List Y) (seen : List X) (after : List X → List Y) : Type 0 where
  pub each : (more : List X) → so_far (seen ++ more) ≡ so_far seen ++ after more

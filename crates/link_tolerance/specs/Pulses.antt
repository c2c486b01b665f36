-- The lengths of the pulses that a SENT sensor sends, and their falls (SAE J2716).
use Rattle.std.specs.Prelude.{ℕ, ◌+◌, ◌*◌, List, [], ◌∷◌}

-- the lengths of pulses that have so many ticks, of these lengths
abbrev pub lengths_of : List ℕ → List ℕ → List ℕ
lengths_of [] ticks = []
lengths_of (count ∷ counts) [] = []
lengths_of (count ∷ counts) (tick ∷ ticks) = count * tick ∷ lengths_of counts ticks

-- the falls that end pulses of these lengths, which begin at this time
unfoldable pub falls_behind : ℕ → List ℕ → List ℕ
falls_behind time [] = []
falls_behind time (pulse ∷ pulses) = (time + pulse) ∷ falls_behind (time + pulse) pulses

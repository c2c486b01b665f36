-- When edges are recorded by words of a wobble, and the edges of a line that rests high; this project's own.
use Rattle.std.specs.Prelude.{ℕ, ◌+◌, ◌-◌, ◌*◌, ◌/◌, ◌%◌, Bool, true, false, not, Option, None, Some, List, [], ◌∷◌}
use Rattle.line_base.specs.declared.edge.Edge.{Edge}

-- a timed edge that is ideal at this time in ps is recorded at this time in ns, by this word: up to a jitter below the jitter earlier, or up to the jitter later
unfoldable pub recorded_at : ℕ → ℕ → ℕ → ℕ
recorded_at jitter ideal word = ideal / 1000 + word % (2 * jitter) - (jitter - 1)

-- timed edges that are ideal at these times are recorded at these, by these words, one for each
unfoldable pub recorded_by : ℕ → List ℕ → List ℕ → List ℕ
recorded_by jitter [] words = []
recorded_by jitter (ideal ∷ ideals) [] = []
recorded_by jitter (ideal ∷ ideals) (word ∷ words) = recorded_at jitter ideal word ∷ recorded_by jitter ideals words

-- the edge of this line to this level, at this time
abbrev pub edge_at : ℕ → ℕ → Bool → Edge
edge_at line time level = record { line = line; time = time; level = level }

-- edges of a line to this level at these times in ns, each with the edge back so many ns later
unfoldable pub pulses_at : ℕ → Bool → ℕ → List ℕ → List Edge
pulses_at line level width [] = []
pulses_at line level width (time ∷ times) = edge_at line time level ∷ edge_at line (time + width) (not level) ∷ pulses_at line level width times

-- falls at these times, each with its rise so many ns later
abbrev pub falls_with_rises : ℕ → ℕ → List ℕ → List Edge
falls_with_rises line low times = pulses_at line false low times

-- rises at these times, each with its fall so many ns later
abbrev pub rises_with_falls : ℕ → ℕ → List ℕ → List Edge
rises_with_falls line high times = pulses_at line true high times

-- the opening of a line that rests at this level, at 0, where nothing was sent on it yet
abbrev pub opening_of : ℕ → Bool → Option ℕ → List Edge
opening_of line level None = edge_at line 0 level ∷ []
opening_of line level (Some last) = []

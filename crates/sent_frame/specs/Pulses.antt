-- SENT pulses, from falling edge to falling edge (SAE J2716).
use Rattle.std.specs.Prelude.{ℕ, ◌-◌, List, [], ◌∷◌, if◌then◌else◌}
use Rattle.line_base.specs.Edges.{NumberedEdge}

-- a falling edge: its number, and its time in ns
pub record Fall : Type 0 where
  pub number : ℕ
  pub time : ℕ

-- a pulse: the number of the falling edge that ends it, and its length in ns
pub record Pulse : Type 0 where
  pub place : ℕ
  pub length : ℕ

-- the falling edges among edges that come after the opening
abbrev pub falls_in : List NumberedEdge → List Fall
falls_in [] = []
falls_in (e ∷ edges) = if e.edge.level then falls_in edges else record { number = e.number; time = e.edge.time } ∷ falls_in edges

-- the falling edges of a line: the first edge is an opening, and none
abbrev pub falls_of : List NumberedEdge → List Fall
falls_of [] = []
falls_of (opening ∷ edges) = falls_in edges

-- the pulses between these falling edges, where the one before them was at this time
abbrev pub pulses_after : ℕ → List Fall → List Pulse
pulses_after before [] = []
pulses_after before (fall ∷ falls) = record { place = fall.number; length = fall.time - before } ∷ pulses_after fall.time falls

-- the pulses from each falling edge to the next
abbrev pub pulses_between : List Fall → List Pulse
pulses_between [] = []
pulses_between (fall ∷ falls) = pulses_after fall.time falls

-- the pulses of a line's edges
abbrev pub pulses_of : List NumberedEdge → List Pulse
pulses_of edges = pulses_between (falls_of edges)

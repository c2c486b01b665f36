-- How the ideal edges of a sensor are recorded; this project's own.
use Rattle.std.specs.Prelude.{ℕ, ◌+◌, ◌*◌, ◌≤◌, List, [], ◌∷◌}

-- an ideal time in ps is recorded at a time in ns that is at most the jitter (in ns) earlier or later
pub record IsRecorded (jitter ideal recorded : ℕ) : Type 0 where
  pub not_too_early : ideal ≤ 1000 * (recorded + jitter)
  pub not_too_late : 1000 * recorded ≤ ideal + 1000 * jitter

-- these ideal times are recorded at these times, one by one
abbrev pub AreRecorded : ℕ → List ℕ → List ℕ → Type 0
AreRecorded jitter [] [] = Unit {0}
AreRecorded jitter [] (recorded ∷ times) = ⊥
AreRecorded jitter (ideal ∷ ideals) [] = ⊥
AreRecorded jitter (ideal ∷ ideals) (recorded ∷ times) = IsRecorded jitter ideal recorded × AreRecorded jitter ideals times

-- a line whose opening is at this time in ns was opened after these ideal edges, the last of them give or take the jitter: they were left out
abbrev pub OpensAfter : ℕ → ℕ → List ℕ → Type 0
OpensAfter jitter opening [] = Unit {0}
OpensAfter jitter opening (ideal ∷ []) = ideal ≤ 1000 * (opening + jitter)
OpensAfter jitter opening (ideal ∷ next ∷ ideals) = OpensAfter jitter opening (next ∷ ideals)

-- a pulse of this ideal length in ps is heard as this length in ns: each of its two edges may be off by the jitter (in ns)
pub record IsHeard (jitter ideal heard : ℕ) : Type 0 where
  pub not_too_short : ideal ≤ 1000 * heard + 2000 * jitter
  pub not_too_long : 1000 * heard ≤ ideal + 2000 * jitter

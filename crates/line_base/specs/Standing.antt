-- What a reader with bounded state stands for, where a list is read from its front; this project's own.
use Rattle.std.specs.Prelude.{◌≡◌, List, ◌∷◌, ◌++◌}
use Rattle.line_base.specs.Readers.{GoesOn}
use Rattle.line_base.specs.Readings.{Found, read_past, end_past}

-- whatever comes next, these elements give these reports, and reading goes on as if that were due and those elements were read
pub record LeadsTo {X Y S : Type 0} (found : S → X → List X → Found Y S) (due : S) (xs : List X) (reports : List Y) (next : S) (rest : List X) : Type 0 where
  pub reads : (more : List X) → read_past found 0 due (xs ++ more) ≡ reports ++ read_past found 0 next (rest ++ more)
  pub ends : (more : List X) → end_past found 0 due (xs ++ more) ≡ end_past found 0 next (rest ++ more)

-- these elements give these reports, and lead to what agrees with a state
pub record Led {X Y S : Type 0} (found : S → X → List X → Found Y S) (Agrees : S → List X → Type 0) (due : S) (xs : List X) (reports : List Y) : Type 0 where
  pub next : S
  pub rest : List X
  pub agrees : Agrees next rest
  pub leads : LeadsTo found due xs reports next rest

-- from whatever agrees with the state before, the next elements lead to these reports and to what agrees with the state after
pub record Leads {X Y S : Type 0} (found : S → X → List X → Found Y S) (Before After : S → List X → Type 0) (xs : List X) (reports : List Y) : Type 0 where
  pub each : (due : S) (kept : List X) → Before due kept → Led found After due (kept ++ xs) reports

-- a reader in this state stands for what was seen: whatever comes next, the reports are those of what was seen and then those that what it has kept leads to
pub record StandsFor {X Y S : Type 0} (found : S → X → List X → Found Y S) (start : S) (Agrees : S → List X → Type 0) (seen : List X) : Type 0 where
  pub due : S
  pub kept : List X
  pub agrees : Agrees due kept
  pub leads : LeadsTo found start seen (read_past found 0 start seen) due kept

-- ---- a reading of what is made of another list
-- the reader has made a list of what was seen, of which the rest is made so, and stands for that list
pub record StandsOver {W X Y S : Type 0} (make made : List W → List X) (found : S → X → List X → Found Y S) (start : S) (Agrees : S → List X → Type 0) (seen : List W) : Type 0 where
  pub makes : GoesOn make seen made
  pub stands : StandsFor found start Agrees (make seen)

-- of the next element some elements are made, and these lead on
pub record LeadsOver {W X Y S : Type 0} (made now : List W → List X) (found : S → X → List X → Found Y S) (Before After : S → List X → Type 0) (w : W) (reports : List Y) : Type 0 where
  pub news : List X
  pub makes : (more : List W) → made (w ∷ more) ≡ news ++ now more
  pub leads : Leads found Before After news reports

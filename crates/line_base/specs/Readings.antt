-- How a list is read from its front, looking ahead: what stands there, and what comes behind what it uses up; this project's own. X are the elements, Y the reports, and S is what is due at an element.
use Rattle.std.specs.Prelude.{ℕ, zero, suc, List, [], ◌∷◌}

-- what stands at the front of a list: something unfinished, with the reports that it comes to if nothing more comes; or nothing more, and this is due behind so many of the later elements; or a report, and then this
pub data Found (Y S : Type 0) : Type 0 where
  Waiting : List Y → Found Y S
  Past : ℕ → S → Found Y S
  Reported : Y → Found Y S → Found Y S

-- the reports of what was found, and then those of what comes later
abbrev pub go_on : {Y S : Type 0} → Found Y S → (ℕ → S → List Y) → List Y
go_on (Waiting ends) later = []
go_on (Past used next) later = later used next
go_on (Reported report found) later = report ∷ go_on found later

-- what is added to these reports if nothing more comes
abbrev pub end_on : {Y S : Type 0} → Found Y S → (ℕ → S → List Y) → List Y
end_on (Waiting ends) later = ends
end_on (Past used next) later = later used next
end_on (Reported report found) later = end_on found later

-- the reports of a list, behind the first so many elements, where this is due then
unfoldable pub read_past : {X Y S : Type 0} → (S → X → List X → Found Y S) → ℕ → S → List X → List Y
read_past found skip due [] = []
read_past found (suc skip) due (x ∷ xs) = read_past found skip due xs
read_past found zero due (x ∷ xs) = go_on (found due x xs) (λ used next. read_past found used next xs)

-- the reports that the end adds to these
unfoldable pub end_past : {X Y S : Type 0} → (S → X → List X → Found Y S) → ℕ → S → List X → List Y
end_past found skip due [] = []
end_past found (suc skip) due (x ∷ xs) = end_past found skip due xs
end_past found zero due (x ∷ xs) = end_on (found due x xs) (λ used next. end_past found used next xs)

-- these reports, and nothing more, behind so many of the later elements
abbrev pub told : {Y S : Type 0} → List Y → ℕ → S → Found Y S
told [] used next = Past used next
told (report ∷ reports) used next = Reported report (told reports used next)

-- these reports, and then this
abbrev pub told_before : {Y S : Type 0} → List Y → Found Y S → Found Y S
told_before [] found = found
told_before (report ∷ reports) found = Reported report (told_before reports found)

-- where nothing is ever due: nothing stands here
abbrev pub skipped : {Y : Type 0} → Found Y (Unit {0})
skipped = Past 0 tt

-- where nothing is ever due: a report, and reading goes on behind so many of the later elements
abbrev pub ended : {Y : Type 0} → Y → ℕ → Found Y (Unit {0})
ended report used = Reported report (Past used tt)

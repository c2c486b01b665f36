-- How the codes of a PSI5 sensor are read as blocks of an initialisation phase, each by the codes before it; this project's own. Lists of codes before a place have the newest first.
use Rattle.std.specs.Prelude.{ℕ, suc, ◌+◌, ◌%◌, Bool, true, false, ◌||◌, nat_eq, nat_lt, if◌then◌else◌, List, [], ◌∷◌}
use Rattle.line_base.specs.declared.rule.Rule.TheVariants.{InitOrder, InitRepeat}
use Rattle.psi5_init.specs.declared.code.Code.{Code}
use Rattle.psi5_init.specs.declared.code.Code.TheVariants as code
use Rattle.psi5_init.specs.declared.step.InitStep.{InitStep}
use Rattle.psi5_init.specs.declared.step.InitStep.TheVariants as step

-- ---- what the codes before a place say
-- the ID after this one: 16 is followed by 1
abbrev pub next_id : ℕ → ℕ
next_id id = id % 16 + 1

-- these codes are values and nothing else
unfoldable pub are_values : List Code → Bool
are_values [] = true
are_values (code.Value value ∷ codes) = are_values codes
are_values (other ∷ codes) = false

-- how many whole pairs of this ID and a value these codes end in
unfoldable pub pairs_of : ℕ → List Code → ℕ
pairs_of id (code.Value value ∷ code.Block other ∷ codes) = if nat_eq other id then suc (pairs_of id codes) else 0
pairs_of id codes = 0

-- the beginning of the block of this ID wasn't seen: behind its pairs come values and nothing else
unfoldable pub is_loose : ℕ → List Code → Bool
is_loose id (code.Value value ∷ code.Block other ∷ codes) = if nat_eq other id then is_loose id codes else false
is_loose id codes = are_values codes

-- this value may follow the block's ID: it is the first, or that of the pair before
unfoldable pub is_repeated : ℕ → List Code → ℕ → Bool
is_repeated id (code.Value before ∷ code.Block other ∷ codes) value = if nat_eq other id then nat_eq value before else true
is_repeated id codes value = true

-- how many whole blocks, each sent so many times, these codes end in, behind the last code that is neither an ID nor a value
unfoldable pub whole_blocks : ℕ → List Code → ℕ
whole_blocks repeats (code.Value value ∷ code.Block id ∷ codes) =
    if nat_eq (suc (pairs_of id codes)) repeats then suc (whole_blocks repeats codes) else whole_blocks repeats codes
whole_blocks repeats (code.Block id ∷ codes) = whole_blocks repeats codes
whole_blocks repeats codes = 0

-- ---- the step of a code
-- behind the ID of a block: its value, with which the block is whole where it has so many pairs; another value than that of the pair before is a wrong repeat, and any other code may not stand here
abbrev pub behind_id : ℕ → ℕ → List Code → Code → InitStep
behind_id repeats id before (code.Value value) =
    if is_repeated id before value then (if nat_eq (suc (pairs_of id before)) repeats then step.Block id value else step.Nothing) else step.Bad InitRepeat
behind_id repeats id before (code.Block other) = step.Bad InitOrder
behind_id repeats id before (code.Signal number) = step.Bad InitOrder
behind_id repeats id before code.Ready = step.Bad InitOrder
behind_id repeats id before code.Busy = step.Bad InitOrder
behind_id repeats id before code.Defect = step.Bad InitOrder
behind_id repeats id before (code.Reserved number) = step.Bad InitOrder

-- the block of this ID may end behind these codes: all its pairs are there, or its beginning wasn't seen
abbrev pub may_end : ℕ → ℕ → List Code → Bool
may_end repeats id before = nat_eq (pairs_of id before) repeats || is_loose id before

-- behind a value of the block of this ID: the ID again while pairs are missing, the next ID or Ready where the block may end; too few or too many pairs are a wrong repeat, and any other code may not stand here
abbrev pub behind_value : ℕ → ℕ → List Code → Code → InitStep
behind_value repeats id before (code.Block other) =
    if nat_eq other id then (if nat_lt (pairs_of id before) repeats then step.Nothing else step.Bad InitRepeat)
    else (if nat_eq other (next_id id) then (if may_end repeats id before then step.Nothing else step.Bad InitRepeat)
    else step.Bad InitOrder)
behind_value repeats id before code.Ready = if may_end repeats id before then step.Done (whole_blocks repeats before) else step.Bad InitRepeat
behind_value repeats id before (code.Value value) = step.Bad InitOrder
behind_value repeats id before (code.Signal number) = step.Bad InitOrder
behind_value repeats id before code.Busy = step.Bad InitOrder
behind_value repeats id before code.Defect = step.Bad InitOrder
behind_value repeats id before (code.Reserved number) = step.Bad InitOrder

-- outside a phase: ID 1 begins one, and another ID or a value may not stand here
abbrev pub outside : Code → InitStep
outside (code.Block id) = if nat_eq id 1 then step.Nothing else step.Bad InitOrder
outside (code.Value value) = step.Bad InitOrder
outside (code.Signal number) = step.Nothing
outside code.Ready = step.Nothing
outside code.Busy = step.Nothing
outside code.Defect = step.Nothing
outside (code.Reserved number) = step.Nothing

-- the step of a code, behind the codes since the start or, with the code that was told, the last fault: nothing while no ID or nothing but values came before it
unfoldable pub step_behind : ℕ → List Code → Code → InitStep
step_behind repeats [] c = step.Nothing
step_behind repeats (code.Block id ∷ before) c = behind_id repeats id before c
step_behind repeats (code.Value value ∷ code.Block id ∷ before) c = behind_value repeats id (code.Value value ∷ code.Block id ∷ before) c
step_behind repeats (code.Value value ∷ before) c = step.Nothing
step_behind repeats (other ∷ before) c = outside c

-- the codes since the start or the last fault, with one code more: behind a fault reading begins again with the code that was told
abbrev pub since : List Code → Code → InitStep → List Code
since before c (step.Bad rule) = c ∷ []
since before c step.Nothing = c ∷ before
since before c (step.Block id value) = c ∷ before
since before c (step.Done blocks) = c ∷ before

-- the steps of codes, one for each, behind these since the start or the last fault
unfoldable pub steps_behind : ℕ → List Code → List Code → List InitStep
steps_behind repeats before [] = []
steps_behind repeats before (c ∷ codes) = step_behind repeats before c ∷ steps_behind repeats (since before c (step_behind repeats before c)) codes

-- the steps of codes, one for each, where each block is sent so many times
unfoldable pub init_reading : ℕ → List Code → List InitStep
init_reading repeats codes = steps_behind repeats [] codes

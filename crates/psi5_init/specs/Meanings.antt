-- What the codes of a phase come to that are read from any place on; this project's own.
use Rattle.std.specs.Prelude.{ℕ, ◌+◌, ◌-◌, ◌*◌, ◌/◌, ◌%◌, Bool, ◌&&◌, nat_eq, nat_le, if◌then◌else◌, List, count_by, length, map, slice_index}
use Rattle.std.specs.List.{range_with_len}
use Rattle.line_base.specs.declared.rule.Rule.{Rule}
use Rattle.line_base.specs.declared.rule.Rule.TheVariants as rule
use Rattle.psi5_init.specs.declared.step.InitStep.{InitStep}
use Rattle.psi5_init.specs.declared.step.InitStep.TheVariants.{Nothing, Block, Done, Bad}
use Rattle.psi5_init.specs.Phases.{id_at}

-- the first place of the block at this index, where each block is sent so many times
abbrev pub place_of : ℕ → ℕ → ℕ
place_of repeats index = 2 * repeats * index

-- the index of the block at this place
abbrev pub index_at : ℕ → ℕ → ℕ
index_at repeats place = place / (2 * repeats)

-- the place is the last of a block
abbrev pub is_last : ℕ → ℕ → Bool
is_last repeats place = nat_eq (place % (2 * repeats)) (2 * repeats - 1)

-- the block at this index is whole from place `from` on
abbrev pub is_whole : ℕ → ℕ → ℕ → Bool
is_whole repeats from index = nat_le from (place_of repeats index)

-- how many of so many blocks are whole from place `from` on
abbrev pub whole_blocks : ℕ → ℕ → ℕ → ℕ
whole_blocks repeats from count = count_by (is_whole repeats from) (range_with_len 0 count)

-- what the code at a place comes to, in a phase of these nibbles that is read from place `from` on: the last code of each block that is whole from there on is the block, the last code of all is the phase's end where at least two codes were read before it, and nothing else is told
abbrev pub told_at : ℕ → ℕ → List ℕ → ℕ → InitStep
told_at repeats from nibbles place =
    if is_last repeats place && is_whole repeats from (index_at repeats place) then Block (id_at (index_at repeats place)) (slice_index nibbles (index_at repeats place))
    else (if nat_eq place (place_of repeats (length nibbles)) && nat_le (from + 2) place then Done (whole_blocks repeats from (length nibbles))
    else Nothing)

-- what the codes of a phase of these nibbles come to, from place `from` to the last
abbrev pub told : ℕ → ℕ → List ℕ → List InitStep
told repeats from nibbles = map (told_at repeats from nibbles) (range_with_len from (place_of repeats (length nibbles) + 1 - from))

-- the rule is one of an initialisation
abbrev pub IsInitRule : Rule → Type 0
IsInitRule rule.NoCalibration = ⊥
IsInitRule rule.Drift = ⊥
IsInitRule rule.NibbleRange = ⊥
IsInitRule rule.Check = ⊥
IsInitRule rule.PauseRange = ⊥
IsInitRule rule.Copy = ⊥
IsInitRule rule.Restart = ⊥
IsInitRule rule.Zero13 = ⊥
IsInitRule rule.Zero18 = ⊥
IsInitRule rule.SerialCheck = ⊥
IsInitRule rule.TriggerWidth = ⊥
IsInitRule rule.Delay = ⊥
IsInitRule rule.FirstFall = ⊥
IsInitRule rule.TooShort = ⊥
IsInitRule rule.Phase = ⊥
IsInitRule rule.StartBit = ⊥
IsInitRule rule.TooLong = ⊥
IsInitRule rule.TooFew = ⊥
IsInitRule rule.EndsHigh = ⊥
IsInitRule rule.Psi5Check = ⊥
IsInitRule rule.NoSync = ⊥
IsInitRule rule.NoSlot = ⊥
IsInitRule rule.SlotTwice = ⊥
IsInitRule rule.InitOrder = Unit {0}
IsInitRule rule.InitRepeat = Unit {0}
IsInitRule rule.SyncBit = ⊥
IsInitRule rule.DownCheck = ⊥
IsInitRule rule.StartPattern = ⊥

-- the step violates no rule but one of an initialisation
abbrev pub IsInitStep : InitStep → Type 0
IsInitStep Nothing = Unit {0}
IsInitStep (Block id value) = Unit {0}
IsInitStep (Done blocks) = Unit {0}
IsInitStep (Bad broken) = IsInitRule broken

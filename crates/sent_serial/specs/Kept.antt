-- What readers of serial messages have kept of the statuses that they have seen; this project's own.
use Rattle.std.specs.Prelude.{◌≡◌, ℕ, suc, ◌^◌, ◌<◌, ◌≤◌, true, false, List, [], ◌∷◌, length, map, slice_index}
use Rattle.link_math.specs.Division.{number_of}
use Rattle.sent_serial.specs.declared.short.ShortState.{ShortState}
use Rattle.sent_serial.specs.declared.short.ShortState.TheVariants.{Outside, Within}
use Rattle.sent_serial.specs.declared.enhanced.EnhancedState.{EnhancedState}
use Rattle.sent_serial.specs.declared.enhanced.EnhancedState.TheVariants as enhanced
use Rattle.sent_serial.specs.Statuses.{start_bit, value_bit, clear_before, set_before}

-- these statuses are the first so many of a short message, and these are their value bits
pub record IsShortFront (taken bits : ℕ) (kept : List ℕ) : Type 0 where
  pub first : ℕ
  pub later : List ℕ
  pub stands : kept ≡ first ∷ later
  pub starts : start_bit first ≡ true
  pub all_clear : clear_before later ≡ length later
  pub as_many : suc (length later) ≡ taken
  pub values : number_of (map value_bit (first ∷ later)) ≡ bits

-- a reader of short messages in this state has kept these statuses
abbrev pub AgreesShort : ShortState → Unit {0} → List ℕ → Type 0
AgreesShort Outside due kept = kept ≡ []
AgreesShort (Within taken bits) due kept = IsShortFront taken bits kept

-- 1 to 15 frames are there, and no more value bits than these
pub record IsShortCount (taken bits : ℕ) : Type 0 where
  pub some : 1 ≤ taken
  pub few : taken ≤ 15
  pub bounded : bits < 2 ^ taken

-- a reader of short messages can have this state
abbrev pub IsShortState : ShortState → Type 0
IsShortState Outside = Unit {0}
IsShortState (Within taken bits) = IsShortCount taken bits

-- these statuses have their start bits set, there are so many, and these are their value bits
pub record IsRun (run bits : ℕ) (kept : List ℕ) : Type 0 where
  pub all_set : set_before kept ≡ length kept
  pub as_many : length kept ≡ run
  pub values : number_of (map value_bit kept) ≡ bits

-- these statuses are the first so many of an enhanced message, and these are their value bits and start bits
pub record IsEnhancedFront (taken values starts : ℕ) (kept : List ℕ) : Type 0 where
  pub begins : set_before kept ≡ 6
  pub as_many : length kept ≡ taken
  pub clear_13 : 12 < length kept → start_bit (slice_index kept 12) ≡ false
  pub value_bits : number_of (map value_bit kept) ≡ values
  pub start_bits : number_of (map start_bit kept) ≡ starts

-- a reader of enhanced messages in this state has kept these statuses
abbrev pub AgreesEnhanced : EnhancedState → Unit {0} → List ℕ → Type 0
AgreesEnhanced (enhanced.Searching run bits) due kept = IsRun run bits kept
AgreesEnhanced (enhanced.Within taken values starts) due kept = IsEnhancedFront taken values starts kept

-- up to 6 frames are there, and no more value bits than these
pub record IsRunCount (run bits : ℕ) : Type 0 where
  pub few : run ≤ 6
  pub bounded : bits < 2 ^ run

-- 7 to 17 frames are there, and no more bits than these
pub record IsEnhancedCount (taken values starts : ℕ) : Type 0 where
  pub some : 7 ≤ taken
  pub few : taken ≤ 17
  pub values_bounded : values < 2 ^ taken
  pub starts_bounded : starts < 2 ^ taken

-- a reader of enhanced messages can have this state
abbrev pub IsEnhancedState : EnhancedState → Type 0
IsEnhancedState (enhanced.Searching run bits) = IsRunCount run bits
IsEnhancedState (enhanced.Within taken values starts) = IsEnhancedCount taken values starts

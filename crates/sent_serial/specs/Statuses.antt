-- The two bits of a frame's status nibble that carry serial messages (SAE J2716).
use Rattle.std.specs.Prelude.{◌≡◌, ℕ, suc, ◌<◌, ◌-◌, ◌/◌, ◌%◌, Bool, nat_eq, List, [], ◌∷◌, take, drop, map, if◌then◌else◌}

-- bit 3 of a status nibble, the start bit
abbrev pub start_bit : ℕ → Bool
start_bit status = nat_eq (status / 8 % 2) 1

-- bit 2 of a status nibble, the value bit
abbrev pub value_bit : ℕ → Bool
value_bit status = nat_eq (status / 4 % 2) 1

-- a status has no bit but these two set
pub record HasTwoBits (status : ℕ) : Type 0 where
  pub is_nibble : status < 16
  pub no_other : status % 4 ≡ 0

-- so many statuses, from frame number `first` on, counted from 1
abbrev pub frames_from : ℕ → ℕ → List ℕ → List ℕ
frames_from first count statuses = take count (drop (first - 1) statuses)

-- the value bits of so many statuses, from frame number `first` on
abbrev pub value_bits : ℕ → ℕ → List ℕ → List Bool
value_bits first count statuses = map value_bit (frames_from first count statuses)

-- the start bits of so many statuses, from frame number `first` on
abbrev pub start_bits : ℕ → ℕ → List ℕ → List Bool
start_bits first count statuses = map start_bit (frames_from first count statuses)

-- how many statuses whose start bit is clear stand before the first whose start bit is set
unfoldable pub clear_before : List ℕ → ℕ
clear_before [] = 0
clear_before (status ∷ later) = if start_bit status then 0 else suc (clear_before later)

-- how many statuses whose start bit is set stand before the first whose start bit is clear
unfoldable pub set_before : List ℕ → ℕ
set_before [] = 0
set_before (status ∷ later) = if start_bit status then suc (set_before later) else 0

-- the bits of two lists in turn, as long as both have some
unfoldable pub merged : List Bool → List Bool → List Bool
merged [] others = []
merged (bit ∷ bits) [] = []
merged (bit ∷ bits) (other ∷ others) = bit ∷ other ∷ merged bits others

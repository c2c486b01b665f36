-- The bits of a downlink frame (CRC-3: PSI5 V2.1, base standard); the forms, the bit order, the start and the inserted ones are this project's own.
use Rattle.std.specs.Prelude.{ℕ, ◌+◌, ◌*◌, ◌<◌, ◌^◌, Bool, true, false, List, [], ◌∷◌, ◌++◌, take, drop}
use Rattle.link_math.specs.Division.{bits_of, number_of}
use Rattle.link_math.specs.Checks.{crc3_of}
use Rattle.psi5_downlink.specs.declared.down.Form.{Form}
use Rattle.psi5_downlink.specs.declared.down.Form.TheVariants.{Short, Long, XLong}
use Rattle.psi5_downlink.specs.declared.down.Down.{Down}

-- how many bits the register has, and the value too
abbrev pub wide : Form → ℕ
wide Short = 0
wide Long = 6
wide XLong = 9

-- how many groups of three bits a frame has, with the CRC
abbrev pub group_count : Form → ℕ
group_count Short = 3
group_count Long = 7
group_count XLong = 9

-- how many bits a frame has, from the start's last 0 to the last inserted 1: these two, and four for each group
abbrev pub frame_length : Form → ℕ
frame_length form = 2 + 4 * group_count form

-- how many bits the fields have
abbrev pub field_width : Form → ℕ
field_width form = 6 + 2 * wide form

-- each value fits the width of its field
pub record Fits (form : Form) (down : Down) : Type 0 where
  pub address : down.address < 8
  pub function : down.function < 8
  pub register : down.register < 2 ^ wide form
  pub value : down.value < 2 ^ wide form

-- the bits of the fields: address, function, register and value, each with its most significant bit first
abbrev pub field_bits : Form → Down → List Bool
field_bits form down = bits_of 3 down.address ++ bits_of 3 down.function ++ bits_of (wide form) down.register ++ bits_of (wide form) down.value

-- the bits of fields, and behind them their CRC-3, most significant bit first
abbrev pub checked : List Bool → List Bool
checked fields = fields ++ bits_of 3 (crc3_of fields)

-- these bits in groups of three, each followed by an inserted 1
unfoldable pub with_ones : List Bool → List Bool
with_ones [] = []
with_ones (a ∷ []) = []
with_ones (a ∷ b ∷ []) = []
with_ones (a ∷ b ∷ c ∷ bits) = a ∷ b ∷ c ∷ true ∷ with_ones bits

-- the bits of a frame: the start's last 0 and its inserted 1, and then the fields and their CRC in groups
unfoldable pub frame_of : Form → Down → List Bool
frame_of form down = false ∷ true ∷ with_ones (checked (field_bits form down))

-- the bits of the groups, without the inserted ones
unfoldable pub without_ones : List Bool → List Bool
without_ones (a ∷ b ∷ c ∷ one ∷ bits) = a ∷ b ∷ c ∷ without_ones bits
without_ones [] = []
without_ones (a ∷ []) = []
without_ones (a ∷ b ∷ []) = []
without_ones (a ∷ b ∷ c ∷ []) = []

-- the value of so many bits, behind the first so many
abbrev pub value_at : ℕ → ℕ → List Bool → ℕ
value_at skipped width bits = number_of (take width (drop skipped bits))

-- what these fields say
abbrev pub down_of : Form → List Bool → Down
down_of form fields = record {
  address = value_at 0 3 fields;
  function = value_at 3 3 fields;
  register = value_at 6 (wide form) fields;
  value = value_at (6 + wide form) (wide form) fields;
}

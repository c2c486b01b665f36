-- Enhanced messages, from the bits of their statuses.
use Rattle.std.specs.Prelude.{◌≡◌, ℕ, ◌+◌, ◌*◌, ◌<◌, Bool, true, false, List, [], ◌∷◌, length, map}
use Rattle.link_math.specs.Division.{number_of}
use Rattle.sent_serial.specs.Statuses.{start_bit, value_bit}
use Rattle.sent_serial.specs.Enhanced.{enhanced_content, enhanced_reading}

-- these eighteen statuses have these value bits and start bits
pub record HasBits (statuses : List ℕ) (values starts : ℕ) : Type 0 where
  pub as_many : length statuses ≡ 18
  pub value_bits : number_of (map value_bit statuses) ≡ values
  pub start_bits : number_of (map start_bit statuses) ≡ starts

-- a message has room for this id and this value: a wide one for an id of 4 bits, any other for a value of 12
abbrev pub FitsMessage : ℕ → ℕ → Bool → Type 0
FitsMessage id value true = id < 16
FitsMessage id value false = value < 4096

-- these statuses are a message with these start bits and, behind its CRC, these value bits, and are read as what it says
pub record IsMessageOf (statuses : List ℕ) (starts values : ℕ) : Type 0 where
  pub check : ℕ
  pub bits : HasBits statuses (4096 * check + values) starts
  pub reads : enhanced_reading statuses ≡ enhanced_content statuses ∷ []

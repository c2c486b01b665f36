-- What each step of the serial messages stands for in the statuses of the good frames since the last break, the last of which ends it (messages: SAE J2716; Restart, and over which bits a CRC runs: this project's own).
use Rattle.std.specs.Prelude.{◌≡◌, ◌≢◌, ℕ, ◌/◌, ◌%◌, ◌≤◌, true, false, List, [], ◌∷◌, ◌++◌, All, length}
use Rattle.line_base.specs.declared.rule.Rule.{Rule}
use Rattle.line_base.specs.declared.rule.Rule.TheVariants as rule
use Rattle.link_math.specs.Division.{number_of}
use Rattle.link_math.specs.Checks.{crc4_of, crc6_of}
use Rattle.sent_serial.specs.declared.step.SerialStep.{SerialStep}
use Rattle.sent_serial.specs.declared.step.SerialStep.TheVariants as step
use Rattle.sent_serial.specs.Statuses.{start_bit, frames_from, value_bits}
use Rattle.sent_serial.specs.Enhanced.{checked_bits, enhanced_content}

-- the start bits of so many frames are set, from frame number `first` on, counted from 1
abbrev pub AreSet : ℕ → ℕ → List ℕ → Type 0
AreSet first count frames = All (λ status. start_bit status ≡ true) (frames_from first count frames)

-- the start bits of so many frames are clear, from frame number `first` on
abbrev pub AreClear : ℕ → ℕ → List ℕ → Type 0
AreClear first count frames = All (λ status. start_bit status ≡ false) (frames_from first count frames)

-- the last so many of these statuses are these frames
pub record AreLast (count : ℕ) (frames statuses : List ℕ) : Type 0 where
  pub before : List ℕ
  pub stands : statuses ≡ before ++ frames
  pub as_many : length frames ≡ count

-- the statuses end in sixteen frames, of which the first alone has its start bit set; their value bits are this ID, this value and this CRC, each from its highest bit down
pub record EndsInShort (statuses : List ℕ) (id value crc : ℕ) : Type 0 where
  pub frames : List ℕ
  pub last : AreLast 16 frames statuses
  pub first_set : AreSet 1 1 frames
  pub others_clear : AreClear 2 15 frames
  pub id_is : number_of (value_bits 1 4 frames) ≡ id
  pub value_is : number_of (value_bits 5 8 frames) ≡ value
  pub crc_is : number_of (value_bits 13 4 frames) ≡ crc

-- the CRC of a short message: that of its ID and of the high and the low nibble of its value
abbrev pub short_crc : ℕ → ℕ → ℕ
short_crc id value = crc4_of (id ∷ value / 16 ∷ value % 16 ∷ [])

-- the statuses end in a short message whose CRC isn't that of its ID and its value
pub record EndsInWrongShort (statuses : List ℕ) : Type 0 where
  pub id : ℕ
  pub value : ℕ
  pub crc : ℕ
  pub message : EndsInShort statuses id value crc
  pub wrong : crc ≢ short_crc id value

-- the last of these statuses has its start bit set; before it up to 14 have it clear, and before these one has it set
pub record EndsInRestart (statuses : List ℕ) : Type 0 where
  pub before : List ℕ
  pub first : ℕ
  pub between : List ℕ
  pub last : ℕ
  pub stands : statuses ≡ before ++ first ∷ (between ++ last ∷ [])
  pub first_set : start_bit first ≡ true
  pub few : length between ≤ 14
  pub between_clear : All (λ status. start_bit status ≡ false) between
  pub last_set : start_bit last ≡ true

-- what a violated rule of short messages stands for
abbrev pub ShortRuleMeans : List ℕ → Rule → Type 0
ShortRuleMeans statuses rule.Restart = EndsInRestart statuses
ShortRuleMeans statuses rule.SerialCheck = EndsInWrongShort statuses
ShortRuleMeans statuses _ = ⊥

-- what a step of the short messages stands for
abbrev pub ShortMeans : List ℕ → SerialStep → Type 0
ShortMeans statuses step.Nothing = ⊥
ShortMeans statuses (step.Short id value) = EndsInShort statuses id value (short_crc id value)
ShortMeans statuses (step.Enhanced id value wide) = ⊥
ShortMeans statuses (step.Bad rule) = ShortRuleMeans statuses rule

-- the frames begin as an enhanced message does: the start bits of the first six are set, and that of the seventh is clear
pub record BeginsEnhanced (frames : List ℕ) : Type 0 where
  pub six_set : AreSet 1 6 frames
  pub seventh_clear : AreClear 7 1 frames

-- the statuses end in thirteen frames that begin as an enhanced message does, and the start bit of the thirteenth is set
pub record EndsInSet13 (statuses : List ℕ) : Type 0 where
  pub frames : List ℕ
  pub last : AreLast 13 frames statuses
  pub begins : BeginsEnhanced frames
  pub thirteenth_set : AreSet 13 1 frames

-- the statuses end in eighteen frames that begin as an enhanced message does; the start bit of the thirteenth is clear, and that of the eighteenth is set
pub record EndsInSet18 (statuses : List ℕ) : Type 0 where
  pub frames : List ℕ
  pub last : AreLast 18 frames statuses
  pub begins : BeginsEnhanced frames
  pub thirteenth_clear : AreClear 13 1 frames
  pub eighteenth_set : AreSet 18 1 frames

-- the statuses end in these eighteen frames, which have the start bits of an enhanced message: set in the first six, clear in the seventh, the thirteenth and the eighteenth
pub record EndsInEighteen (statuses frames : List ℕ) : Type 0 where
  pub last : AreLast 18 frames statuses
  pub begins : BeginsEnhanced frames
  pub thirteenth_clear : AreClear 13 1 frames
  pub eighteenth_clear : AreClear 18 1 frames

-- the statuses end in an enhanced message that says this: the value bits of its first six frames are its CRC, and its fields are told by its form bit
pub record EndsInEnhanced (statuses : List ℕ) (said : SerialStep) : Type 0 where
  pub frames : List ℕ
  pub message : EndsInEighteen statuses frames
  pub right : number_of (value_bits 1 6 frames) ≡ crc6_of (checked_bits frames)
  pub says : enhanced_content frames ≡ said

-- the statuses end in an enhanced message, but the value bits of its first six frames aren't its CRC
pub record EndsInWrongEnhanced (statuses : List ℕ) : Type 0 where
  pub frames : List ℕ
  pub message : EndsInEighteen statuses frames
  pub wrong : number_of (value_bits 1 6 frames) ≢ crc6_of (checked_bits frames)

-- what a violated rule of enhanced messages stands for
abbrev pub EnhancedRuleMeans : List ℕ → Rule → Type 0
EnhancedRuleMeans statuses rule.Zero13 = EndsInSet13 statuses
EnhancedRuleMeans statuses rule.Zero18 = EndsInSet18 statuses
EnhancedRuleMeans statuses rule.SerialCheck = EndsInWrongEnhanced statuses
EnhancedRuleMeans statuses _ = ⊥

-- what a step of the enhanced messages stands for
abbrev pub EnhancedMeans : List ℕ → SerialStep → Type 0
EnhancedMeans statuses step.Nothing = ⊥
EnhancedMeans statuses (step.Short id value) = ⊥
EnhancedMeans statuses (step.Enhanced id value wide) = EndsInEnhanced statuses (step.Enhanced id value wide)
EnhancedMeans statuses (step.Bad rule) = EnhancedRuleMeans statuses rule

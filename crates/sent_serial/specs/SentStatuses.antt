-- The statuses that carry a serial message, as a sensor sends them (SAE J2716). Over which bits the CRC of an enhanced message runs, and in which order, is this project's own.
use Rattle.std.specs.Prelude.{ℕ, ◌+◌, ◌*◌, ◌/◌, Bool, true, false, List, [], ◌∷◌, ◌++◌, replicate, if◌then◌else◌}
use Rattle.link_math.specs.Division.{bits_of}
use Rattle.link_math.specs.Checks.{crc6_of}
use Rattle.sent_serial.specs.declared.step.SerialStep.{SerialStep}
use Rattle.sent_serial.specs.declared.step.SerialStep.TheVariants as step
use Rattle.sent_serial.specs.Statuses.{merged}
use Rattle.sent_serial.specs.Meanings.{short_crc}

-- the status of this value bit, bit 2, and this start bit, bit 3
abbrev pub status_of : Bool → Bool → ℕ
status_of value start = 8 * (if start then 1 else 0) + 4 * (if value then 1 else 0)

-- the statuses of these value bits and these start bits, frame by frame, as long as both have some
unfoldable pub statuses_of : List Bool → List Bool → List ℕ
statuses_of [] starts = []
statuses_of (value ∷ values) [] = []
statuses_of (value ∷ values) (start ∷ starts) = status_of value start ∷ statuses_of values starts

-- the value bits of a short message: the 4 bits of its id, the 8 of its value and the 4 of its CRC
unfoldable pub short_values : ℕ → ℕ → List Bool
short_values id value = bits_of 4 id ++ bits_of 8 value ++ bits_of 4 (short_crc id value)

-- the start bits of a short message: set in the first of its sixteen frames alone
unfoldable pub short_starts : List Bool
short_starts = true ∷ replicate 15 false

-- the sixteen statuses of the short message of this id and this value
unfoldable pub short_statuses : ℕ → ℕ → List ℕ
short_statuses id value = statuses_of (short_values id value) short_starts

-- the start bits of frames 7 to 18 of an enhanced message: 7, 13 and 18 are clear; 8 is the form bit; 9 to 12 are the 4 bits of the id where the value is wide, else the upper 4 of its 8; 14 to 17 are the upper 4 bits of a wide value, else the lower 4 of the id
unfoldable pub later_starts : ℕ → ℕ → Bool → List Bool
later_starts id value wide =
    (false ∷ [])
    ++ (wide ∷ [])
    ++ bits_of 4 (if wide then id else id / 16)
    ++ (false ∷ [])
    ++ bits_of 4 (if wide then value / 4096 else id)
    ++ (false ∷ [])

-- the eighteen statuses of an enhanced message with these value bits and start bits in its frames 7 to 18: the start bits of frames 1 to 6 are set, and their value bits are the 6 bits of the CRC, which runs over the value bit and then the start bit of each later frame
unfoldable pub statuses_with_check : List Bool → List Bool → List ℕ
statuses_with_check values starts = statuses_of (bits_of 6 (crc6_of (merged values starts)) ++ values) (replicate 6 true ++ starts)

-- the eighteen statuses of the enhanced message of this id and this value: the value bits of frames 7 to 18 are the lowest 12 bits of the value
unfoldable pub enhanced_statuses : ℕ → ℕ → Bool → List ℕ
enhanced_statuses id value wide = statuses_with_check (bits_of 12 value) (later_starts id value wide)

-- the statuses of a serial message
unfoldable pub statuses_sent : SerialStep → List ℕ
statuses_sent step.Nothing = []
statuses_sent (step.Short id value) = short_statuses id value
statuses_sent (step.Enhanced id value wide) = enhanced_statuses id value wide
statuses_sent (step.Bad rule) = []

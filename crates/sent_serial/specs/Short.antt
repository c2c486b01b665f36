-- Short serial messages (SAE J2716): sixteen frames, the first with its start bit set. What a start bit within a message does, and which CRC it has, is this project's own.
use Rattle.std.specs.Prelude.{ℕ, Bool, not, nat_eq, nat_le, List, [], ◌∷◌, length, take, drop, map, if◌then◌else◌}
use Rattle.line_base.specs.declared.rule.Rule.TheVariants.{Restart, SerialCheck}
use Rattle.link_math.specs.Division.{number_of}
use Rattle.link_math.specs.Checks.{crc4_of}
use Rattle.sent_serial.specs.declared.step.SerialStep.{SerialStep}
use Rattle.sent_serial.specs.declared.step.SerialStep.TheVariants.{Short, Bad}
use Rattle.sent_serial.specs.Statuses.{start_bit, value_bit, clear_before}
use Rattle.line_base.specs.Readings.{Found, skipped, ended, read_past}
use Rattle.line_base.specs.Readings.Found.{Waiting}

-- the number of four of these bits, from the one at this place on
abbrev pub nibble_at : ℕ → List Bool → ℕ
nibble_at place bits = number_of (take 4 (drop place bits))

-- the message of sixteen value bits: an id of 4 bits, a value of 8 and the CRC-4 of these three nibbles, each from its highest bit down
unfoldable pub short_message : List Bool → SerialStep
short_message bits =
    if nat_eq (nibble_at 12 bits) (crc4_of (nibble_at 0 bits ∷ nibble_at 4 bits ∷ nibble_at 8 bits ∷ []))
    then Short (nibble_at 0 bits) (number_of (take 8 (drop 4 bits)))
    else Bad SerialCheck

-- what stands at this status: a message where its start bit is set and those of the next fifteen are clear; Restart at the next start bit where that comes earlier, with which reading goes on
unfoldable pub short_found : Unit {0} → ℕ → List ℕ → Found SerialStep (Unit {0})
short_found due status later =
    if not (start_bit status) then skipped
    else (if nat_le 15 (clear_before later) then ended (short_message (map value_bit (status ∷ take 15 later))) 15
    else (if nat_eq (clear_before later) (length later) then Waiting []
    else ended (Bad Restart) (clear_before later)))

-- the short messages and violated rules of the statuses of good frames between two breaks
unfoldable pub short_reading : List ℕ → List SerialStep
short_reading statuses = read_past short_found 0 tt statuses

-- Enhanced serial messages (SAE J2716): eighteen frames, the first six with their start bits set and the seventh clear. Over which bits the CRC runs, and in which order, is this project's own.
use Rattle.std.specs.Prelude.{ℕ, Bool, true, false, nat_eq, nat_le, nat_lt, List, [], ◌∷◌, ◌++◌, length, take, flat_map, slice_index, if◌then◌else◌}
use Rattle.line_base.specs.declared.rule.Rule.TheVariants.{Zero13, Zero18, SerialCheck}
use Rattle.link_math.specs.Division.{number_of}
use Rattle.link_math.specs.Checks.{crc6_of}
use Rattle.sent_serial.specs.declared.step.SerialStep.{SerialStep}
use Rattle.sent_serial.specs.declared.step.SerialStep.TheVariants as step
use Rattle.sent_serial.specs.Statuses.{start_bit, value_bit, frames_from, start_bits, value_bits, set_before}
use Rattle.line_base.specs.Readings.{Found, skipped, ended, read_past}
use Rattle.line_base.specs.Readings.Found.{Waiting}

-- the bits that the CRC of a message runs over: the value bit and then the start bit of each frame from 7 to 18
abbrev pub checked_bits : List ℕ → List Bool
checked_bits statuses = flat_map (λ status. value_bit status ∷ start_bit status ∷ []) (frames_from 7 12 statuses)

-- what a message says whose CRC is right: with the form bit, the start bit of frame 8, set, an id of 4 bits and a value of 16, else an id of 8 bits and a value of 12
unfoldable pub enhanced_content : List ℕ → SerialStep
enhanced_content statuses = if nat_eq (number_of (start_bits 8 1 statuses)) 1
    then step.Enhanced (number_of (start_bits 9 4 statuses)) (number_of (start_bits 14 4 statuses ++ value_bits 7 12 statuses)) true
    else step.Enhanced (number_of (start_bits 9 4 statuses ++ start_bits 14 4 statuses)) (number_of (value_bits 7 12 statuses)) false

-- the message of eighteen statuses: the value bits of frames 1 to 6 are the CRC-6
unfoldable pub enhanced_message : List ℕ → SerialStep
enhanced_message statuses =
    if nat_eq (number_of (value_bits 1 6 statuses)) (crc6_of (checked_bits statuses)) then enhanced_content statuses
    else step.Bad SerialCheck

-- what stands where a message begins: Zero13 or Zero18 at frame 13 or 18 where its start bit is set, with which reading goes on, else the message of eighteen frames
unfoldable pub begun : List ℕ → Found SerialStep (Unit {0})
begun statuses =
    if nat_le (length statuses) 12 then Waiting []
    else (if start_bit (slice_index statuses 12) then ended (step.Bad Zero13) 11
    else (if nat_le (length statuses) 17 then Waiting []
    else (if start_bit (slice_index statuses 17) then ended (step.Bad Zero18) 16
    else ended (enhanced_message (take 18 statuses)) 17)))

-- what stands at the front of these statuses: a message begins where the start bits of exactly six are set and then one is clear
abbrev pub begun_at : List ℕ → Found SerialStep (Unit {0})
begun_at statuses =
    if nat_lt 6 (length statuses) then (if nat_eq (set_before statuses) 6 then begun statuses else skipped)
    else (if nat_eq (set_before statuses) (length statuses) then Waiting [] else skipped)

-- what stands at this status
unfoldable pub enhanced_found : Unit {0} → ℕ → List ℕ → Found SerialStep (Unit {0})
enhanced_found due status later = begun_at (status ∷ later)

-- the enhanced messages and violated rules of the statuses of good frames between two breaks
unfoldable pub enhanced_reading : List ℕ → List SerialStep
enhanced_reading statuses = read_past enhanced_found 0 tt statuses

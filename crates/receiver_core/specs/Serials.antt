-- Which serial messages a SENT channel reads, by its setup; this project's own.
use Rattle.std.specs.Prelude.{ℕ, List, [], ◌∷◌, ◌++◌, length, drop}
use Rattle.sent_serial.specs.declared.step.SerialStep.{SerialStep}
use Rattle.sent_serial.specs.Short.{short_reading}
use Rattle.sent_serial.specs.Enhanced.{enhanced_reading}
use Rattle.sent_serial.specs.Readers.{StandsForShort, StandsForEnhanced}
use Rattle.receiver_core.specs.declared.setup.Serial.{Serial}
use Rattle.receiver_core.specs.declared.setup.Serial.TheVariants as serial
use Rattle.receiver_core.specs.declared.serial.SerialReader.{SerialReader}
use Rattle.receiver_core.specs.declared.serial.SerialReader.TheVariants as reader

-- the serial messages and violated rules of the statuses of good frames between two breaks
abbrev pub serial_reading : Serial → List ℕ → List SerialStep
serial_reading serial.Absent statuses = []
serial_reading serial.Short statuses = short_reading statuses
serial_reading serial.Enhanced statuses = enhanced_reading statuses

-- the steps by which that reading grows with one status more
unfoldable pub serial_steps : Serial → List ℕ → ℕ → List SerialStep
serial_steps serial before status = drop (length (serial_reading serial before)) (serial_reading serial (before ++ status ∷ []))

-- the reader reads these messages, and stands for these statuses
abbrev pub SerialStandsFor : Serial → SerialReader → List ℕ → Type 0
SerialStandsFor serial.Absent reader.Absent seen = Unit {0}
SerialStandsFor serial.Short (reader.Short short) seen = StandsForShort short seen
SerialStandsFor serial.Enhanced (reader.Enhanced enhanced) seen = StandsForEnhanced enhanced seen
SerialStandsFor _ _ seen = ⊥

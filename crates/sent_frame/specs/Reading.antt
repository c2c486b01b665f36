-- How a list of SENT pulses is read (frames: SAE J2716; what follows a fault: this project's own).
use Rattle.std.specs.Prelude.{ℕ, zero, suc, List, [], ◌∷◌, Bool, not, ◌==◌, if◌then◌else◌, Option, None, Some, take, slice_index}
use Rattle.line_base.specs.Edges.{NumberedEdge}
use Rattle.line_base.specs.Readings.{Found, read_past}
use Rattle.line_base.specs.Readings.Found.{Waiting, Past, Reported}
use Rattle.line_base.specs.declared.rule.Rule.TheVariants as rule
use Rattle.link_math.specs.Sent.{is_calibration, is_steady, is_pause, value_of}
use Rattle.link_math.specs.Checks.{crc4_of, crc4_legacy_of}
use Rattle.sent_frame.specs.declared.setup.CrcForm.{CrcForm}
use Rattle.sent_frame.specs.declared.setup.CrcForm.TheVariants as crc
use Rattle.sent_frame.specs.declared.crc.Cover.{Cover}
use Rattle.sent_frame.specs.declared.crc.Cover.TheVariants as over
use Rattle.sent_frame.specs.declared.frame.SentStep.{SentStep}
use Rattle.sent_frame.specs.declared.frame.SentStep.TheVariants.{Good, Bad}
use Rattle.sent_frame.specs.Setup.{Settings}
use Rattle.sent_frame.specs.Pulses.{Pulse, pulses_of}

-- the CRC of the data nibbles, in the form of the setup
abbrev pub crc_of : CrcForm → List ℕ → ℕ
crc_of crc.New nibbles = crc4_of nibbles
crc_of crc.Legacy nibbles = crc4_legacy_of nibbles

-- the pulse may be a calibration pulse
abbrev pub may_calibrate : Settings → Pulse → Bool
may_calibrate s pulse = is_calibration pulse.length s.tick s.jitter

-- what the next pulses say after a calibration pulse: all carry a value; or after so many that do, this one carries none; or there are too few
pub data Values : Type 0 where
  Carried : List ℕ → Values
  Broken : ℕ → Pulse → Values
  Short : Values

-- a pulse with this value, or with none, stands before the others
abbrev pub with_value : Pulse → Option ℕ → Values → Values
with_value pulse None others = Broken 0 pulse
with_value pulse (Some value) (Carried values) = Carried (value ∷ values)
with_value pulse (Some value) (Broken count broken) = Broken (suc count) broken
with_value pulse (Some value) Short = Short

-- what the first so many pulses say, after a calibration pulse of this length
unfoldable pub values_of : ℕ → ℕ → List Pulse → Values
values_of calibration zero pulses = Carried []
values_of calibration (suc count) [] = Short
values_of calibration (suc count) (pulse ∷ pulses) = with_value pulse (value_of pulse.length calibration) (values_of calibration count pulses)

-- the reader hunts for a calibration pulse; or a pause is due after a frame whose calibration pulse had this length; or the next calibration pulse is
pub data Standing : Type 0 where
  Hunting : Standing
  PauseDue : ℕ → Standing
  CalibrationDue : ℕ → Standing

-- what is due after a frame whose calibration pulse had this length
abbrev pub due_after : Settings → ℕ → Standing
due_after s calibration = if s.pause then PauseDue calibration else CalibrationDue calibration

-- the place of a pulse of a list, counted from 0
abbrev pub place_at : List Pulse → ℕ → ℕ
place_at [] index = 0
place_at (pulse ∷ pulses) zero = pulse.place
place_at (pulse ∷ pulses) (suc index) = place_at pulses index

-- what the CRC nibble of a frame of this status and these data nibbles covers
abbrev pub covered : Cover → ℕ → List ℕ → List ℕ
covered over.Nibbles status nibbles = nibbles
covered over.Status status nibbles = status ∷ nibbles

-- a frame of this status, these data nibbles and then the CRC: good where it is the CRC of what it covers
abbrev pub checked_over : Cover → Settings → ℕ → List ℕ → SentStep
checked_over cover s place [] = Bad place rule.Check
checked_over cover s place (status ∷ values) =
    if crc_of s.crc (covered cover status (take s.nibbles values)) == slice_index values s.nibbles
    then Good place (record { status = status; nibbles = take s.nibbles values })
    else Bad place rule.Check

-- a frame of SENT: its CRC covers the data nibbles
abbrev pub checked : Settings → ℕ → List ℕ → SentStep
checked s place values = checked_over over.Nibbles s place values

-- what the pulses after a calibration pulse come to
abbrev pub frame_of : Settings → ℕ → List Pulse → Values → Found SentStep Standing
frame_of s calibration pulses (Carried values) =
    Reported (checked s (place_at pulses (suc s.nibbles)) values) (Past (suc (suc s.nibbles)) (due_after s calibration))
frame_of s calibration pulses (Broken count broken) = Reported (Bad broken.place rule.NibbleRange) (Past count Hunting)
frame_of s calibration pulses Short = Waiting []

-- the frame whose calibration pulse has this length: a status, the data nibbles and the CRC
abbrev pub frame_from : Settings → ℕ → List Pulse → Found SentStep Standing
frame_from s calibration pulses = frame_of s calibration pulses (values_of calibration (suc (suc s.nibbles)) pulses)

-- what a pulse that may calibrate begins, while hunting: a false start where the next one may calibrate too, else a frame
abbrev pub hunted : Settings → Pulse → List Pulse → Found SentStep Standing
hunted s pulse [] = Waiting []
hunted s pulse (next ∷ pulses) = if may_calibrate s next then Past 0 Hunting else frame_from s pulse.length (next ∷ pulses)

-- what stands at the front, while hunting
abbrev pub found_hunting : Settings → Pulse → List Pulse → Found SentStep Standing
found_hunting s pulse pulses = if may_calibrate s pulse then hunted s pulse pulses else Past 0 Hunting

-- what stands at the front, by what is due; a calibration pulse that isn't steady with the one before is reported, and read again as in hunting
unfoldable pub found : Settings → Standing → Pulse → List Pulse → Found SentStep Standing
found s Hunting pulse pulses = found_hunting s pulse pulses
found s (PauseDue calibration) pulse pulses =
    if is_pause pulse.length calibration then Past 0 (CalibrationDue calibration) else Reported (Bad pulse.place rule.PauseRange) (Past 0 Hunting)
found s (CalibrationDue calibration) pulse pulses =
    if not (may_calibrate s pulse) then Reported (Bad pulse.place rule.NoCalibration) (Past 0 Hunting)
    else (if is_steady calibration pulse.length then frame_from s pulse.length pulses
    else Reported (Bad pulse.place rule.Drift) (found_hunting s pulse pulses))

-- the reports of a list of pulses, read from its start
abbrev pub reports_of : Settings → List Pulse → List SentStep
reports_of s pulses = read_past (found s) 0 Hunting pulses

-- the reports of a line's edges
abbrev pub sent_reading : Settings → List NumberedEdge → List SentStep
sent_reading s edges = reports_of s (pulses_of edges)

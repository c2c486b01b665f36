-- The step that a status adds to the serial messages.
use Rattle.std.proofs.Common.{◌≡◌, ℕ, List, [], ◌∷◌, ◌++◌, length, drop, flat_map, refl, ap, ◌∙◌}
use Rattle.std.proofs.Math.Seq.{drop-append_seam}
use Rattle.sent_serial.specs.declared.step.SerialStep.{SerialStep}
use Rattle.sent_serial.specs.declared.step.SerialStep.TheVariants.{Nothing, Short, Enhanced, Bad}
use Rattle.sent_serial.specs.Steps.{steps_of}
use Rattle.receiver_core.specs.declared.setup.Serial.{Serial}
use Rattle.receiver_core.specs.Serials.{serial_reading, serial_steps}
use Rattle.receiver_core.specs.SentReports.{serial_report, serial_reports}

-- the steps by which the reading grows are those that were answered
pub steps-grow : (form : Serial) (statuses : List ℕ) (status : ℕ) (step : SerialStep)
    → serial_reading form (statuses ++ status ∷ []) ≡ serial_reading form statuses ++ steps_of step → serial_steps form statuses status ≡ steps_of step
unfolding serial_steps
steps-grow form statuses status step grows =
    ap (drop (length (serial_reading form statuses))) grows ∙ drop-append_seam (serial_reading form statuses) (steps_of step)

one-report : (place : ℕ) (step : SerialStep) → flat_map (serial_report place) (steps_of step) ≡ serial_report place step
one-report place Nothing = refl
one-report place (Short id value) = refl
one-report place (Enhanced id value wide) = refl
one-report place (Bad rule) = refl

-- and so are the reports
pub reports-grow : (form : Serial) (place : ℕ) (statuses : List ℕ) (status : ℕ) (step : SerialStep)
    → serial_reading form (statuses ++ status ∷ []) ≡ serial_reading form statuses ++ steps_of step → serial_reports form place statuses status ≡ serial_report place step
reports-grow form place statuses status step grows =
    ap (flat_map (serial_report place)) (steps-grow form statuses status step grows) ∙ one-report place step

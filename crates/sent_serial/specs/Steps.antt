-- The steps of serial messages; this project's own.
use Rattle.std.specs.Prelude.{List, [], ◌∷◌}
use Rattle.sent_serial.specs.declared.step.SerialStep.{SerialStep}
use Rattle.sent_serial.specs.declared.step.SerialStep.TheVariants.{Nothing, Short, Enhanced, Bad}

-- the step, if there is one
abbrev pub steps_of : SerialStep → List SerialStep
steps_of Nothing = []
steps_of (Short id value) = Short id value ∷ []
steps_of (Enhanced id value wide) = Enhanced id value wide ∷ []
steps_of (Bad rule) = Bad rule ∷ []

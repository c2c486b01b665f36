-- The exit statuses; this project's own.
use Rattle.std.specs.Prelude.{ℕ}
use Rattle.line_base.specs.declared.reason.Reason.{Reason}
use Rattle.line_base.specs.declared.reason.Reason.TheVariants.{Clean, Marked, Words, Input, ReadFault, WriteFault, OutOfMemory, Archive}

-- the exit status of a run that ended so
abbrev pub status_of : Reason → ℕ
status_of Clean = 0
status_of Marked = 1
status_of (Words place fault) = 2
status_of (Input line fault) = 3
status_of ReadFault = 4
status_of (WriteFault lane) = 5
status_of OutOfMemory = 6
status_of (Archive at fault) = 7

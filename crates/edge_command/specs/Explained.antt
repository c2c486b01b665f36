-- The line that tells why a run ended, where it didn't read and write everything; this project's own.
use Rattle.std.specs.Prelude.{ℕ, List, [], ◌++◌, None, Some, codes, decimal}
use Rattle.line_base.specs.Faults.{archive_fault_name, line_fault_name, word_fault_name}
use Rattle.line_base.specs.declared.reason.Reason.{Reason}
use Rattle.line_base.specs.declared.reason.Reason.TheVariants as reason

-- the line of a reason, with its LF; nothing where everything was read and written
unfoldable pub explained_text : Reason → List ℕ
explained_text reason.Clean = []
explained_text reason.Marked = []
explained_text (reason.Words place fault) = codes "word " ++ decimal place ++ codes ": " ++ word_fault_name fault ++ codes "\n"
explained_text (reason.Input line fault) = codes "input line " ++ decimal line ++ codes ": " ++ line_fault_name fault ++ codes "\n"
explained_text reason.ReadFault = codes "read fault\n"
explained_text (reason.WriteFault None) = codes "write fault\n"
explained_text (reason.WriteFault (Some lane)) = codes "write fault on lane " ++ decimal lane ++ codes "\n"
explained_text reason.OutOfMemory = codes "out of memory\n"
explained_text (reason.Archive at fault) = codes "archive byte " ++ decimal at ++ codes ": " ++ archive_fault_name fault ++ codes "\n"

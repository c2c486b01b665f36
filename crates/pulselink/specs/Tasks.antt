-- What the program does, by its words; this project's own.
use Rattle.std.specs.Prelude.{Option, None, Some, String, Vec}
use Rattle.std.specs.declared.alloc.Global.{Global}
use Rattle.std.specs.declared.io.ErrorKind.{ErrorKind}
use Rattle.std.specs.declared.io.ErrorKind.TheVariants.{OutOfMemory}
use Rattle.line_base.specs.declared.faults.WordFault.TheVariants as fault
use Rattle.line_base.specs.declared.reason.Reason.{Reason}
use Rattle.line_base.specs.declared.reason.Reason.TheVariants as reason
use Rattle.pulselink.specs.declared.about.About.{About}
use Rattle.pulselink.specs.declared.task.Task.{Task}
use Rattle.pulselink.specs.declared.task.Task.TheVariants as task

-- these words, which ask for this text about the program or for none: the text is shown, and other words are run as a command
abbrev pub task_asked : Vec (String Global) Global → Option About → Task
task_asked words None = task.Run words
task_asked words (Some about) = task.Show about

-- why the program ends where its words can't be had, by the kind of error
abbrev pub reason_without_words : ErrorKind → Reason
reason_without_words OutOfMemory = reason.OutOfMemory
reason_without_words _ = reason.Words 1 fault.Command

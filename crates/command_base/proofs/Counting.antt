-- What the reason that a run ended or stopped by says of the counts of faults.
use Rattle.std.proofs.Common.{◌≡◌, ℕ, List, Option}
use Rattle.line_base.specs.declared.reason.Reason.{Reason}
use Rattle.line_base.specs.declared.reason.Reason.TheVariants as reason
use Rattle.command_base.specs.Counted.{SourceCounted}
use Rattle.command_base.specs.Ended.{IsOfRun}
use Rattle.command_base.specs.Parts.{Finished, Stopped}
use Rattle.command_base.specs.Tasks.{Task}

-- at the end of the input no pull has failed
pub finished-source : (task : Task) (why : Reason) (got got' : Option (List ℕ)) (bytes : List ℕ) (before now : ℕ) → Finished task why got got' bytes → now ≡ before → SourceCounted why before now
finished-source task reason.Clean got got' bytes before now finished same = same
finished-source task reason.Marked got got' bytes before now finished same = same
finished-source task (reason.Input number fault) got got' bytes before now finished same = same
finished-source task (reason.WriteFault lane) got got' bytes before now finished same = same
finished-source task reason.OutOfMemory got got' bytes before now finished same = same
finished-source task (reason.Words place fault) got got' bytes before now finished same = same
finished-source task (reason.Archive at fault) got got' bytes before now finished same = same
finished-source task reason.ReadFault got got' bytes before now never same = absurd never

-- nor where a run stopped at its bytes
pub stopped-source : (task : Task) (why : Reason) (got got' : Option (List ℕ)) (earlier bytes : List ℕ) (before now : ℕ) → Stopped task why got got' earlier bytes → now ≡ before → SourceCounted why before now
stopped-source task reason.Clean got got' earlier bytes before now stopped same = same
stopped-source task reason.Marked got got' earlier bytes before now stopped same = same
stopped-source task (reason.Input number fault) got got' earlier bytes before now stopped same = same
stopped-source task (reason.WriteFault lane) got got' earlier bytes before now stopped same = same
stopped-source task reason.OutOfMemory got got' earlier bytes before now stopped same = same
stopped-source task (reason.Words place fault) got got' earlier bytes before now stopped same = same
stopped-source task (reason.Archive at fault) got got' earlier bytes before now stopped same = same
stopped-source task reason.ReadFault got got' earlier bytes before now never same = absurd never

-- and such a reason only a run has
pub stopped-of_run : (task : Task) (why : Reason) (got got' : Option (List ℕ)) (earlier bytes : List ℕ) → Stopped task why got got' earlier bytes → IsOfRun why
stopped-of_run task reason.Clean got got' earlier bytes stopped = tt
stopped-of_run task reason.Marked got got' earlier bytes stopped = tt
stopped-of_run task (reason.Input number fault) got got' earlier bytes stopped = tt
stopped-of_run task (reason.WriteFault lane) got got' earlier bytes stopped = tt
stopped-of_run task reason.ReadFault got got' earlier bytes stopped = tt
stopped-of_run task reason.OutOfMemory got got' earlier bytes never = absurd never
stopped-of_run task (reason.Words place fault) got got' earlier bytes never = absurd never
stopped-of_run task (reason.Archive at fault) got got' earlier bytes never = absurd never

-- How the parts of a run went: a block of bytes, and the end of the input; this project's own.
use Rattle.std.specs.Prelude.{◌≡◌, ℕ, true, false, List, Option, None, Some}
use Rattle.line_base.specs.declared.reason.Reason.{Reason}
use Rattle.line_base.specs.declared.reason.Reason.TheVariants as reason
use Rattle.command_base.specs.Tasks.{Task}
use Rattle.command_base.specs.Grown.{GrowsAlong, GrowsTowards}

-- why a run stopped at its bytes, and what it has written since earlier ones: at a line that is refused, the text so far; at a put that failed, a front of it
abbrev pub Stopped : Task → Reason → Option (List ℕ) → Option (List ℕ) → List ℕ → List ℕ → Type 0
Stopped task (reason.Input number fault) got got' earlier bytes = (task.fault bytes ≡ Some (number, fault)) × GrowsAlong got got' (task.text earlier) (task.text bytes)
Stopped task (reason.WriteFault None) got got' earlier bytes = GrowsTowards got got' (task.text earlier) (task.text bytes)
Stopped task _ got got' earlier bytes = ⊥

-- how a run that took these bytes, which are all of the input, ended, by the reason, and what it has written since
abbrev pub Finished : Task → Reason → Option (List ℕ) → Option (List ℕ) → List ℕ → Type 0
Finished task reason.Clean got got' bytes = (task.whole_fault bytes ≡ None) × (task.is_marked bytes ≡ false) × GrowsAlong got got' (task.text bytes) (task.whole_text bytes)
Finished task reason.Marked got got' bytes = (task.whole_fault bytes ≡ None) × (task.is_marked bytes ≡ true) × GrowsAlong got got' (task.text bytes) (task.whole_text bytes)
Finished task (reason.Input number fault) got got' bytes = (task.whole_fault bytes ≡ Some (number, fault)) × GrowsAlong got got' (task.text bytes) (task.whole_text bytes)
Finished task (reason.WriteFault None) got got' bytes = GrowsTowards got got' (task.text bytes) (task.whole_text bytes)
Finished task _ got got' bytes = ⊥

-- How the count of faults of an output goes with what a part of a run came to; this project's own.
use Rattle.std.specs.Prelude.{◌≡◌, ℕ, ◌≤◌, Result, Ok, Err}
use Rattle.line_base.specs.Causes.{Rose}
use Rattle.decode_command.specs.declared.run.Stop.{Stop}
use Rattle.decode_command.specs.declared.run.Stop.TheVariants as stop

-- the output's count rose where a put failed, and else stood still
abbrev pub StopCounted : {A : Type 0} → Result A Stop → ℕ → ℕ → Type 0
StopCounted (Err stop.Put) before now = (before ≤ now) × Rose before now
StopCounted (Err (stop.Line number fault)) before now = now ≡ before
StopCounted (Ok taken) before now = now ≡ before

-- How the counts of faults of a source and of an output go with the reason that a run ends by; this project's own.
use Rattle.std.specs.Prelude.{◌≡◌, ℕ, ◌≤◌, None, Some, Result, Ok, Err}
use Rattle.line_base.specs.Causes.{Rose}
use Rattle.line_base.specs.declared.reason.Reason.{Reason}
use Rattle.line_base.specs.declared.reason.Reason.TheVariants as reason

-- the source's count rose where the reason is a failed read, and else stood still
abbrev pub SourceCounted : Reason → ℕ → ℕ → Type 0
SourceCounted reason.ReadFault before now = (before ≤ now) × Rose before now
SourceCounted _ before now = now ≡ before

-- the output's count rose where the reason is a failed write to it, and else stood still; no other output is written to
abbrev pub OutputCounted : Reason → ℕ → ℕ → Type 0
OutputCounted (reason.WriteFault None) before now = (before ≤ now) × Rose before now
OutputCounted (reason.WriteFault (Some lane)) before now = ⊥
OutputCounted _ before now = now ≡ before

-- the output's count stood still where a part of a run went on, and else goes with the reason that it stopped by
abbrev pub PartCounted : Result (Unit {0}) Reason → ℕ → ℕ → Type 0
PartCounted (Ok done) before now = now ≡ before
PartCounted (Err why) before now = OutputCounted why before now

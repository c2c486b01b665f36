-- How a run of a task over a source's bytes ended; this project's own.
use Rattle.std.specs.Prelude.{◌≡◌, ℕ, ◌≤◌, true, false, List, [], ◌++◌, length, Option, None, Some}
use Rattle.std.specs.Io.KnownBytes.{Appends}
use Rattle.line_base.specs.Streams.{AppendsFront}
use Rattle.line_base.specs.declared.reason.Reason.{Reason}
use Rattle.line_base.specs.declared.reason.Reason.TheVariants as reason
use Rattle.command_base.specs.Tasks.{Task}

-- how far a run that stopped had read its source: at most 4,096 bytes behind bytes that have no fault and whose text is a front of what was written
pub record HasReadTo (task : Task) (bytes : List ℕ) (left' got got' : Option (List ℕ)) : Type 0 where
  pub taken : List ℕ
  pub block : List ℕ
  pub rest : List ℕ
  pub parts : bytes ≡ (taken ++ block) ++ rest
  pub left_is : left' ≡ Some rest
  pub small : length block ≤ 4096
  pub sound : task.fault taken ≡ None
  pub more : List ℕ
  pub written : Appends got got' (task.text taken ++ more)

-- how a run of a task ends on these bytes, by its reason: what is left of them, and what the output has grown by
unfoldable pub Ended : Task → Reason → List ℕ → Option (List ℕ) → Option (List ℕ) → Option (List ℕ) → Type 0
-- all was read, there is no fault, nothing bad was reported, and the whole text was written
Ended task reason.Clean bytes left' got got' = (left' ≡ Some []) × (task.whole_fault bytes ≡ None) × (task.is_marked bytes ≡ false) × Appends got got' (task.whole_text bytes)
-- the same, and something bad was reported
Ended task reason.Marked bytes left' got got' = (left' ≡ Some []) × (task.whole_fault bytes ≡ None) × (task.is_marked bytes ≡ true) × Appends got got' (task.whole_text bytes)
-- the input has this fault at this line, the text before it was written, and at most 4,096 bytes behind bytes without a fault were read
Ended task (reason.Input number fault) bytes left' got got' = (task.whole_fault bytes ≡ Some (number, fault)) × Appends got got' (task.whole_text bytes) × HasReadTo task bytes left' got got'
-- the bytes that were taken have no fault, and the text of their whole lines was written
Ended task reason.ReadFault bytes left' got got' =
    (taken : List ℕ) × (rest : List ℕ) × (bytes ≡ taken ++ rest) × (left' ≡ Some rest) × (task.fault taken ≡ None) × Appends got got' (task.text taken)
-- a front of the text of the input was written, and at most 4,096 bytes were read behind bytes without a fault whose text is whole in it
Ended task (reason.WriteFault None) bytes left' got got' = AppendsFront got got' (task.whole_text bytes) × HasReadTo task bytes left' got got'
-- nothing was read or written
Ended task reason.OutOfMemory bytes left' got got' = (left' ≡ Some bytes) × Appends got got' []
-- no lane is written to, the words were accepted, and no archive is read
Ended task (reason.WriteFault (Some lane)) bytes left' got got' = ⊥
Ended task (reason.Words place fault) bytes left' got got' = ⊥
Ended task (reason.Archive at fault) bytes left' got got' = ⊥

-- a reason that a run over bytes has: the words were accepted, there was memory, and no archive is read
abbrev pub IsOfRun : Reason → Type 0
IsOfRun (reason.Words place fault) = ⊥
IsOfRun reason.OutOfMemory = ⊥
IsOfRun (reason.Archive at fault) = ⊥
IsOfRun _ = Unit {0}

-- What a command makes of an input; this project's own.
use Rattle.std.specs.Prelude.{◌≡◌, ℕ, ◌^◌, ◌<◌, Bool, List, [], ◌++◌, length, Option, None, Some}
use Rattle.line_base.specs.Streams.{IsFrontOf}
use Rattle.line_base.specs.declared.faults.LineFault.{LineFault}

-- a task over bytes: the first fault, with the number of its line, and the text that is written, of bytes behind which more may come and of a whole input; and whether something bad is reported of a whole input
pub record Task : Type 0 where
  pub fault : List ℕ → Option (ℕ × LineFault)
  pub text : List ℕ → List ℕ
  pub whole_fault : List ℕ → Option (ℕ × LineFault)
  pub whole_text : List ℕ → List ℕ
  pub is_marked : List ℕ → Bool

-- the task's faults end an input, and what was written of some bytes stands whatever follows
pub record IsSteady (task : Task) : Type 0 where
  -- nothing is written of no bytes
  pub nothing : task.text [] ≡ []
  -- bytes without a fault are fewer than 2^36
  pub few : (bytes : List ℕ) → task.fault bytes ≡ None → length bytes < 2 ^ 36
  -- a fault stays, and the text with it, when more bytes come
  pub fault_stays : (bytes more : List ℕ) (fault : ℕ × LineFault) → task.fault bytes ≡ Some fault → task.fault (bytes ++ more) ≡ Some fault
  pub text_stays : (bytes more : List ℕ) (fault : ℕ × LineFault) → task.fault bytes ≡ Some fault → task.text (bytes ++ more) ≡ task.text bytes
  -- and at the end of the input
  pub whole_fault_stays : (bytes : List ℕ) (fault : ℕ × LineFault) → task.fault bytes ≡ Some fault → task.whole_fault bytes ≡ Some fault
  pub whole_text_stays : (bytes : List ℕ) (fault : ℕ × LineFault) → task.fault bytes ≡ Some fault → task.whole_text bytes ≡ task.text bytes
  -- text grows at its end alone
  pub grows : (bytes more : List ℕ) → IsFrontOf (task.text bytes) (task.text (bytes ++ more))
  pub whole_grows : (bytes : List ℕ) → IsFrontOf (task.text bytes) (task.whole_text bytes)

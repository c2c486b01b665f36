-- How what the code reads of a line is seen: a value, and the fields that are left.
use Rattle.std.specs.Prelude.{◌≡◌, ℕ, min, Bool, true, false, Option, None, Some, Result, Ok, Err, List}
use denote.Ref.{Bor}
use Rattle.line_base.specs.declared.faults.LineFault.{LineFault}
use Rattle.line_base.specs.Steps.{◌>>=◌}
use Rattle.receiver_core.specs.declared.message.Message.{Message}
use Rattle.receiver_core.specs.declared.message.Message.TheVariants as message
use Rattle.report_text.specs.Readings.{left}

-- what was read is what this reading gives: the value and the fields behind it, or the fault
abbrev pub Reads : {A : Type 0} → Result (A × Option (Bor (List ℕ))) LineFault → Result (A × List (List ℕ)) LineFault → Type 0
Reads (Ok found) read = read ≡ Ok (found.0, left found.1)
Reads (Err fault) read = read ≡ Err fault

-- the same of a field: its bytes and the fields behind it, or the fault
abbrev pub FieldReads : Result (Bor (List ℕ) × Option (Bor (List ℕ))) LineFault → Result (List ℕ × List (List ℕ)) LineFault → Type 0
FieldReads (Ok found) read = read ≡ Ok (found.0.now, left found.1)
FieldReads (Err fault) read = read ≡ Err fault

-- a number that is compared with a bound below 255 alone: the number, or 255 where it is greater
abbrev pub small : ℕ → ℕ
small number = min number 255

-- a number was read as its small one
pub record IsSmall (found : ℕ) (read : Result ℕ LineFault) : Type 0 where
  pub number : ℕ
  pub is : read ≡ Ok number
  pub small_is : found ≡ small number

-- the same with the fields behind it
pub record IsSmallOf (found : ℕ × Option (Bor (List ℕ))) (read : Result (ℕ × List (List ℕ)) LineFault) : Type 0 where
  pub number : ℕ
  pub is : read ≡ Ok (number, left found.1)
  pub small_is : found.0 ≡ small number

-- what was read is what this reading gives, with a small number in place of the number
abbrev pub SmallReads : Result (ℕ × Option (Bor (List ℕ))) LineFault → Result (ℕ × List (List ℕ)) LineFault → Type 0
SmallReads (Ok found) read = IsSmallOf found read
SmallReads (Err fault) read = read ≡ Err fault

-- a message whose decimal numbers are small ones
abbrev pub with_small : Message → Message
with_small (message.Answer code frame) = message.Answer (small code) frame
with_small (message.Silent code) = message.Silent (small code)
with_small (message.Down down) = message.Down (record { address = small down.address; function = small down.function; register = down.register; value = down.value })
with_small other = other

-- the message that was spelled, with small numbers
abbrev pub small_message : Result Message LineFault → Result Message LineFault
small_message spelled = spelled >>= λ message. Ok (with_small message)

-- this is what a line says: nothing, a message or its fault
abbrev pub Says : Result (Option Message) LineFault → Option (Result Message LineFault) → Type 0
Says said None = said ≡ Ok None
Says said (Some (Ok message)) = said ≡ Ok (Some message)
Says said (Some (Err fault)) = said ≡ Err fault

-- an answer is a fault
abbrev pub is_fault : Option (Result Message LineFault) → Bool
is_fault None = false
is_fault (Some (Ok message)) = false
is_fault (Some (Err fault)) = true

-- a line that has ended, if there is one
abbrev pub last_line : Bool → Option (Result (Unit {0}) LineFault)
last_line false = None
last_line true = Some (Ok tt)

-- What the reader of messages stands for: the bytes that it was fed; this project's own.
use Rattle.std.specs.Prelude.{◌≡◌, ℕ, Bool, true, false, Option, None, Some, Result, Ok, Err, List, [], ◌∷◌}
use Rattle.line_base.specs.declared.faults.LineFault.{LineFault}
use Rattle.text_lines.specs.Readers as line
use Rattle.receiver_core.specs.declared.message.Message.{Message}
use Rattle.receiver_core.specs.declared.setup.ChannelSetup.{ChannelSetup}
use Rattle.message_lines.specs.Inputs.{said_in, fault_of}
use Rattle.message_lines.specs.Readings.{Says}
use Rattle.message_lines.specs.declared.reader.MessageReader.{MessageReader}

-- the answers that a call gave: none, a message or a fault
abbrev pub answers_in : Option (Result Message LineFault) → List (Result Message LineFault)
answers_in None = []
answers_in (Some answer) = answer ∷ []

-- what the reader judged: nothing, the line that it has come to, or the fault of one that is too long
abbrev pub Judges : MessageReader → Option (Result (Unit {0}) LineFault) → Option (Result Message LineFault) → Type 0
Judges reader None answer = answer ≡ None
Judges reader (Some (Ok ended)) answer = Says (said_in reader.setup (line.content_in reader.lines)) answer
Judges reader (Some (Err fault)) answer = answer ≡ Some (Err fault)

-- the reader goes on behind these bytes, which have no fault
pub record GoesOn (setup : ChannelSetup) (reader : MessageReader) (bytes : List ℕ) : Type 0 where
  pub setup_is : reader.setup ≡ setup
  pub lines_stand : line.StandsFor reader.lines bytes
  pub no_fault : fault_of setup bytes ≡ None

-- the reader has ended, at a fault or at the end of its input, at the line of this number
pub record HasEnded (reader : MessageReader) (number : ℕ) : Type 0 where
  pub is_closed : reader.closed ≡ true
  pub number_is : line.number_in reader.lines ≡ number

-- the reader has stopped at the fault of these bytes
pub record HasStopped (setup : ChannelSetup) (reader : MessageReader) (bytes : List ℕ) : Type 0 where
  pub fault : ℕ × LineFault
  pub is : fault_of setup bytes ≡ Some fault
  pub at : HasEnded reader fault.0

-- the reader goes on, or has stopped
abbrev pub GoesOnOrStopped : ChannelSetup → MessageReader → Bool → List ℕ → Type 0
GoesOnOrStopped setup reader true bytes = HasStopped setup reader bytes
GoesOnOrStopped setup reader false bytes = GoesOn setup reader bytes

-- the reader of this channel's messages stands for these bytes: it was fed them, or others behind which the same answers follow
unfoldable pub StandsFor : ChannelSetup → MessageReader → List ℕ → Type 0
StandsFor setup reader bytes = GoesOnOrStopped setup reader reader.closed bytes

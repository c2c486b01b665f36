-- What the lines of an input tell a sensor to send, up to the first fault; this project's own.
use Rattle.std.specs.Prelude.{◌≡◌, ℕ, true, Option, None, Some, Result, Ok, Err, List, [], ◌∷◌, map, if◌then◌else◌}
use Rattle.line_base.specs.declared.faults.LineFault.{LineFault}
use Rattle.line_base.specs.Steps.{◌>>=◌}
use Rattle.receiver_core.specs.declared.message.Message.{Message}
use Rattle.receiver_core.specs.declared.setup.ChannelSetup.{ChannelSetup}
use Rattle.text_lines.specs.Lines.{is_blank}
use Rattle.text_lines.specs.Inputs.{Numbered, fault_in, lines_of, whole_lines_of, lines_begun, number_at}
use Rattle.message_lines.specs.Messages.{message_fits}
use Rattle.message_lines.specs.Lines.{message_in}

-- what a line says: nothing where it is empty or a comment, else a message
abbrev pub said_in : ChannelSetup → List ℕ → Result (Option Message) LineFault
said_in setup line = if is_blank line then Ok None else (message_in setup line >>= λ message. Ok (Some message))

-- what is told of a line of this number, and then of the lines behind it, unless it has a fault
abbrev pub told_with : ℕ → Result (Option Message) LineFault → List (Numbered Message) → List (Numbered Message)
told_with number (Err fault) later = (number, Err fault) ∷ []
told_with number (Ok None) later = later
told_with number (Ok (Some message)) later = (number, Ok message) ∷ later

-- what is told of lines
unfoldable pub told_in : ChannelSetup → List (Numbered (List ℕ)) → List (Numbered Message)
told_in setup [] = []
told_in setup (line ∷ lines) = told_with line.0 (line.1 >>= said_in setup) (told_in setup lines)

-- the messages that these bytes tell a channel's sensor to send, and the first fault, of an input of which more may come
unfoldable pub told_of : ChannelSetup → List ℕ → List (Numbered Message)
told_of setup bytes = told_in setup (lines_of bytes)

-- the same of these bytes and no more: an unfinished last line counts as ended
unfoldable pub whole_told_of : ChannelSetup → List ℕ → List (Numbered Message)
whole_told_of setup bytes = told_in setup (whole_lines_of bytes)

-- the first fault, with the number of its line
unfoldable pub fault_of : ChannelSetup → List ℕ → Option (ℕ × LineFault)
fault_of setup bytes = fault_in (told_of setup bytes)

-- the messages, and then the fault, if there is one
unfoldable pub answers_of : ChannelSetup → List ℕ → List (Result Message LineFault)
answers_of setup bytes = map (λ t. t.1) (told_of setup bytes)

-- the first fault of these bytes and no more, with the number of its line
unfoldable pub whole_fault_of : ChannelSetup → List ℕ → Option (ℕ × LineFault)
whole_fault_of setup bytes = fault_in (whole_told_of setup bytes)

-- the messages of these bytes and no more, and then the fault
unfoldable pub whole_answers_of : ChannelSetup → List ℕ → List (Result Message LineFault)
whole_answers_of setup bytes = map (λ t. t.1) (whole_told_of setup bytes)

-- the number, from 1, of the line of the last byte, or of the fault; 0 before the first byte
unfoldable pub line_number_of : ChannelSetup → List ℕ → ℕ
line_number_of setup bytes = number_at (fault_of setup bytes) (lines_begun bytes)

-- an answer is a fault, or a message that fits the channel
abbrev pub FitsIn : ChannelSetup → Result Message LineFault → Type 0
FitsIn setup (Ok message) = message_fits setup message ≡ true
FitsIn setup (Err fault) = Unit {0}

-- The lines of messages that a sensor, or a control unit, is told to send; this project's own.
use Rattle.std.specs.Prelude.{ℕ, ◌==◌, ok_or, Bool, true, false, is_some, Result, Ok, List, [], ◌∷◌, codes, decimal, length}
use Rattle.line_base.specs.declared.faults.LineFault.{LineFault}
use Rattle.line_base.specs.declared.faults.LineFault.TheVariants.{Field, TooLarge}
use Rattle.line_base.specs.Steps.{◌>>=◌, check}
use Rattle.line_base.specs.Texts.{looked_up}
use Rattle.psi5_frame.specs.declared.burst.Payload.{Payload}
use Rattle.receiver_core.specs.declared.message.Message.{Message}
use Rattle.receiver_core.specs.declared.message.Message.TheVariants.{Frame, Short, Enhanced, Answer, Silent, Sync, Burst, Down}
use Rattle.receiver_core.specs.declared.setup.Serial.{Serial}
use Rattle.receiver_core.specs.declared.setup.Serial.TheVariants as serial
use Rattle.receiver_core.specs.declared.setup.ChannelSetup.{ChannelSetup}
use Rattle.receiver_core.specs.declared.setup.ChannelSetup.TheVariants.{Sent, Psi5, Spc, Tooth}
use Rattle.report_text.specs.Fields.{line_of, fields_of}
use Rattle.report_text.specs.Sent.{frame_fields, short_fields, enhanced_fields}
use Rattle.report_text.specs.Spc.{answer_fields}
use Rattle.report_text.specs.Psi5.{slot_text, payload_fields}
use Rattle.report_text.specs.Downlink.{down_fields}
use Rattle.message_lines.specs.Fields.{next_field, value_read}
use Rattle.message_lines.specs.Spellings.{hex_spelled, nibbles_spelled, decimal_spelled, slot_spelled}
use Rattle.message_lines.specs.Messages.{message_fits}

-- what stands behind a word of a line: as many fields as it has, each in its spelling
abbrev pub Behind : Type 0
Behind = List (List ℕ) → Result Message LineFault

-- behind `frame`: the status, and so many data nibbles
unfoldable pub frame_spelled : ℕ → Behind
frame_spelled count fields = do
  _ ← check (length fields == 2) Field
  status ← value_read (hex_spelled 1) fields
  nibbles ← value_read (nibbles_spelled count) status.1
  Ok (Frame (record { status = status.0; nibbles = nibbles.0 }))

-- behind `short`: the ID and the value
unfoldable pub short_spelled : Behind
short_spelled fields = do
  _ ← check (length fields == 2) Field
  id ← value_read (hex_spelled 1) fields
  value ← value_read (hex_spelled 2) id.1
  Ok (Short id.0 value.0)

-- behind `enhanced8`: an ID of 8 bits and a value of 12
unfoldable pub narrow_spelled : Behind
narrow_spelled fields = do
  _ ← check (length fields == 2) Field
  id ← value_read (hex_spelled 2) fields
  value ← value_read (hex_spelled 3) id.1
  Ok (Enhanced id.0 value.0 false)

-- behind `enhanced4`: an ID of 4 bits and a value of 16
unfoldable pub wide_spelled : Behind
wide_spelled fields = do
  _ ← check (length fields == 2) Field
  id ← value_read (hex_spelled 1) fields
  value ← value_read (hex_spelled 4) id.1
  Ok (Enhanced id.0 value.0 true)

-- behind `answer`: the code, the status, and so many data nibbles
unfoldable pub answer_spelled : ℕ → Behind
answer_spelled count fields = do
  _ ← check (length fields == 3) Field
  code ← value_read decimal_spelled fields
  status ← value_read (hex_spelled 1) code.1
  nibbles ← value_read (nibbles_spelled count) status.1
  Ok (Answer code.0 (record { status = status.0; nibbles = nibbles.0 }))

-- behind `silent`: the code
unfoldable pub silent_spelled : Behind
silent_spelled fields = do
  _ ← check (length fields == 1) Field
  code ← value_read decimal_spelled fields
  Ok (Silent code.0)

-- behind `sync`: nothing
unfoldable pub sync_spelled : Behind
sync_spelled fields = do
  _ ← check (length fields == 0) Field
  Ok Sync

-- the parts of a frame: messaging, frame control, status, data B and data A
unfoldable pub payload_spelled : List (List ℕ) → Result Payload LineFault
payload_spelled fields = do
  m ← value_read (hex_spelled 1) fields
  f ← value_read (hex_spelled 1) m.1
  s ← value_read (hex_spelled 1) f.1
  b ← value_read (hex_spelled 3) s.1
  a ← value_read (hex_spelled 6) b.1
  Ok (record { m = m.0; f = f.0; s = s.0; b = b.0; a = a.0 })

-- behind `burst`: the slot, and the parts of the frame
unfoldable pub burst_spelled : Bool → Behind
burst_spelled has_slots fields = do
  _ ← check (length fields == 6) Field
  slot ← value_read (slot_spelled has_slots) fields
  payload ← payload_spelled slot.1
  Ok (Burst slot.0 payload)

-- behind `down`: the address, the function, the register and the value
unfoldable pub down_spelled : Behind
down_spelled fields = do
  _ ← check (length fields == 4) Field
  address ← value_read decimal_spelled fields
  function ← value_read decimal_spelled address.1
  register ← value_read (hex_spelled 3) function.1
  value ← value_read (hex_spelled 3) register.1
  Ok (Down (record { address = address.0; function = function.0; register = register.0; value = value.0 }))

-- the words of serial messages
abbrev pub serial_words : Serial → List (List ℕ × Behind)
serial_words serial.Absent = []
serial_words serial.Short = (codes "short", short_spelled) ∷ []
serial_words serial.Enhanced = (codes "enhanced8", narrow_spelled) ∷ (codes "enhanced4", wide_spelled) ∷ []

-- the words of SENT, with so many nibbles in a frame
abbrev pub sent_words : ℕ → Serial → List (List ℕ × Behind)
sent_words nibbles form = (codes "frame", frame_spelled nibbles) ∷ serial_words form

-- the words of SPC, with so many nibbles in an answer
abbrev pub spc_words : ℕ → List (List ℕ × Behind)
spc_words nibbles = (codes "answer", answer_spelled nibbles) ∷ (codes "silent", silent_spelled) ∷ []

-- the words of PSI5: a sync pulse only where there are slots
abbrev pub psi5_words : Bool → List (List ℕ × Behind)
psi5_words false = (codes "burst", burst_spelled false) ∷ []
psi5_words true = (codes "sync", sync_spelled) ∷ (codes "burst", burst_spelled true) ∷ []

-- the words of a downlink
abbrev pub tooth_words : List (List ℕ × Behind)
tooth_words = (codes "down", down_spelled) ∷ []

-- the words that a line of a channel may begin with, and what stands behind each
abbrev pub words_of : ChannelSetup → List (List ℕ × Behind)
words_of (Sent line setup layout form) = sent_words setup.nibbles form
words_of (Spc line setup) = spc_words setup.sent.nibbles
words_of (Psi5 line setup slots init) = psi5_words (is_some slots)
words_of (Tooth line setup) = tooth_words

-- what is read behind this word; Field for no word of these
unfoldable pub behind_word : List (List ℕ × Behind) → List ℕ → Behind
behind_word words word fields = do
  read ← ok_or (looked_up words word) Field
  read fields

-- the message that these fields spell, one of these words and what stands behind it
unfoldable pub message_spelled : List (List ℕ × Behind) → List (List ℕ) → Result Message LineFault
message_spelled words fields = do
  word ← next_field fields
  behind_word words word.0 word.1

-- the message of a line, without its end; else its first fault: Field for a word that the channel doesn't have or another number of fields, then Number for a spelling, then TooLarge for a value that doesn't fit
unfoldable pub message_in : ChannelSetup → List ℕ → Result Message LineFault
message_in setup line = do
  message ← message_spelled (words_of setup) (fields_of line)
  _ ← check (message_fits setup message) TooLarge
  Ok message

-- the fields of a message: its word, and what stands behind it
abbrev pub message_fields : Message → List (List ℕ)
message_fields (Frame frame) = frame_fields frame
message_fields (Short id value) = short_fields id value
message_fields (Enhanced id value wide) = enhanced_fields id value wide
message_fields (Answer code frame) = answer_fields code frame
message_fields (Silent code) = codes "silent" ∷ decimal code ∷ []
message_fields Sync = codes "sync" ∷ []
message_fields (Burst slot payload) = codes "burst" ∷ slot_text slot ∷ payload_fields payload
message_fields (Down down) = down_fields down

-- the line of a message, without its end
unfoldable pub message_text : Message → List ℕ
message_text message = line_of (message_fields message)

-- A message that is read of a line is never refused for what it is.
--     behind, bound, of-value                steps that don't fail
--     nibbles-read, value-holds              the data nibbles of a field
--     frame-read, .., down-read              word by word
--     all-read, message-read                 by the words of the channel
--     line-of                                the message of a line
use Rattle.std.proofs.Common.{◌≡◌, ℕ, ◌==◌, Bool, true, false, is_some, Some, Result, Ok, Err, ok_or, List, [], ◌∷◌, length, refl, subst, if◌then◌else◌}
use Rattle.std.specs.Str.{bytes_eq}
use Rattle.rand_pcg.specs.Lcg.{Lcg}
use Rattle.line_base.specs.declared.edge.Edge.{Edge}
use Rattle.line_base.specs.declared.faults.LineFault.{LineFault}
use Rattle.line_base.specs.declared.faults.LineFault.TheVariants.{Field, Number, TooLarge}
use Rattle.line_base.specs.Nibbles.{AreNibbles}
use Rattle.line_base.specs.Steps.{◌>>=◌, check}
use Rattle.line_base.specs.Texts.{looked_up}
use Rattle.receiver_core.specs.declared.message.Message.{Message}
use Rattle.receiver_core.specs.declared.setup.Serial.{Serial}
use Rattle.receiver_core.specs.declared.setup.Serial.TheVariants as serial
use Rattle.receiver_core.specs.declared.setup.ChannelSetup.{ChannelSetup}
use Rattle.receiver_core.specs.declared.setup.ChannelSetup.TheVariants as channel
use Rattle.report_text.specs.declared.fault.TextFault.{TextFault}
use Rattle.report_text.specs.Fields.{fields_of}
use Rattle.report_text.specs.Hex.{data_in}
use Rattle.report_text.proofs.Spellings.{data_nibbles}
use Rattle.message_lines.specs.Fields.{next_field, value_read}
use Rattle.message_lines.specs.Spellings.{decimal_spelled, hex_spelled, nibbles_spelled, slot_spelled, spelled}
use Rattle.message_lines.specs.Messages.{HasNibbles, message_fits}
use Rattle.message_lines.specs.Lines.{Behind, answer_spelled, behind_word, burst_spelled, down_spelled, frame_spelled, message_in, message_spelled, narrow_spelled, payload_spelled, psi5_words, serial_words, short_spelled, silent_spelled, sync_spelled, wide_spelled, words_of}
use Rattle.sim_base.specs.Runs.{HasRun}
use Rattle.sensor_sim.specs.Sims.{SimState, sim_next, started_by}
use Rattle.scripts_accepted.specs.Taken.{IsOfSetup}
use Rattle.scripts_accepted.proofs.ReadMessages.{read-of}

-- ---- steps
-- what was read is a fault, or a value of which this holds
abbrev Holds : {A E : Type 0} → (A → Type 0) → Result A E → Type 0
Holds P (Ok x) = P x
Holds P (Err fault) = Unit {0}

-- this holds of a value if it does of each that was read
of-value : {A E : Type 0} (P : A → Type 0) (read : Result A E) → ((x : A) → read ≡ Ok x → P x) → Holds P read
of-value P (Ok x) each = each x refl
of-value P (Err fault) each = tt

-- what holds behind each value of a step
behind : {A B : Type 0} (P : B → Type 0) (step : Result A LineFault) (next : A → Result B LineFault) → ((x : A) → Holds P (next x)) → Holds P (step >>= next)
behind P (Ok x) next each = each x
behind P (Err fault) next each = tt

-- what holds behind a value of which something is known
bound : {A B : Type 0} (Own : A → Type 0) (P : B → Type 0) (step : Result A LineFault) (next : A → Result B LineFault) → Holds Own step → ((x : A) → Own x → Holds P (next x)) → Holds P (step >>= next)
bound Own P (Ok x) next own each = each x own
bound Own P (Err fault) next own each = tt

-- ---- fields
-- what holds of what a report's field spells holds of a message's
spelled-holds : {A : Type 0} (P : A → Type 0) (read : Result A TextFault) → Holds P read → Holds P (spelled read)
spelled-holds P (Ok x) own = own
spelled-holds P (Err fault) own = tt

-- the data nibbles of a field are 1 to 6 numbers below 16
nibbles-read : (count : ℕ) (field : List ℕ) → Holds AreNibbles (nibbles_spelled count field)
unfolding nibbles_spelled
nibbles-read count field =
    behind AreNibbles (check (length field == count) Number) (λ _. spelled (data_in field))
    (λ _. spelled-holds AreNibbles (data_in field) (of-value AreNibbles (data_in field) (λ nibbles e. (data_nibbles.taken field nibbles e).1)))

-- the value of the next field is one of those that it may spell
value-holds : {A : Type 0} (P : A → Type 0) (spelling : List ℕ → Result A LineFault) (fields : List (List ℕ)) → ((field : List ℕ) → Holds P (spelling field)) → Holds (λ found. P found.0) (value_read spelling fields)
unfolding value_read
value-holds {A} P spelling fields each =
    behind (λ (found : A × List (List ℕ)). P found.0) (next_field fields) (λ field. spelling field.0 >>= λ value. Ok (value, field.1))
    (λ field. bound P (λ (found : A × List (List ℕ)). P found.0) (spelling field.0) (λ value. Ok (value, field.1)) (each field.0) (λ value own. own))

-- ---- words
-- a message has nibbles, behind a step of which nothing is asked
has : {A : Type 0} (step : Result A LineFault) (next : A → Result Message LineFault) → ((x : A) → Holds HasNibbles (next x)) → Holds HasNibbles (step >>= next)
has step next each = behind HasNibbles step next each

-- behind `frame`
frame-read : (count : ℕ) (fields : List (List ℕ)) → Holds HasNibbles (frame_spelled count fields)
unfolding frame_spelled
frame-read count fields =
    has (check (length fields == 2) Field) _ (λ _.
    has (value_read (hex_spelled 1) fields) _ (λ status.
    bound (λ found. AreNibbles found.0) HasNibbles (value_read (nibbles_spelled count) status.1) _ (value-holds AreNibbles (nibbles_spelled count) status.1 (nibbles-read count)) (λ nibbles own. own)))

-- behind `short`
short-read : (fields : List (List ℕ)) → Holds HasNibbles (short_spelled fields)
unfolding short_spelled
short-read fields = has (check (length fields == 2) Field) _ (λ _. has (value_read (hex_spelled 1) fields) _ (λ id. has (value_read (hex_spelled 2) id.1) _ (λ value. tt)))

-- behind `enhanced8`
narrow-read : (fields : List (List ℕ)) → Holds HasNibbles (narrow_spelled fields)
unfolding narrow_spelled
narrow-read fields = has (check (length fields == 2) Field) _ (λ _. has (value_read (hex_spelled 2) fields) _ (λ id. has (value_read (hex_spelled 3) id.1) _ (λ value. tt)))

-- behind `enhanced4`
wide-read : (fields : List (List ℕ)) → Holds HasNibbles (wide_spelled fields)
unfolding wide_spelled
wide-read fields = has (check (length fields == 2) Field) _ (λ _. has (value_read (hex_spelled 1) fields) _ (λ id. has (value_read (hex_spelled 4) id.1) _ (λ value. tt)))

-- behind `answer`
answer-read : (count : ℕ) (fields : List (List ℕ)) → Holds HasNibbles (answer_spelled count fields)
unfolding answer_spelled
answer-read count fields =
    has (check (length fields == 3) Field) _ (λ _.
    has (value_read decimal_spelled fields) _ (λ code.
    has (value_read (hex_spelled 1) code.1) _ (λ status.
    bound (λ found. AreNibbles found.0) HasNibbles (value_read (nibbles_spelled count) status.1) _ (value-holds AreNibbles (nibbles_spelled count) status.1 (nibbles-read count)) (λ nibbles own. own))))

-- behind `silent`
silent-read : (fields : List (List ℕ)) → Holds HasNibbles (silent_spelled fields)
unfolding silent_spelled
silent-read fields = has (check (length fields == 1) Field) _ (λ _. has (value_read decimal_spelled fields) _ (λ code. tt))

-- behind `sync`
sync-read : (fields : List (List ℕ)) → Holds HasNibbles (sync_spelled fields)
unfolding sync_spelled
sync-read fields = has (check (length fields == 0) Field) _ (λ _. tt)

-- behind `burst`
burst-read : (has_slots : Bool) (fields : List (List ℕ)) → Holds HasNibbles (burst_spelled has_slots fields)
unfolding burst_spelled
burst-read has_slots fields = has (check (length fields == 6) Field) _ (λ _. has (value_read (slot_spelled has_slots) fields) _ (λ slot. has (payload_spelled slot.1) _ (λ payload. tt)))

-- behind `down`
down-read : (fields : List (List ℕ)) → Holds HasNibbles (down_spelled fields)
unfolding down_spelled
down-read fields =
    has (check (length fields == 4) Field) _ (λ _.
    has (value_read decimal_spelled fields) _ (λ address.
    has (value_read decimal_spelled address.1) _ (λ function.
    has (value_read (hex_spelled 3) function.1) _ (λ register.
    has (value_read (hex_spelled 3) register.1) _ (λ value. tt)))))

-- ---- the words of a channel
-- each of these words has a message with nibbles behind it, or a fault
abbrev AllRead : List (List ℕ × Behind) → Type 0
AllRead [] = Unit {0}
AllRead (row ∷ rows) = ((fields : List (List ℕ)) → Holds HasNibbles (row.1 fields)) × AllRead rows

-- so has the first of the words or one of the others, by whether it is the first
by-test : (row : List ℕ × Behind) (rows : List (List ℕ × Behind)) (text : List ℕ) (fields : List (List ℕ)) (first : Bool) → ((fields : List (List ℕ)) → Holds HasNibbles (row.1 fields)) → Holds HasNibbles (ok_or (looked_up rows text) Field >>= λ read. read fields)
    → Holds HasNibbles (ok_or (if first then Some row.1 else looked_up rows text) Field >>= λ read. read fields)
by-test row rows text fields true own others = own fields
by-test row rows text fields false own others = others

-- so has a word that is looked up
looked-read : (words : List (List ℕ × Behind)) (text : List ℕ) (fields : List (List ℕ)) → AllRead words → Holds HasNibbles (ok_or (looked_up words text) Field >>= λ read. read fields)
looked-read [] text fields all = tt
looked-read (row ∷ rows) text fields all = by-test row rows text fields (bytes_eq text row.0) all.0 (looked-read rows text fields all.1)

-- what stands behind a word
word-read : (words : List (List ℕ × Behind)) (text : List ℕ) (fields : List (List ℕ)) → AllRead words → Holds HasNibbles (behind_word words text fields)
unfolding behind_word
word-read words text fields all = looked-read words text fields all

-- the fields of a line
fields-read : (words : List (List ℕ × Behind)) (fields : List (List ℕ)) → AllRead words → Holds HasNibbles (message_spelled words fields)
unfolding message_spelled
fields-read words fields all = has (next_field fields) _ (λ word. word-read words word.0 word.1 all)

-- the words of serial messages
serial-read : (form : Serial) → AllRead (serial_words form)
serial-read serial.Absent = tt
serial-read serial.Short = (short-read, tt)
serial-read serial.Enhanced = (narrow-read, (wide-read, tt))

-- the words of PSI5
psi5-read : (has_slots : Bool) → AllRead (psi5_words has_slots)
psi5-read false = (burst-read false, tt)
psi5-read true = (sync-read, (burst-read true, tt))

-- the words of a channel
all-read : (setup : ChannelSetup) → AllRead (words_of setup)
all-read (channel.Sent line s layout form) = (frame-read s.nibbles, serial-read form)
all-read (channel.Psi5 line s slots init) = psi5-read (is_some slots)
all-read (channel.Spc line s) = (answer-read s.sent.nibbles, (silent-read, tt))
all-read (channel.Tooth line s) = (down-read, tt)

-- ---- the message of a line
-- the message has nibbles, and fits the channel
abbrev IsRead : ChannelSetup → Message → Type 0
IsRead setup m = HasNibbles m × (message_fits setup m ≡ true)

-- a message that is told once it was tested
tested : (setup : ChannelSetup) (m : Message) → HasNibbles m → (fits : Bool) → message_fits setup m ≡ fits → Holds (IsRead setup) (check fits TooLarge >>= λ _. Ok m)
tested setup m own true e = (own, e)
tested setup m own false e = tt

-- the message of a line has nibbles, and fits the channel
message-read : (setup : ChannelSetup) (line : List ℕ) → Holds (IsRead setup) (message_in setup line)
unfolding message_in
message-read setup line =
    bound HasNibbles (IsRead setup) (message_spelled (words_of setup) (fields_of line)) (λ m. check (message_fits setup m) TooLarge >>= λ _. Ok m)
    (fields-read (words_of setup) (fields_of line) (all-read setup)) (λ m own. tested setup m own (message_fits setup m) refl)

-- a message that is read of a line is one of the setup
pub line-of : (setup : ChannelSetup) (state : SimState) (messages : List Message) (edges : List Edge) (line : List ℕ) (m : Message) (g : Lcg) → message_in setup line ≡ Ok m
    → HasRun SimState sim_next (started_by setup) state messages edges → IsOfSetup (sim_next state m g)
line-of setup state messages edges line m g read run =
    let is = subst (Holds (IsRead setup)) read (message-read setup line) in
    read-of setup state messages edges m g is.0 is.1 run

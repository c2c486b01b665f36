-- The reader that stands for bytes: one more byte, its end and its number.
use Rattle.std.proofs.Common.{◌≡◌, ℕ, Bool, true, false, Option, Some, None, Result, Ok, Err, List, [], ◌∷◌, ◌++◌, map, refl, sym, ◌∙◌, ap, subst}
use Rattle.std.proofs.lemmas.List.{append-nil}
use Rattle.line_base.specs.declared.faults.LineFault.{LineFault}
use Rattle.text_lines.specs.Inputs as text
use Rattle.text_lines.specs.Inputs.{Numbered, fault_in, lines_of, whole_lines_of, lines_begun, number_at}
use Rattle.text_lines.specs.Readers as line
use Rattle.text_lines.specs.declared.reader.LineReader.{LineReader}
use Rattle.text_lines.proofs.Telling.{not_both, fault_behind}
use Rattle.text_lines.proofs.Stays.{no_lines}
use Rattle.receiver_core.specs.declared.message.Message.{Message}
use Rattle.receiver_core.specs.declared.setup.ChannelSetup.{ChannelSetup}
use Rattle.message_lines.specs.Inputs.{said_in, told_with, told_in, told_of, whole_told_of, fault_of, answers_of, whole_fault_of, whole_answers_of, line_number_of}
use Rattle.message_lines.specs.Readings.{Says, is_fault, last_line}
use Rattle.message_lines.specs.Readers.{answers_in, Judges, GoesOn, HasEnded, HasStopped, GoesOnOrStopped, StandsFor}
use Rattle.message_lines.specs.declared.reader.MessageReader.{MessageReader}
use Rattle.message_lines.proofs.Telling.{no_fault_lines, told_stays, whole_told_stays, told_more, whole_told_more, answers_same, answers_more, whole_answers_same, whole_answers_more, fault_stays}

-- a reader that goes on or has stopped
stands_going : (setup : ChannelSetup) (reader : MessageReader) (bytes : List ℕ) → reader.closed ≡ false → GoesOn setup reader bytes → StandsFor setup reader bytes
unfolding StandsFor
stands_going setup reader bytes e going = subst (λ (t : Bool). GoesOnOrStopped setup reader t bytes) (sym e) going

stands_stopped : (setup : ChannelSetup) (reader : MessageReader) (bytes : List ℕ) → reader.closed ≡ true → HasStopped setup reader bytes → StandsFor setup reader bytes
unfolding StandsFor
stands_stopped setup reader bytes e stopped = subst (λ (t : Bool). GoesOnOrStopped setup reader t bytes) (sym e) stopped

pub going_of : (setup : ChannelSetup) (reader : MessageReader) (bytes : List ℕ) → StandsFor setup reader bytes → reader.closed ≡ false → GoesOn setup reader bytes
unfolding StandsFor
going_of setup reader bytes stands e = subst (λ (t : Bool). GoesOnOrStopped setup reader t bytes) e stands

pub stopped_of : (setup : ChannelSetup) (reader : MessageReader) (bytes : List ℕ) → StandsFor setup reader bytes → reader.closed ≡ true → HasStopped setup reader bytes
unfolding StandsFor
stopped_of setup reader bytes stands e = subst (λ (t : Bool). GoesOnOrStopped setup reader t bytes) e stands

-- a reader of no bytes
pub new_stands : (setup : ChannelSetup) (reader : MessageReader) → reader.setup ≡ setup → reader.closed ≡ false → line.StandsFor reader.lines [] → StandsFor setup reader []
unfolding fault_of told_of told_in
new_stands setup reader same open_is stands = stands_going setup reader [] open_is (record {
  setup_is = same;
  lines_stand = stands;
  no_fault = ap (λ lines. fault_in (told_in setup lines)) no_lines;
})

-- ---- what one line tells

-- the answer of a line of this number
abbrev pub told_answer : ℕ → Option (Result Message LineFault) → List (Numbered Message)
told_answer number None = []
told_answer number (Some answer) = (number, answer) ∷ []

answered : (number : ℕ) (answer : Option (Result Message LineFault)) → map (λ t. t.1) (told_answer number answer) ≡ answers_in answer
answered number None = refl
answered number (Some answer) = refl

one_said : (number : ℕ) (said : Result (Option Message) LineFault) (answer : Option (Result Message LineFault)) → Says said answer → told_with number said [] ≡ told_answer number answer
one_said number said None e = ap (λ (s : Result (Option Message) LineFault). told_with number s []) e
one_said number said (Some (Ok message)) e = ap (λ (s : Result (Option Message) LineFault). told_with number s []) e
one_said number said (Some (Err fault)) e = ap (λ (s : Result (Option Message) LineFault). told_with number s []) e

one_line : (setup : ChannelSetup) (number : ℕ) (content : List ℕ) → told_in setup ((number, Ok content) ∷ []) ≡ told_with number (said_in setup content) []
unfolding told_in
one_line setup number content = refl

one_fault : (setup : ChannelSetup) (number : ℕ) (fault : LineFault) → told_in setup ((number, Err fault) ∷ []) ≡ (number, Err fault) ∷ []
unfolding told_in
one_fault setup number fault = refl

nothing_told : (setup : ChannelSetup) → told_in setup [] ≡ []
unfolding told_in
nothing_told setup = refl

judged : (setup : ChannelSetup) (reader : MessageReader) (ended : Option (Result (Unit {0}) LineFault)) (answer : Option (Result Message LineFault)) → reader.setup ≡ setup → Judges reader ended answer → told_in setup (line.lines_in reader.lines ended) ≡ told_answer (line.number_in reader.lines) answer
judged setup reader None answer same e = nothing_told setup ∙ ap (told_answer (line.number_in reader.lines)) (sym e)
judged setup reader (Some (Ok done)) answer same says =
    one_line setup (line.number_in reader.lines) (line.content_in reader.lines)
    ∙ ap (λ (s : ChannelSetup). told_with (line.number_in reader.lines) (said_in s (line.content_in reader.lines)) []) (sym same)
    ∙ one_said (line.number_in reader.lines) (said_in reader.setup (line.content_in reader.lines)) answer says
judged setup reader (Some (Err fault)) answer same e = one_fault setup (line.number_in reader.lines) fault ∙ ap (told_answer (line.number_in reader.lines)) (sym e)

-- the line that the end of the input gives
last_lines : (reader : LineReader) (t : Bool) → line.last_in reader t ≡ line.lines_in reader (last_line t)
last_lines reader true = refl
last_lines reader false = refl

pub last_grows : (reader : LineReader) (bytes : List ℕ) (t : Bool) (ended : Option (Result (Unit {0}) LineFault)) → ended ≡ last_line t → whole_lines_of bytes ≡ lines_of bytes ++ line.last_in reader t → whole_lines_of bytes ≡ lines_of bytes ++ line.lines_in reader ended
last_grows reader bytes t ended e grows = grows ∙ ap (λ lines. lines_of bytes ++ lines) (last_lines reader t ∙ ap (line.lines_in reader) (sym e))

-- ---- one more byte
module _ (setup : ChannelSetup) (old new : MessageReader) (seen : List ℕ) (going : GoesOn setup old seen) where
  same_setup : new.setup ≡ old.setup → new.setup ≡ setup
  same_setup e = e ∙ going.setup_is

  told_byte : (byte : ℕ) (ended : Option (Result (Unit {0}) LineFault)) (answer : Option (Result Message LineFault)) → new.setup ≡ old.setup → lines_of (seen ++ byte ∷ []) ≡ lines_of seen ++ line.lines_in new.lines ended → Judges new ended answer
      → told_of setup (seen ++ byte ∷ []) ≡ told_of setup seen ++ told_answer (line.number_in new.lines) answer
  told_byte byte ended answer e grows judges =
      told_more setup seen (seen ++ byte ∷ []) (line.lines_in new.lines ended) going.no_fault grows
      ∙ ap (λ told. told_of setup seen ++ told) (judged setup new ended answer (same_setup e) judges)

  fault_byte : (byte : ℕ) (answer : Option (Result Message LineFault)) → told_of setup (seen ++ byte ∷ []) ≡ told_of setup seen ++ told_answer (line.number_in new.lines) answer → fault_of setup (seen ++ byte ∷ []) ≡ fault_in (told_answer (line.number_in new.lines) answer)
  unfolding fault_of
  fault_byte byte answer told = ap fault_in told ∙ fault_behind (told_of setup seen) (told_answer (line.number_in new.lines) answer) going.no_fault

  pub grows_byte : (byte : ℕ) (ended : Option (Result (Unit {0}) LineFault)) (answer : Option (Result Message LineFault)) → new.setup ≡ old.setup → lines_of (seen ++ byte ∷ []) ≡ lines_of seen ++ line.lines_in new.lines ended → Judges new ended answer
      → answers_of setup (seen ++ byte ∷ []) ≡ answers_of setup seen ++ answers_in answer
  grows_byte byte ended answer e grows judges =
      answers_more setup seen (seen ++ byte ∷ []) (told_answer (line.number_in new.lines) answer) (told_byte byte ended answer e grows judges)
      ∙ ap (λ answers. answers_of setup seen ++ answers) (answered (line.number_in new.lines) answer)

  stands_cases : (byte : ℕ) (answer : Option (Result Message LineFault)) → new.setup ≡ old.setup → line.StandsFor new.lines (seen ++ byte ∷ []) → fault_of setup (seen ++ byte ∷ []) ≡ fault_in (told_answer (line.number_in new.lines) answer) → new.closed ≡ is_fault answer → StandsFor setup new (seen ++ byte ∷ [])
  stands_cases byte None e stands fault closed = stands_going setup new (seen ++ byte ∷ []) closed (record { setup_is = same_setup e; lines_stand = stands; no_fault = fault })
  stands_cases byte (Some (Ok message)) e stands fault closed = stands_going setup new (seen ++ byte ∷ []) closed (record { setup_is = same_setup e; lines_stand = stands; no_fault = fault })
  stands_cases byte (Some (Err own)) e stands fault closed = stands_stopped setup new (seen ++ byte ∷ []) closed (record {
    fault = (line.number_in new.lines, own);
    is = fault;
    at = record { is_closed = closed; number_is = refl };
  })

  pub stands_byte : (byte : ℕ) (ended : Option (Result (Unit {0}) LineFault)) (answer : Option (Result Message LineFault)) → new.setup ≡ old.setup → line.StandsFor new.lines (seen ++ byte ∷ []) → lines_of (seen ++ byte ∷ []) ≡ lines_of seen ++ line.lines_in new.lines ended → Judges new ended answer → new.closed ≡ is_fault answer
      → StandsFor setup new (seen ++ byte ∷ [])
  stands_byte byte ended answer e stands grows judges closed = stands_cases byte answer e stands (fault_byte byte answer (told_byte byte ended answer e grows judges)) closed

  -- the end of the input
  told_end : (ended : Option (Result (Unit {0}) LineFault)) (answer : Option (Result Message LineFault)) → new.setup ≡ old.setup → whole_lines_of seen ≡ lines_of seen ++ line.lines_in new.lines ended → Judges new ended answer
      → whole_told_of setup seen ≡ told_of setup seen ++ told_answer (line.number_in new.lines) answer
  told_end ended answer e grows judges =
      whole_told_more setup seen (line.lines_in new.lines ended) going.no_fault grows
      ∙ ap (λ told. told_of setup seen ++ told) (judged setup new ended answer (same_setup e) judges)

  pub whole_end : (ended : Option (Result (Unit {0}) LineFault)) (answer : Option (Result Message LineFault)) → new.setup ≡ old.setup → whole_lines_of seen ≡ lines_of seen ++ line.lines_in new.lines ended → Judges new ended answer
      → whole_answers_of setup seen ≡ answers_of setup seen ++ answers_in answer
  whole_end ended answer e grows judges =
      whole_answers_more setup seen (told_answer (line.number_in new.lines) answer) (told_end ended answer e grows judges)
      ∙ ap (λ answers. answers_of setup seen ++ answers) (answered (line.number_in new.lines) answer)

  fault_cases : (answer : Option (Result Message LineFault)) (number : ℕ) (fault : LineFault) → fault_in (told_answer (line.number_in new.lines) answer) ≡ Some (number, fault) → line.number_in new.lines ≡ number
  fault_cases None number fault e = absurd (cc)
  fault_cases (Some (Ok message)) number fault e = absurd (cc)
  fault_cases (Some (Err own)) number fault e = (let same : (line.number_in new.lines, own) ≡ (number, fault) = cc in ap (λ (f : ℕ × LineFault). f.0) same)

  pub stops_end : (ended : Option (Result (Unit {0}) LineFault)) (answer : Option (Result Message LineFault)) (number : ℕ) (fault : LineFault) → new.setup ≡ old.setup → whole_lines_of seen ≡ lines_of seen ++ line.lines_in new.lines ended → Judges new ended answer → new.closed ≡ true
      → whole_fault_of setup seen ≡ Some (number, fault) → HasEnded new number
  unfolding whole_fault_of fault_of
  stops_end ended answer number fault e grows judges closed f = record {
    is_closed = closed;
    number_is = fault_cases answer number fault (sym (fault_behind (told_of setup seen) (told_answer (line.number_in new.lines) answer) going.no_fault) ∙ sym (ap fault_in (told_end ended answer e grows judges)) ∙ f);
  }

  -- the number of the line
  pub number_going : text.line_number_of seen ≡ line_number_of setup seen
  unfolding line_number_of text.line_number_of fault_of told_of
  number_going =
      ap (λ f. number_at f (lines_begun seen)) (no_fault_lines setup (lines_of seen) going.no_fault)
      ∙ sym (ap (λ f. number_at f (lines_begun seen)) going.no_fault)

  pub ends_at : line.HasEnded new.lines (text.line_number_of seen) → new.closed ≡ true → HasEnded new (line_number_of setup seen)
  ends_at ended closed = record { is_closed = closed; number_is = ended.number_is ∙ number_going }

-- ---- a reader that has stopped
module _ (setup : ChannelSetup) (reader : MessageReader) (seen : List ℕ) (stopped : HasStopped setup reader seen) where
  pub stopped_stands : (byte : ℕ) → StandsFor setup reader (seen ++ byte ∷ [])
  stopped_stands byte = stands_stopped setup reader (seen ++ byte ∷ []) stopped.at.is_closed (record {
    fault = stopped.fault;
    is = fault_stays setup seen (byte ∷ []) stopped.fault stopped.is;
    at = stopped.at;
  })

  pub stopped_grows : (byte : ℕ) → answers_of setup (seen ++ byte ∷ []) ≡ answers_of setup seen ++ []
  stopped_grows byte = answers_same setup seen (seen ++ byte ∷ []) (told_stays setup seen (byte ∷ []) stopped.fault stopped.is) ∙ sym (append-nil (answers_of setup seen))

  pub stopped_whole : whole_answers_of setup seen ≡ answers_of setup seen ++ []
  stopped_whole = whole_answers_same setup seen (whole_told_stays setup seen stopped.fault stopped.is) ∙ sym (append-nil (answers_of setup seen))

  pub stopped_number : HasEnded reader (line_number_of setup seen)
  unfolding line_number_of
  stopped_number = record { is_closed = stopped.at.is_closed; number_is = stopped.at.number_is ∙ sym (ap (λ f. number_at f (lines_begun seen)) stopped.is) }

  same_fault : (number : ℕ) (fault : LineFault) → fault_of setup seen ≡ Some (number, fault) → HasEnded reader number
  same_fault number fault e =
      let same : Some stopped.fault ≡ Some (number, fault) = sym stopped.is ∙ e in
      let both : stopped.fault ≡ (number, fault) = cc in
      subst (HasEnded reader) (ap (λ (p : ℕ × LineFault). p.0) both) stopped.at

  pub stopped_ends : (number : ℕ) (fault : LineFault) → whole_fault_of setup seen ≡ Some (number, fault) → HasEnded reader number
  unfolding whole_fault_of fault_of
  stopped_ends number fault e = same_fault number fault (sym (ap fault_in (whole_told_stays setup seen stopped.fault stopped.is)) ∙ e)

-- a reader that stands for bytes with a fault has ended at its line
ended_cases : (setup : ChannelSetup) (reader : MessageReader) (t : Bool) (bytes : List ℕ) (number : ℕ) (fault : LineFault) → GoesOnOrStopped setup reader t bytes → fault_of setup bytes ≡ Some (number, fault) → HasEnded reader number
ended_cases setup reader true bytes number fault stopped e = same_fault setup reader bytes stopped number fault e
ended_cases setup reader false bytes number fault going e = absurd (not_both (fault_of setup bytes) (number, fault) e going.no_fault)

pub ended_at_fault : (setup : ChannelSetup) (reader : MessageReader) (bytes : List ℕ) (number : ℕ) (fault : LineFault) → StandsFor setup reader bytes → fault_of setup bytes ≡ Some (number, fault) → HasEnded reader number
unfolding StandsFor
ended_at_fault setup reader bytes number fault stands e = ended_cases setup reader reader.closed bytes number fault stands e

-- the number of the line
number_cases : (setup : ChannelSetup) (reader : MessageReader) (t : Bool) (bytes : List ℕ) (number : ℕ) → GoesOnOrStopped setup reader t bytes → number ≡ line.number_in reader.lines → (line.StandsFor reader.lines bytes → number ≡ text.line_number_of bytes) → number ≡ line_number_of setup bytes
number_cases setup reader true bytes number stopped same e = same ∙ (stopped_number setup reader bytes stopped).number_is
number_cases setup reader false bytes number going same e = e going.lines_stand ∙ number_going setup reader reader bytes going

pub number_of_line : (setup : ChannelSetup) (reader : MessageReader) (bytes : List ℕ) (number : ℕ) → StandsFor setup reader bytes → number ≡ line.number_in reader.lines → (line.StandsFor reader.lines bytes → number ≡ text.line_number_of bytes) → number ≡ line_number_of setup bytes
unfolding StandsFor
number_of_line setup reader bytes number stands same e = number_cases setup reader reader.closed bytes number stands same e

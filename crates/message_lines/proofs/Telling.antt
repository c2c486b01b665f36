-- What is told of one list of lines behind another, and of more bytes.
use Rattle.std.proofs.Common.{◌≡◌, ℕ, Option, Some, None, Result, Ok, Err, List, [], ◌∷◌, ◌++◌, map, refl, sym, ◌∙◌, ap}
use Rattle.std.proofs.lemmas.List.{append-nil, map-append}
use Rattle.line_base.specs.Streams.{IsFrontOf}
use Rattle.line_base.specs.Steps.{◌>>=◌}
use Rattle.line_base.specs.declared.faults.LineFault.{LineFault}
use Rattle.text_lines.specs.Inputs.{Numbered, fault_in, unless_fault, lines_of, whole_lines_of}
use Rattle.text_lines.proofs.Telling.{unless_none, unless_some, unless_cons}
use Rattle.text_lines.proofs.Stays.{lines_front, whole_front}
use Rattle.receiver_core.specs.declared.message.Message.{Message}
use Rattle.receiver_core.specs.declared.setup.ChannelSetup.{ChannelSetup}
use Rattle.message_lines.specs.Inputs.{said_in, told_with, told_in, told_of, whole_told_of, fault_of, answers_of, whole_answers_of}

told_step : (number : ℕ) (said : Result (Option Message) LineFault) (front more all : List (Numbered Message)) → all ≡ unless_fault front more → told_with number said all ≡ unless_fault (told_with number said front) more
told_step number (Err fault) front more all later = refl
told_step number (Ok None) front more all later = later
told_step number (Ok (Some message)) front more all later = ap (λ told. (number, Ok message) ∷ told) later ∙ unless_cons number message front more

-- what is told of more lines stands behind what was told, unless there was a fault
pub told_append : (setup : ChannelSetup) (front more : List (Numbered (List ℕ))) → told_in setup (front ++ more) ≡ unless_fault (told_in setup front) (told_in setup more)
unfolding told_in
told_append setup [] more = refl
told_append setup (line ∷ front) more = told_step line.0 (line.1 >>= said_in setup) (told_in setup front) (told_in setup more) (told_in setup (front ++ more)) (told_append setup front more)

-- lines of which no fault is told have none
no_fault_step : (setup : ChannelSetup) (number : ℕ) (said : Result (Option Message) LineFault) (told : List (Numbered Message)) → fault_in (told_with number said told) ≡ None → fault_in told ≡ None
no_fault_step setup number (Err fault) told e = absurd (cc)
no_fault_step setup number (Ok None) told e = e
no_fault_step setup number (Ok (Some message)) told e = e

pub no_fault_lines : (setup : ChannelSetup) (lines : List (Numbered (List ℕ))) → fault_in (told_in setup lines) ≡ None → fault_in lines ≡ None
unfolding told_in
no_fault_lines setup [] e = refl
no_fault_lines setup ((number, Ok line) ∷ lines) e = no_fault_lines setup lines (no_fault_step setup number (said_in setup line) (told_in setup lines) e)
no_fault_lines setup ((number, Err fault) ∷ lines) e = absurd (cc)

-- more lines, behind which nothing is told any more
front_stays : (setup : ChannelSetup) (front all : List (Numbered (List ℕ))) (fault : ℕ × LineFault) → IsFrontOf front all → fault_in (told_in setup front) ≡ Some fault → told_in setup all ≡ told_in setup front
front_stays setup front all fault stands e = ap (told_in setup) stands.is ∙ told_append setup front stands.rest ∙ unless_some (told_in setup front) (told_in setup stands.rest) fault e

pub told_stays : (setup : ChannelSetup) (bytes more : List ℕ) (fault : ℕ × LineFault) → fault_of setup bytes ≡ Some fault → told_of setup (bytes ++ more) ≡ told_of setup bytes
unfolding told_of fault_of
told_stays setup bytes more fault e = front_stays setup (lines_of bytes) (lines_of (bytes ++ more)) fault (lines_front bytes more) e

pub whole_told_stays : (setup : ChannelSetup) (bytes : List ℕ) (fault : ℕ × LineFault) → fault_of setup bytes ≡ Some fault → whole_told_of setup bytes ≡ told_of setup bytes
unfolding told_of whole_told_of fault_of
whole_told_stays setup bytes fault e = front_stays setup (lines_of bytes) (whole_lines_of bytes) fault (whole_front bytes) e

-- more lines, where no fault was told
pub told_more : (setup : ChannelSetup) (bytes after : List ℕ) (lines : List (Numbered (List ℕ))) → fault_of setup bytes ≡ None → lines_of after ≡ lines_of bytes ++ lines → told_of setup after ≡ told_of setup bytes ++ told_in setup lines
unfolding told_of fault_of
told_more setup bytes after lines none e = ap (told_in setup) e ∙ told_append setup (lines_of bytes) lines ∙ unless_none (told_in setup (lines_of bytes)) (told_in setup lines) none

pub whole_told_more : (setup : ChannelSetup) (bytes : List ℕ) (lines : List (Numbered (List ℕ))) → fault_of setup bytes ≡ None → whole_lines_of bytes ≡ lines_of bytes ++ lines → whole_told_of setup bytes ≡ told_of setup bytes ++ told_in setup lines
unfolding told_of whole_told_of fault_of
whole_told_more setup bytes lines none e = ap (told_in setup) e ∙ told_append setup (lines_of bytes) lines ∙ unless_none (told_in setup (lines_of bytes)) (told_in setup lines) none

-- ---- answers

pub answers_same : (setup : ChannelSetup) (bytes after : List ℕ) → told_of setup after ≡ told_of setup bytes → answers_of setup after ≡ answers_of setup bytes
unfolding answers_of
answers_same setup bytes after e = ap (map (λ t. t.1)) e

pub answers_more : (setup : ChannelSetup) (bytes after : List ℕ) (more : List (Numbered Message)) → told_of setup after ≡ told_of setup bytes ++ more → answers_of setup after ≡ answers_of setup bytes ++ map (λ t. t.1) more
unfolding answers_of
answers_more setup bytes after more e = ap (map (λ t. t.1)) e ∙ map-append (λ t. t.1) (told_of setup bytes) more

pub whole_answers_same : (setup : ChannelSetup) (bytes : List ℕ) → whole_told_of setup bytes ≡ told_of setup bytes → whole_answers_of setup bytes ≡ answers_of setup bytes
unfolding answers_of whole_answers_of
whole_answers_same setup bytes e = ap (map (λ t. t.1)) e

pub whole_answers_more : (setup : ChannelSetup) (bytes : List ℕ) (more : List (Numbered Message)) → whole_told_of setup bytes ≡ told_of setup bytes ++ more → whole_answers_of setup bytes ≡ answers_of setup bytes ++ map (λ t. t.1) more
unfolding answers_of whole_answers_of
whole_answers_more setup bytes more e = ap (map (λ t. t.1)) e ∙ map-append (λ t. t.1) (told_of setup bytes) more

-- what is told of a front of lines stands at the front
told_front : (setup : ChannelSetup) (front all : List (Numbered (List ℕ))) (o : Option (ℕ × LineFault)) → IsFrontOf front all → fault_in (told_in setup front) ≡ o → IsFrontOf (told_in setup front) (told_in setup all)
told_front setup front all (Some fault) stands e = record { rest = []; is = front_stays setup front all fault stands e ∙ sym (append-nil (told_in setup front)) }
told_front setup front all None stands e = record {
  rest = told_in setup stands.rest;
  is = ap (told_in setup) stands.is ∙ told_append setup front stands.rest ∙ unless_none (told_in setup front) (told_in setup stands.rest) e;
}

answers_front : (front all : List (Numbered Message)) → IsFrontOf front all → IsFrontOf (map (λ t. t.1) front) (map (λ t. t.1) all)
answers_front front all stands = record { rest = map (λ t. t.1) stands.rest; is = ap (map (λ t. t.1)) stands.is ∙ map-append (λ t. t.1) front stands.rest }

pub answers_grow : (setup : ChannelSetup) (bytes more : List ℕ) → IsFrontOf (answers_of setup bytes) (answers_of setup (bytes ++ more))
unfolding answers_of told_of
answers_grow setup bytes more = answers_front (told_in setup (lines_of bytes)) (told_in setup (lines_of (bytes ++ more))) (told_front setup (lines_of bytes) (lines_of (bytes ++ more)) (fault_in (told_in setup (lines_of bytes))) (lines_front bytes more) refl)

pub whole_answers_grow : (setup : ChannelSetup) (bytes : List ℕ) → IsFrontOf (answers_of setup bytes) (whole_answers_of setup bytes)
unfolding answers_of told_of whole_answers_of whole_told_of
whole_answers_grow setup bytes = answers_front (told_in setup (lines_of bytes)) (told_in setup (whole_lines_of bytes)) (told_front setup (lines_of bytes) (whole_lines_of bytes) (fault_in (told_in setup (lines_of bytes))) (whole_front bytes) refl)

-- behind a fault
pub fault_stays : (setup : ChannelSetup) (bytes more : List ℕ) (fault : ℕ × LineFault) → fault_of setup bytes ≡ Some fault → fault_of setup (bytes ++ more) ≡ Some fault
unfolding fault_of
fault_stays setup bytes more fault e = ap fault_in (told_stays setup bytes more fault e) ∙ e

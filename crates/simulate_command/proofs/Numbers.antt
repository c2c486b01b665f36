-- The numbers of the lines that one more byte ends, and of the last line.
use Rattle.std.proofs.Common.{◌≡◌, ℕ, ◌+◌, ◌==◌, ◌≤◌, Bool, true, false, cond, Option, Some, None, Result, Ok, Err, List, [], ◌∷◌, ◌++◌, map, length, drop, refl, sym, ◌∙◌, ap, arith}
use Rattle.std.proofs.lemmas.Bool.{le-ltb}
use Rattle.std.proofs.lemmas.List.{append-nil, length-append, map-append}
use Rattle.line_base.specs.Steps.{◌>>=◌}
use Rattle.line_base.specs.declared.faults.LineFault.{LineFault}
use Rattle.text_lines.specs.Lines.{ended_lines, open_line, without_cr}
use Rattle.text_lines.specs.Inputs.{Numbered, fault_in, input_limit, lines_from, last_line, lines_of, whole_lines_of, lines_begun, number_at}
use Rattle.text_lines.specs.Readers.{IsOpen}
use Rattle.text_lines.proofs.Cutting.{ended_push, open_push}
use Rattle.text_lines.proofs.Telling.{unless_none, lines_append, fault_behind}
use Rattle.text_lines.proofs.Streams.{one_short, lines_open}
use Rattle.text_lines.proofs.Stays.{open_without_fault, lines_front}
use Rattle.receiver_core.specs.declared.message.Message.{Message}
use Rattle.receiver_core.specs.declared.setup.ChannelSetup.{ChannelSetup}
use Rattle.message_lines.specs.Inputs.{said_in, told_with, told_in, told_of, whole_told_of, fault_of, answers_of, whole_answers_of, line_number_of}
use Rattle.message_lines.proofs.Telling.{no_fault_lines, told_more, whole_told_more}

-- answers of the line of one number
abbrev pub numbered : ℕ → List (Result Message LineFault) → List (Numbered Message)
numbered number answers = map (λ (a : Result Message LineFault). (number, a)) answers

-- what is told more has one number
pub record OneNumber (number : ℕ) (told : List (Numbered Message)) : Type 0 where
  pub answers : List (Result Message LineFault)
  pub is : told ≡ numbered number answers

append_cancel : {A : Type 0} (front xs ys : List A) → front ++ xs ≡ front ++ ys → xs ≡ ys
append_cancel [] xs ys e = e
append_cancel (x ∷ front) xs ys e = append_cancel front xs ys (ap (drop 1) e)

plain : (number : ℕ) (answers : List (Result Message LineFault)) → map (λ t. t.1) (numbered number answers) ≡ answers
plain number [] = refl
plain number (answer ∷ answers) = ap (λ others. answer ∷ others) (plain number answers)

-- lines of one number tell what has that number
pub record OneLine (number : ℕ) (lines : List (Numbered (List ℕ))) : Type 0 where
  pub contents : List (Result (List ℕ) LineFault)
  pub few : length contents ≤ 1
  pub is : lines ≡ map (λ (c : Result (List ℕ) LineFault). (number, c)) contents

said_one : (number : ℕ) (said : Result (Option Message) LineFault) → OneNumber number (told_with number said [])
said_one number (Err fault) = record { answers = Err fault ∷ []; is = refl }
said_one number (Ok None) = record { answers = []; is = refl }
said_one number (Ok (Some message)) = record { answers = Ok message ∷ []; is = refl }

one_told : (setup : ChannelSetup) (number : ℕ) (contents : List (Result (List ℕ) LineFault)) → length contents ≤ 1 → OneNumber number (told_in setup (map (λ (c : Result (List ℕ) LineFault). (number, c)) contents))
unfolding told_in
one_told setup number [] few = record { answers = []; is = refl }
one_told setup number (content ∷ []) few = said_one number (content >>= said_in setup)
one_told setup number (content ∷ next ∷ contents) few = absurd (omega arith)

line_told : (setup : ChannelSetup) (number : ℕ) (lines : List (Numbered (List ℕ))) → OneLine number lines → OneNumber number (told_in setup lines)
line_told setup number lines one =
    let told = one_told setup number one.contents one.few in
    record { answers = told.answers; is = ap (told_in setup) one.is ∙ told.is }

-- ---- the lines that are more

-- lines behind others
pub record LinesMore (front all : List (Numbered (List ℕ))) (number : ℕ) : Type 0 where
  pub more : List (Numbered (List ℕ))
  pub is : all ≡ front ++ more
  pub one : OneLine number more

nothing_more : (front all : List (Numbered (List ℕ))) (number : ℕ) → all ≡ front → LinesMore front all number
nothing_more front all number e = record { more = []; is = e ∙ sym (append-nil front); one = record { contents = []; few = omega arith; is = refl } }

one_more : (lines : List (List ℕ)) (line : List ℕ) (number : ℕ) → fault_in (lines_from 1 lines) ≡ None → length line ≤ 512 → 1 + length lines ≡ number → LinesMore (lines_from 1 lines) (lines_from 1 (lines ++ line ∷ [])) number
one_more lines line number none short e = record {
  more = (number, Ok (without_cr line)) ∷ [];
  is = lines_append 1 lines (line ∷ []) ∙ unless_none (lines_from 1 lines) (lines_from (1 + length lines) (line ∷ [])) none
      ∙ ap (λ ls. lines_from 1 lines ++ ls) (ap (λ n. lines_from n (line ∷ [])) e ∙ one_short number line short);
  one = record { contents = Ok (without_cr line) ∷ []; few = omega arith; is = refl };
}

begun_of : (bytes : List ℕ) (lines : List (List ℕ)) (line : List ℕ) → ended_lines bytes ≡ lines → open_line bytes ≡ line → lines_begun bytes ≡ length lines + length (last_line line)
begun_of bytes lines line e f = ap (λ ls. length ls + length (last_line (open_line bytes))) e ∙ ap (λ l. length lines + length (last_line l)) f

by_test : (bytes later : List ℕ) (byte : ℕ) (t : Bool) → fault_in (lines_from 1 (ended_lines bytes)) ≡ None → length (open_line bytes) ≤ 512
    → ended_lines later ≡ ended_lines bytes ++ cond t (open_line bytes ∷ []) [] → open_line later ≡ cond t [] (open_line bytes ++ byte ∷ []) → LinesMore (lines_from 1 (ended_lines bytes)) (lines_from 1 (ended_lines later)) (lines_begun later)
by_test bytes later byte true none short ended opened =
    let lines = ended_lines bytes in
    let count = begun_of later (lines ++ open_line bytes ∷ []) [] ended opened in
    let both : length (lines ++ open_line bytes ∷ []) ≡ length lines + 1 = length-append lines (open_line bytes ∷ []) in
    let last = one_more lines (open_line bytes) (lines_begun later) none short (omega (arith, count, both)) in
    record { more = last.more; is = ap (lines_from 1) ended ∙ last.is; one = last.one }
by_test bytes later byte false none short ended opened = nothing_more (lines_from 1 (ended_lines bytes)) (lines_from 1 (ended_lines later)) (lines_begun later) (ap (lines_from 1) (ended ∙ append-nil (ended_lines bytes)))

-- one more byte, where there is no fault
byte_lines : (bytes : List ℕ) (byte : ℕ) → IsOpen bytes → IsOpen (bytes ++ byte ∷ []) → LinesMore (lines_of bytes) (lines_of (bytes ++ byte ∷ [])) (lines_begun (bytes ++ byte ∷ []))
byte_lines bytes byte before after =
    let more = by_test bytes (bytes ++ byte ∷ []) byte (byte == 10) before.no_fault before.short (ended_push bytes byte) (open_push bytes byte) in
    record { more = more.more; is = lines_open (bytes ++ byte ∷ []) after ∙ more.is ∙ ap (λ ls. ls ++ more.more) (sym (lines_open bytes before)); one = more.one }

-- the last line
whole_within : (bytes : List ℕ) → IsOpen bytes → whole_lines_of bytes ≡ lines_from 1 (ended_lines bytes ++ last_line (open_line bytes))
unfolding whole_lines_of
whole_within bytes before = ap (λ t. cond t (lines_of bytes) (lines_from 1 (ended_lines bytes ++ last_line (open_line bytes)))) (le-ltb input_limit (length bytes) before.within)

last_lines : (lines : List (List ℕ)) (line : List ℕ) (number : ℕ) → fault_in (lines_from 1 lines) ≡ None → length line ≤ 512 → number ≡ length lines + length (last_line line) → LinesMore (lines_from 1 lines) (lines_from 1 (lines ++ last_line line)) number
last_lines lines [] number none short count = nothing_more (lines_from 1 lines) (lines_from 1 (lines ++ [])) number (ap (lines_from 1) (append-nil lines))
last_lines lines (byte ∷ bytes) number none short count = one_more lines (byte ∷ bytes) number none short (omega (arith, count))

end_lines : (bytes : List ℕ) → IsOpen bytes → LinesMore (lines_of bytes) (whole_lines_of bytes) (lines_begun bytes)
end_lines bytes before =
    let more = last_lines (ended_lines bytes) (open_line bytes) (lines_begun bytes) before.no_fault before.short refl in
    record { more = more.more; is = whole_within bytes before ∙ more.is ∙ ap (λ ls. ls ++ more.more) (sym (lines_open bytes before)); one = more.one }

-- ---- what is told more

open_of : (setup : ChannelSetup) (bytes : List ℕ) → fault_of setup bytes ≡ None → IsOpen bytes
unfolding fault_of told_of
open_of setup bytes none = open_without_fault bytes (no_fault_lines setup (lines_of bytes) none)

-- bytes without a fault may stand in lines
pub within-limit : (setup : ChannelSetup) (bytes : List ℕ) → fault_of setup bytes ≡ None → length bytes ≤ input_limit
within-limit setup bytes none = (open_of setup bytes none).within

number_begun : (setup : ChannelSetup) (bytes : List ℕ) → fault_of setup bytes ≡ None → line_number_of setup bytes ≡ lines_begun bytes
unfolding line_number_of
number_begun setup bytes none = ap (λ f. number_at f (lines_begun bytes)) none

answers_more : (setup : ChannelSetup) (bytes later : List ℕ) (more : List (Numbered Message)) (answers : List (Result Message LineFault)) → told_of setup later ≡ told_of setup bytes ++ more → answers_of setup later ≡ answers_of setup bytes ++ answers → map (λ t. t.1) more ≡ answers
unfolding answers_of
answers_more setup bytes later more answers told grows =
    append_cancel (map (λ t. t.1) (told_of setup bytes)) (map (λ t. t.1) more) answers (sym (map-append (λ t. t.1) (told_of setup bytes) more) ∙ sym (ap (map (λ t. t.1)) told) ∙ grows)

whole_answers_more : (setup : ChannelSetup) (bytes : List ℕ) (more : List (Numbered Message)) (answers : List (Result Message LineFault)) → whole_told_of setup bytes ≡ told_of setup bytes ++ more → whole_answers_of setup bytes ≡ answers_of setup bytes ++ answers → map (λ t. t.1) more ≡ answers
unfolding answers_of whole_answers_of
whole_answers_more setup bytes more answers told grows =
    append_cancel (map (λ t. t.1) (told_of setup bytes)) (map (λ t. t.1) more) answers (sym (map-append (λ t. t.1) (told_of setup bytes) more) ∙ sym (ap (map (λ t. t.1)) told) ∙ grows)

same_answers : (number : ℕ) (more : List (Numbered Message)) (answers : List (Result Message LineFault)) → OneNumber number more → map (λ t. t.1) more ≡ answers → more ≡ numbered number answers
same_answers number more answers one e = one.is ∙ ap (numbered number) (sym (plain number one.answers) ∙ sym (ap (map (λ t. t.1)) one.is) ∙ e)

-- one more byte, behind which there is no fault: what is told more has the number of its line
pub told-byte : (setup : ChannelSetup) (bytes : List ℕ) (byte : ℕ) (answers : List (Result Message LineFault)) → fault_of setup bytes ≡ None → fault_of setup (bytes ++ byte ∷ []) ≡ None → answers_of setup (bytes ++ byte ∷ []) ≡ answers_of setup bytes ++ answers
    → told_of setup (bytes ++ byte ∷ []) ≡ told_of setup bytes ++ numbered (line_number_of setup (bytes ++ byte ∷ [])) answers
told-byte setup bytes byte answers none later_none grows =
    let later = bytes ++ byte ∷ [] in
    let lines = byte_lines bytes byte (open_of setup bytes none) (open_of setup later later_none) in
    let told = told_more setup bytes later lines.more none lines.is in
    told ∙ ap (λ ts. told_of setup bytes ++ ts) (same_answers (lines_begun later) (told_in setup lines.more) answers (line_told setup (lines_begun later) lines.more lines.one) (answers_more setup bytes later (told_in setup lines.more) answers told grows)
    ∙ ap (λ n. numbered n answers) (sym (number_begun setup later later_none)))

-- the end of the input
pub told-end : (setup : ChannelSetup) (bytes : List ℕ) (answers : List (Result Message LineFault)) → fault_of setup bytes ≡ None → whole_answers_of setup bytes ≡ answers_of setup bytes ++ answers
    → whole_told_of setup bytes ≡ told_of setup bytes ++ numbered (line_number_of setup bytes) answers
told-end setup bytes answers none grows =
    let lines = end_lines bytes (open_of setup bytes none) in
    let told = whole_told_more setup bytes lines.more none lines.is in
    told ∙ ap (λ ts. told_of setup bytes ++ ts) (same_answers (lines_begun bytes) (told_in setup lines.more) answers (line_told setup (lines_begun bytes) lines.more lines.one) (whole_answers_more setup bytes (told_in setup lines.more) answers told grows)
    ∙ ap (λ n. numbered n answers) (sym (number_begun setup bytes none)))

-- a byte behind which a line has a fault
one_fault : (told : List (Numbered Message)) (fault : LineFault) → map (λ t. t.1) told ≡ Err fault ∷ [] → (number : ℕ) × (told ≡ (number, Err fault) ∷ [])
one_fault [] fault e = absurd (cc)
one_fault ((number, answer) ∷ []) fault e = (number, let same : answer ≡ Err fault = cc in ap (λ a. (number, a) ∷ []) same)
one_fault ((number, answer) ∷ next ∷ told) fault e = absurd (cc)

-- what is told of it, and that it is the first fault
pub record FaultTold (setup : ChannelSetup) (bytes later : List ℕ) (fault : LineFault) : Type 0 where
  pub number : ℕ
  pub told : told_of setup later ≡ told_of setup bytes ++ (number, Err fault) ∷ []
  pub is : fault_of setup later ≡ Some (number, fault)

last_fault : (setup : ChannelSetup) (bytes later : List ℕ) (number : ℕ) (fault : LineFault) → fault_of setup bytes ≡ None → told_of setup later ≡ told_of setup bytes ++ (number, Err fault) ∷ [] → fault_of setup later ≡ Some (number, fault)
unfolding fault_of
last_fault setup bytes later number fault none told = ap fault_in told ∙ fault_behind (told_of setup bytes) ((number, Err fault) ∷ []) none

pub told-fault : (setup : ChannelSetup) (bytes : List ℕ) (byte : ℕ) (fault : LineFault) → fault_of setup bytes ≡ None → answers_of setup (bytes ++ byte ∷ []) ≡ answers_of setup bytes ++ Err fault ∷ [] → FaultTold setup bytes (bytes ++ byte ∷ []) fault
told-fault setup bytes byte fault none grows =
    let later = bytes ++ byte ∷ [] in
    let front = lines_front bytes (byte ∷ []) in
    let told = told_more setup bytes later front.rest none front.is in
    let one = one_fault (told_in setup front.rest) fault (answers_more setup bytes later (told_in setup front.rest) (Err fault ∷ []) told grows) in
    let all = told ∙ ap (λ ts. told_of setup bytes ++ ts) one.1 in
    record { number = one.0; told = all; is = last_fault setup bytes later one.0 fault none all }

-- answers without a fault
abbrev pub answers_sound : List (Result Message LineFault) → Type 0
answers_sound [] = Unit {0}
answers_sound (Ok message ∷ answers) = answers_sound answers
answers_sound (Err fault ∷ answers) = ⊥

tail_sound : (answer : Result Message LineFault) (answers : List (Result Message LineFault)) → answers_sound (answer ∷ answers) → answers_sound answers
tail_sound (Ok message) answers sound = sound
tail_sound (Err fault) answers sound = absurd sound

-- answers without a fault leave none
no_fault_more : (told : List (Numbered Message)) (answers : List (Result Message LineFault)) → map (λ t. t.1) told ≡ answers → answers_sound answers → fault_in told ≡ None
no_fault_more [] answers e sound = refl
no_fault_more ((number, Ok message) ∷ told) [] e sound = absurd (cc)
no_fault_more ((number, Ok message) ∷ told) (answer ∷ answers) e sound = no_fault_more told answers (ap (drop 1) e) (tail_sound answer answers sound)
no_fault_more ((number, Err fault) ∷ told) [] e sound = absurd (cc)
no_fault_more ((number, Err fault) ∷ told) (Ok message ∷ answers) e sound = absurd (cc)
no_fault_more ((number, Err fault) ∷ told) (Err own ∷ answers) e sound = absurd sound

pub still-sound : (setup : ChannelSetup) (bytes : List ℕ) (byte : ℕ) (answers : List (Result Message LineFault)) → fault_of setup bytes ≡ None → answers_of setup (bytes ++ byte ∷ []) ≡ answers_of setup bytes ++ answers → answers_sound answers → fault_of setup (bytes ++ byte ∷ []) ≡ None
unfolding fault_of
still-sound setup bytes byte answers none grows sound =
    let later = bytes ++ byte ∷ [] in
    let front = lines_front bytes (byte ∷ []) in
    let told = told_more setup bytes later front.rest none front.is in
    ap fault_in told ∙ fault_behind (told_of setup bytes) (told_in setup front.rest) none
    ∙ no_fault_more (told_in setup front.rest) answers (answers_more setup bytes later (told_in setup front.rest) answers told grows) sound

-- The reader that stands for bytes: its number, its faults, its start and its end.
use Rattle.std.proofs.Common.{◌≡◌, ℕ, zero, suc, ◌+◌, ◌^◌, ◌<◌, Bool, Option, Some, None, Result, Ok, Err, List, [], ◌∷◌, ◌++◌, length, map, get_or, replicate, refl, sym, ◌∙◌, ap, subst, arith}
use Rattle.std.proofs.lemmas.List.{append-nil, map-append}
use Rattle.line_base.specs.declared.edge.Edge.{Edge}
use Rattle.line_base.specs.declared.faults.LineFault.{LineFault}
use Rattle.text_lines.specs.Lines.{ended_lines, open_line}
use Rattle.edge_trace.specs.EdgeLists.{AtStart, Read, Told, told_row, told_with, standing_after}
use Rattle.edge_trace.specs.Limits.{told_of, whole_told_of, fault_in, fault_of, answers_of, whole_answers_of, line_number_of}
use Rattle.text_lines.specs.Inputs.{input_limit, last_line, lines_begun, number_at}
use Rattle.edge_trace.specs.Readings.{HasLevels}
use Rattle.edge_trace.specs.Readers.{number_in, IsOpen, GoesOn, HasStopped, GoesOnOrStopped, StandsFor, HasEnded, answers_of_read, Takes}
use Rattle.edge_trace.specs.declared.state.State.{State}
use Rattle.edge_trace.specs.declared.state.State.TheVariants as state
use Rattle.edge_trace.specs.declared.reader.EdgeReader.{EdgeReader}
use Rattle.edge_trace.proofs.Streams.{no_fault_open, number_open, last_one}
use Rattle.edge_trace.proofs.Laws.{not_both, told_stays, whole_stays}

-- a reader that goes on or has stopped
pub stands_going : (reader : EdgeReader) (now : State) (bytes : List ℕ) → reader.state ≡ Some now → GoesOn reader now bytes → StandsFor reader bytes
unfolding StandsFor
stands_going reader now bytes e going = subst (λ (s : Option State). GoesOnOrStopped reader s bytes) (sym e) going

pub stands_stopped : (reader : EdgeReader) (bytes : List ℕ) → reader.state ≡ None → HasStopped reader bytes → StandsFor reader bytes
unfolding StandsFor
stands_stopped reader bytes e stopped = subst (λ (s : Option State). GoesOnOrStopped reader s bytes) (sym e) stopped

pub going_of : (reader : EdgeReader) (now : State) (bytes : List ℕ) → StandsFor reader bytes → reader.state ≡ Some now → GoesOn reader now bytes
unfolding StandsFor
going_of reader now bytes stands e = subst (λ (s : Option State). GoesOnOrStopped reader s bytes) e stands

pub stopped_of : (reader : EdgeReader) (bytes : List ℕ) → StandsFor reader bytes → reader.state ≡ None → HasStopped reader bytes
unfolding StandsFor
stopped_of reader bytes stands e = subst (λ (s : Option State). GoesOnOrStopped reader s bytes) e stands

-- the number of the line, by whether it has bytes
empty_last : (line : List ℕ) → length line ≡ 0 → length (last_line line) ≡ 0
empty_last [] e = refl
empty_last (byte ∷ bytes) e = absurd (omega arith)

pub between_lines : (reader : EdgeReader) → length reader.line ≡ 0 → reader.ended ≡ number_in reader
between_lines reader e = let none = empty_last reader.line e in omega arith

pub within_line : (reader : EdgeReader) → (length reader.line ≡ 0 → ⊥) → reader.ended + 1 ≡ number_in reader
within_line reader ne = let one : length (last_line reader.line) ≡ 1 = ap length (last_one reader.line ne) in omega arith

pub limit_is : input_limit ≡ 68719476735
unfolding input_limit
limit_is = refl

pub number_cases : (reader : EdgeReader) (s : Option State) (bytes : List ℕ) → GoesOnOrStopped reader s bytes → (number_in reader ≡ line_number_of bytes) × (reader.ended < 2 ^ 63)
unfolding line_number_of
number_cases reader None bytes stopped = (stopped.at.number_is ∙ sym (ap (λ f. number_at f (lines_begun bytes)) stopped.is), stopped.at.small)
number_cases reader (Some now) bytes going = (
  ap (λ n. n + length (last_line reader.line)) going.ended_is ∙ ap (λ line. length (ended_lines bytes) + length (last_line line)) going.line_is ∙ number_open bytes going.standing going.is_open,
  (let few = going.few in let within = going.is_open.within in let limit = limit_is in omega arith),
)

pub number_of_line : (reader : EdgeReader) (bytes : List ℕ) → StandsFor reader bytes → (number_in reader ≡ line_number_of bytes) × (reader.ended < 2 ^ 63)
unfolding StandsFor
number_of_line reader bytes stands = number_cases reader reader.state bytes stands

-- a reader that stands for bytes with a fault has ended at its line
ended_cases : (reader : EdgeReader) (s : Option State) (bytes : List ℕ) (number : ℕ) (fault : LineFault) → GoesOnOrStopped reader s bytes → fault_of bytes ≡ Some (number, fault) → HasEnded reader number
ended_cases reader None bytes number fault stopped f =
    let same : Some stopped.fault ≡ Some (number, fault) = sym stopped.is ∙ f in
    let both : stopped.fault ≡ (number, fault) = cc in
    subst (HasEnded reader) (ap (λ (p : ℕ × LineFault). p.0) both) stopped.at
ended_cases reader (Some now) bytes number fault going f = absurd (not_both (fault_of bytes) (number, fault) f (no_fault_open bytes going.standing going.is_open))

pub ended_at_fault : (reader : EdgeReader) (bytes : List ℕ) (number : ℕ) (fault : LineFault) → StandsFor reader bytes → fault_of bytes ≡ Some (number, fault) → HasEnded reader number
unfolding StandsFor
ended_at_fault reader bytes number fault stands f = ended_cases reader reader.state bytes number fault stands f

-- answers to what is told more
pub answers_more : (bytes after : List ℕ) (more : List Told) → told_of after ≡ told_of bytes ++ more → answers_of after ≡ answers_of bytes ++ map (λ t. t.1) more
unfolding answers_of
answers_more bytes after more e = ap (map (λ t. t.1)) e ∙ map-append (λ t. t.1) (told_of bytes) more

pub answers_same : (bytes after : List ℕ) → told_of after ≡ told_of bytes → answers_of after ≡ answers_of bytes ++ []
unfolding answers_of
answers_same bytes after e = ap (map (λ t. t.1)) e ∙ sym (append-nil (map (λ t. t.1) (told_of bytes)))

pub whole_more : (bytes : List ℕ) (more : List Told) → whole_told_of bytes ≡ told_of bytes ++ more → whole_answers_of bytes ≡ answers_of bytes ++ map (λ t. t.1) more
unfolding answers_of whole_answers_of
whole_more bytes more e = ap (map (λ t. t.1)) e ∙ map-append (λ t. t.1) (told_of bytes) more

pub whole_same : (bytes : List ℕ) → whole_told_of bytes ≡ told_of bytes → whole_answers_of bytes ≡ answers_of bytes ++ []
unfolding answers_of whole_answers_of
whole_same bytes e = ap (map (λ t. t.1)) e ∙ sym (append-nil (map (λ t. t.1) (told_of bytes)))

row_number : (number : ℕ) (edges : List Edge) → map (λ t. t.1) (told_row number edges) ≡ map (λ t. t.1) (told_row 0 edges)
row_number number [] = refl
row_number number (edge ∷ edges) = refl

-- a row's number doesn't matter to its answer
pub any_number : (number : ℕ) (read : Result Read LineFault) → map (λ t. t.1) (told_with number read (λ _. [])) ≡ answers_of_read read
any_number number (Err fault) = refl
any_number number (Ok read) = ap (map (λ t. t.1)) (append-nil (told_row number read.edges)) ∙ row_number number read.edges ∙ sym (ap (map (λ t. t.1)) (append-nil (told_row 0 read.edges)))

-- a reader that has stopped takes no more
pub stopped_takes : (reader : EdgeReader) (seen : List ℕ) (byte : ℕ) → StandsFor reader seen → reader.state ≡ None → Takes reader seen byte None
unfolding fault_of
stopped_takes reader seen byte stands e =
    let stopped = stopped_of reader seen stands e in
    let same = told_stays seen byte stopped.fault stopped.is in
    record {
      stands = stands_stopped reader (seen ++ byte ∷ []) e (record {
        fault = stopped.fault;
        is = ap fault_in same ∙ stopped.is;
        at = stopped.at;
      });
      grows = answers_same seen (seen ++ byte ∷ []) same;
    }

pub stopped_finishes : (reader : EdgeReader) (seen : List ℕ) → StandsFor reader seen → reader.state ≡ None → whole_answers_of seen ≡ answers_of seen ++ []
stopped_finishes reader seen stands e =
    let stopped = stopped_of reader seen stands e in
    whole_same seen (whole_stays seen stopped.fault stopped.is)

-- a reader that has stopped has ended
pub ended_of : (reader : EdgeReader) (seen : List ℕ) → StandsFor reader seen → reader.state ≡ None → HasEnded reader (line_number_of seen)
ended_of reader seen stands e =
    let stopped = stopped_of reader seen stands e in
    let number = number_of_line reader seen stands in
    record { ended = e; closed = stopped.at.closed; number_is = number.0; small = number.1 }

-- a reader of no bytes
nothing : Option Bool
nothing = None

all_none : (n line : ℕ) → get_or (replicate n nothing) line nothing ≡ nothing
all_none zero line = refl
all_none (suc n) zero = refl
all_none (suc n) (suc line) = all_none n line

open_start : IsOpen [] AtStart
unfolding ended_lines open_line standing_after
open_start = record { within = omega arith; short = omega arith; standing_is = refl }

start_levels : HasLevels (replicate 16 nothing) []
unfolding HasLevels nothing
start_levels = λ line. all_none 16 line

no_line : [] ≡ open_line []
unfolding open_line
no_line = refl

no_ended : 0 ≡ length (ended_lines [])
unfolding ended_lines
no_ended = refl

pub new_stands : (reader : EdgeReader) → reader.state ≡ Some state.Start → reader.line ≡ [] → reader.levels ≡ replicate 16 None → reader.left ≡ 68719476735 → reader.room ≡ 512 → reader.ended ≡ 0 → StandsFor reader []
unfolding nothing
new_stands reader state_is line_is levels_are left_is room_is ended_is =
    let limit = limit_is in
    let none : length (open_line []) ≡ 0 = sym (ap length no_line) in
    stands_going reader state.Start [] state_is (record {
      standing = AtStart;
      is_open = open_start;
      at = record { is = refl; unit_is = tt; levels_are = subst (λ (levels : List (Option Bool)). HasLevels levels []) (sym levels_are) start_levels };
      line_is = line_is ∙ no_line;
      left_is = omega arith;
      room_is = omega arith;
      ended_is = ended_is ∙ no_ended;
      few = omega arith;
    })

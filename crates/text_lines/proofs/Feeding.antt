-- The reader that is fed one more byte, or has come to the end of its input.
use Rattle.std.proofs.Common.{◌≡◌, ℕ, ◌+◌, ◌-◌, ◌<◌, ◌≤◌, min, not, Bool, true, false, Some, None, Ok, Err, List, [], ◌∷◌, ◌++◌, length, refl, sym, ◌∙◌, ap, subst, arith}
use Rattle.std.proofs.lemmas.List.{append-nil, length_push}
use Rattle.line_base.specs.declared.faults.LineFault.{LineFault}
use Rattle.line_base.specs.declared.faults.LineFault.TheVariants.{LineTooLong, InputTooLong}
use Rattle.text_lines.specs.Lines.{ended_lines, open_line, without_cr}
use Rattle.text_lines.specs.Inputs.{fault_in, input_limit, last_line, lines_from, lines_of, whole_lines_of, lines_begun, line_number_of, number_at}
use Rattle.text_lines.specs.Readers.{number_in, content_in, last_in, IsOpen, KeepsLine, GoesOn, IsReady, HasStopped, GoesOnOrStopped, StandsFor, Takes}
use Rattle.text_lines.specs.declared.reader.LineReader.{LineReader}
use Rattle.text_lines.proofs.Telling.{fault_behind}
use Rattle.text_lines.proofs.Streams.{no_fault_open, number_open, last_one, past_limit, too_long, goes_on, open_goes_on, line_on, lines_on, lf_lines, lf_open, ends_line, open_behind, ends_between, ends_within}
use Rattle.text_lines.proofs.Stays.{lines_stay, whole_stays}

pub limit_is : input_limit ≡ 68719476735
unfolding input_limit
limit_is = refl

-- a reader that goes on or has stopped
pub stands_going : (reader : LineReader) (bytes : List ℕ) → reader.closed ≡ false → GoesOn reader bytes → StandsFor reader bytes
unfolding StandsFor
stands_going reader bytes e going = subst (λ (t : Bool). GoesOnOrStopped reader t bytes) (sym e) going

pub stands_stopped : (reader : LineReader) (bytes : List ℕ) → reader.closed ≡ true → HasStopped reader bytes → StandsFor reader bytes
unfolding StandsFor
stands_stopped reader bytes e stopped = subst (λ (t : Bool). GoesOnOrStopped reader t bytes) (sym e) stopped

pub going_of : (reader : LineReader) (bytes : List ℕ) → StandsFor reader bytes → reader.closed ≡ false → GoesOn reader bytes
unfolding StandsFor
going_of reader bytes stands e = subst (λ (t : Bool). GoesOnOrStopped reader t bytes) e stands

pub stopped_of : (reader : LineReader) (bytes : List ℕ) → StandsFor reader bytes → reader.closed ≡ true → HasStopped reader bytes
unfolding StandsFor
stopped_of reader bytes stands e = subst (λ (t : Bool). GoesOnOrStopped reader t bytes) e stands

-- the number of the line
number_cases : (reader : LineReader) (t : Bool) (bytes : List ℕ) → GoesOnOrStopped reader t bytes → number_in reader ≡ line_number_of bytes
unfolding line_number_of number_in
number_cases reader true bytes stopped = stopped.at.number_is ∙ sym (ap (λ f. number_at f (lines_begun bytes)) stopped.is)
number_cases reader false bytes going = going.number_is ∙ number_open bytes going.is_open

pub number_of_line : (reader : LineReader) (bytes : List ℕ) → StandsFor reader bytes → number_in reader ≡ line_number_of bytes
unfolding StandsFor
number_of_line reader bytes stands = number_cases reader reader.closed bytes stands

-- a reader of no bytes
open_start : IsOpen []
unfolding ended_lines open_line lines_from
open_start = record { within = omega arith; short = omega arith; no_fault = refl }

no_line : open_line [] ≡ []
unfolding open_line
no_line = refl

none_begun : 0 ≡ lines_begun []
unfolding ended_lines open_line
none_begun = refl

pub new_stands : (reader : LineReader) → reader.closed ≡ false → reader.fresh ≡ true → reader.left ≡ 68719476735 → reader.number ≡ 0 → StandsFor reader []
new_stands reader goes_on fresh left_is number_is =
    let limit = limit_is in
    stands_going reader [] goes_on (record {
      is_open = open_start;
      goes_on = goes_on;
      line_is = subst (λ (t : Bool). KeepsLine t reader.line (open_line [])) (sym fresh) no_line;
      left_is = omega arith;
      number_is = number_is ∙ none_begun;
      few = omega arith;
    })

-- a reader that has stopped takes no more
pub stopped_stands : (reader : LineReader) (seen : List ℕ) (byte : ℕ) → StandsFor reader seen → reader.closed ≡ true → StandsFor reader (seen ++ byte ∷ [])
stopped_stands reader seen byte stands e =
    let stopped = stopped_of reader seen stands e in
    stands_stopped reader (seen ++ byte ∷ []) e (record {
      fault = stopped.fault;
      is = ap fault_in (lines_stay seen byte stopped.fault stopped.is) ∙ stopped.is;
      at = stopped.at;
    })

pub stopped_grows : (reader : LineReader) (seen : List ℕ) (byte : ℕ) → StandsFor reader seen → reader.closed ≡ true → lines_of (seen ++ byte ∷ []) ≡ lines_of seen ++ []
stopped_grows reader seen byte stands e =
    let stopped = stopped_of reader seen stands e in
    lines_stay seen byte stopped.fault stopped.is ∙ sym (append-nil (lines_of seen))

pub stopped_finishes : (reader : LineReader) (seen : List ℕ) → StandsFor reader seen → reader.closed ≡ true → whole_lines_of seen ≡ lines_of seen ++ []
stopped_finishes reader seen stands e =
    let stopped = stopped_of reader seen stands e in
    whole_stays seen stopped.fault stopped.is ∙ sym (append-nil (lines_of seen))

-- a line that is begun, or not
pub begun_line : (reader : LineReader) (seen : List ℕ) → GoesOn reader seen → reader.fresh ≡ false → (reader.line ≡ open_line seen) × (0 < length (open_line seen))
begun_line reader seen going e = subst (λ (t : Bool). KeepsLine t reader.line (open_line seen)) e going.line_is

pub fresh_line : (reader : LineReader) (seen : List ℕ) → GoesOn reader seen → reader.fresh ≡ true → open_line seen ≡ []
fresh_line reader seen going e = subst (λ (t : Bool). KeepsLine t reader.line (open_line seen)) e going.line_is

one_begun : (seen : List ℕ) → 0 < length (open_line seen) → lines_begun seen ≡ length (ended_lines seen) + 1
one_begun seen some =
    let one : length (last_line (open_line seen)) ≡ 1 = ap length (last_one (open_line seen) (λ e. omega (arith, e, some))) in
    omega arith

none_open : (seen : List ℕ) → open_line seen ≡ [] → lines_begun seen ≡ length (ended_lines seen)
none_open seen e =
    let none : length (last_line (open_line seen)) ≡ 0 = ap (λ line. length (last_line line)) e in
    omega arith

-- the line of the next byte is begun
pub begins : (old new : LineReader) (seen : List ℕ) → GoesOn old seen → old.fresh ≡ true → new.fresh ≡ false → new.closed ≡ old.closed → new.line ≡ [] → new.left ≡ old.left → new.number ≡ min (old.number + 1) 18446744073709551615 → IsReady new seen
begins old new seen going fresh begun same line_is left_is number_is =
    let line = fresh_line old seen going fresh in
    let limit = limit_is in
    let within = going.is_open.within in
    let few = going.few in
    let own_left = going.left_is in
    let own : old.number ≡ length (ended_lines seen) = going.number_is ∙ none_open seen line in
    record {
      is_open = going.is_open;
      goes_on = same ∙ going.goes_on;
      is_begun = begun;
      line_is = line_is ∙ sym line;
      left_is = omega arith;
      number_is = omega arith;
      few = omega arith;
    }

pub is_begun : (reader : LineReader) (seen : List ℕ) → GoesOn reader seen → reader.fresh ≡ false → IsReady reader seen
is_begun reader seen going e =
    let line = begun_line reader seen going e in
    let few = going.few in
    record {
      is_open = going.is_open;
      goes_on = going.goes_on;
      is_begun = e;
      line_is = line.0;
      left_is = going.left_is;
      number_is = going.number_is ∙ one_begun seen line.1;
      few = omega arith;
    }

-- ---- one more byte
module _ (old : LineReader) (seen : List ℕ) (ready : IsReady old seen) where
  same_number : (new : LineReader) → new.number ≡ old.number → number_in new ≡ length (ended_lines seen) + 1
  unfolding number_in
  same_number new e = e ∙ ready.number_is

  -- the reader has stopped at a fault
  stops_at : (new : LineReader) (byte number : ℕ) (fault : LineFault) → number ≡ length (ended_lines seen) + 1 → lines_of (seen ++ byte ∷ []) ≡ lines_of seen ++ (number, Err fault) ∷ [] → new.closed ≡ true → new.number ≡ old.number → Takes new seen byte (Some (Err fault))
  stops_at new byte number fault is told closed same = record {
    stands = stands_stopped new (seen ++ byte ∷ []) closed (record {
      fault = (number, fault);
      is = ap fault_in told ∙ fault_behind (lines_of seen) ((number, Err fault) ∷ []) (no_fault_open seen ready.is_open);
      at = record { is_closed = closed; number_is = same_number new same ∙ sym is };
    });
    grows = told ∙ ap (λ n. lines_of seen ++ (n, Err fault) ∷ []) (is ∙ sym (same_number new same));
  }

  pub takes_past : (new : LineReader) (byte : ℕ) → old.left ≡ 0 → new.closed ≡ true → new.number ≡ old.number → Takes new seen byte (Some (Err InputTooLong))
  takes_past new byte none closed same =
      let left_is = ready.left_is in
      stops_at new byte (length (ended_lines seen) + 1) InputTooLong refl (past_limit seen ready.is_open byte (omega arith)) closed same

  room : (old.left ≡ 0 → ⊥) → length seen < input_limit
  room some =
      let left_is = ready.left_is in
      omega arith

  pub takes_too_long : (new : LineReader) (byte : ℕ) → (old.left ≡ 0 → ⊥) → (byte ≡ 10 → ⊥) → 512 ≤ length old.line → new.closed ≡ true → new.number ≡ old.number → Takes new seen byte (Some (Err LineTooLong))
  takes_too_long new byte some other full closed same =
      let long = ap length ready.line_is in
      stops_at new byte (1 + length (ended_lines seen)) LineTooLong (omega arith) (too_long seen ready.is_open byte (room some) other (omega arith)) closed same

  -- an LF
  same_content : (new : LineReader) → new.line ≡ old.line → content_in new ≡ without_cr (open_line seen)
  unfolding content_in
  same_content new e = ap without_cr (e ∙ ready.line_is)

  takes_lf_itself : (new : LineReader) → (old.left ≡ 0 → ⊥) → new.closed ≡ old.closed → new.fresh ≡ true → new.line ≡ old.line → new.left ≡ old.left - 1 → new.number ≡ old.number → Takes new seen 10 (Some (Ok tt))
  takes_lf_itself new some open_is fresh line_is left_is same =
      let own_left = ready.left_is in
      let few = ready.few in
      let more : length (seen ++ 10 ∷ []) ≡ length seen + 1 = length_push seen 10 in
      let line : open_line (seen ++ 10 ∷ []) ≡ [] = lf_open seen ready.is_open in
      let lines : length (ended_lines (seen ++ 10 ∷ [])) ≡ length (ended_lines seen) + 1 = ap length (lf_lines seen ready.is_open) ∙ length_push (ended_lines seen) (open_line seen) in
      let number : number_in new ≡ 1 + length (ended_lines seen) = same_number new same ∙ omega arith in
      record {
        stands = stands_going new (seen ++ 10 ∷ []) (open_is ∙ ready.goes_on) (record {
          is_open = open_behind seen ready.is_open (room some);
          goes_on = open_is ∙ ready.goes_on;
          line_is = subst (λ (t : Bool). KeepsLine t new.line (open_line (seen ++ 10 ∷ []))) (sym fresh) line;
          left_is = omega arith;
          number_is = same ∙ ready.number_is ∙ sym (none_open (seen ++ 10 ∷ []) line ∙ lines);
          few = omega arith;
        });
        grows = ends_line seen ready.is_open (room some)
            ∙ ap (λ n. lines_of seen ++ (n, Ok (without_cr (open_line seen))) ∷ []) (sym number)
            ∙ ap (λ (content : List ℕ). lines_of seen ++ (number_in new, Ok content) ∷ []) (sym (same_content new line_is));
      }

  pub takes_lf : (new : LineReader) (byte : ℕ) → byte ≡ 10 → (old.left ≡ 0 → ⊥) → new.closed ≡ old.closed → new.fresh ≡ true → new.line ≡ old.line → new.left ≡ old.left - 1 → new.number ≡ old.number → Takes new seen byte (Some (Ok tt))
  takes_lf new byte lf some open_is fresh line_is left_is same = subst (λ (b : ℕ). Takes new seen b (Some (Ok tt))) (sym lf) (takes_lf_itself new some open_is fresh line_is left_is same)

  -- a byte within its line
  pub takes_byte : (new : LineReader) (byte : ℕ) → (old.left ≡ 0 → ⊥) → (byte ≡ 10 → ⊥) → length old.line < 512 → new.closed ≡ old.closed → new.fresh ≡ old.fresh → new.line ≡ old.line ++ byte ∷ [] → new.left ≡ old.left - 1 → new.number ≡ old.number → Takes new seen byte None
  takes_byte new byte some other short open_is begun line_is left_is same =
      let long = ap length ready.line_is in
      let own_left = ready.left_is in
      let few = ready.few in
      let fits : length (open_line seen) < 512 = omega arith in
      let line = line_on seen ready.is_open byte other in
      let longer : length (open_line (seen ++ byte ∷ [])) ≡ length (open_line seen) + 1 = ap length line ∙ length_push (open_line seen) byte in
      let more : length (seen ++ byte ∷ []) ≡ length seen + 1 = length_push seen byte in
      record {
        stands = stands_going new (seen ++ byte ∷ []) (open_is ∙ ready.goes_on) (record {
          is_open = open_goes_on seen ready.is_open byte (room some) other fits;
          goes_on = open_is ∙ ready.goes_on;
          line_is = subst (λ (t : Bool). KeepsLine t new.line (open_line (seen ++ byte ∷ []))) (sym (begun ∙ ready.is_begun)) (line_is ∙ ap (λ l. l ++ byte ∷ []) ready.line_is ∙ sym line, omega arith);
          left_is = omega arith;
          number_is = same ∙ ready.number_is ∙ ap (λ lines. length lines + 1) (sym (lines_on seen ready.is_open byte other)) ∙ sym (one_begun (seen ++ byte ∷ []) (omega arith));
          few = omega arith;
        });
        grows = goes_on seen ready.is_open byte (room some) other fits ∙ sym (append-nil (lines_of seen));
      }

-- ---- the end of the input
pub finishes_between : (reader : LineReader) (seen : List ℕ) → GoesOn reader seen → reader.fresh ≡ true → whole_lines_of seen ≡ lines_of seen ++ []
finishes_between reader seen going fresh = ends_between seen going.is_open (fresh_line reader seen going fresh) ∙ sym (append-nil (lines_of seen))

pub finishes_within : (old new : LineReader) (seen : List ℕ) → GoesOn old seen → old.fresh ≡ false → new.line ≡ old.line → new.number ≡ old.number → whole_lines_of seen ≡ lines_of seen ++ (number_in new, Ok (content_in new)) ∷ []
unfolding number_in content_in
finishes_within old new seen going begun line_is same =
    let ready = is_begun old seen going begun in
    let line = begun_line old seen going begun in
    let number : new.number ≡ 1 + length (ended_lines seen) = same ∙ ready.number_is ∙ omega arith in
    ends_within seen going.is_open (λ e. (let some = line.1 in omega (arith, e, some)))
    ∙ ap (λ n. lines_of seen ++ (n, Ok (without_cr (open_line seen))) ∷ []) (sym number)
    ∙ ap (λ (l : List ℕ). lines_of seen ++ (new.number, Ok (without_cr l)) ∷ []) (sym (line_is ∙ line.0))

finish_cases : (old new : LineReader) (seen : List ℕ) (t : Bool) → GoesOn old seen → old.fresh ≡ t → new.line ≡ old.line → new.number ≡ old.number → (result : Bool) → result ≡ not t → whole_lines_of seen ≡ lines_of seen ++ last_in new result
finish_cases old new seen true going e line_is same result is = finishes_between old seen going e ∙ ap (λ t. lines_of seen ++ last_in new t) (sym is)
finish_cases old new seen false going e line_is same result is = finishes_within old new seen going e line_is same ∙ ap (λ t. lines_of seen ++ last_in new t) (sym is)

pub finishes : (old new : LineReader) (seen : List ℕ) → GoesOn old seen → new.line ≡ old.line → new.number ≡ old.number → (result : Bool) → result ≡ not old.fresh → whole_lines_of seen ≡ lines_of seen ++ last_in new result
finishes old new seen going line_is same result is = finish_cases old new seen old.fresh going refl line_is same result is

-- the number stays at the end of the input
pub number_stays : (old new : LineReader) (bytes : List ℕ) → StandsFor old bytes → new.number ≡ old.number → number_in new ≡ line_number_of bytes
unfolding number_in
number_stays old new bytes stands same = same ∙ number_of_line old bytes stands

pub number_same : (reader : LineReader) → reader.number ≡ number_in reader
unfolding number_in
number_same reader = refl

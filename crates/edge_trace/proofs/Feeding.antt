-- The reader that is fed one more byte, or has come to the end of its input.
use Rattle.std.proofs.Common.{◌≡◌, ℕ, ◌+◌, ◌-◌, ◌^◌, ◌<◌, ◌≤◌, min, Bool, cond, Option, Some, None, Result, Ok, Err, List, [], ◌∷◌, ◌++◌, length, refl, sym, ◌∙◌, ap, subst, arith}
use Rattle.std.proofs.lemmas.Bool.{ne_eqb}
use Rattle.std.proofs.lemmas.List.{append-nil, length_push}
use Rattle.line_base.specs.declared.faults.LineFault.{LineFault}
use Rattle.line_base.specs.declared.faults.LineFault.TheVariants.{LineTooLong, InputTooLong}
use Rattle.text_lines.specs.Lines.{ended_lines, open_line, without_cr}
use Rattle.edge_trace.specs.EdgeLists.{Read, content_read, told_with}
use Rattle.edge_trace.specs.Limits.{told_of, fault_in, fault_of, answers_of, whole_answers_of, line_number_of}
use Rattle.text_lines.specs.Inputs.{input_limit}
use Rattle.edge_trace.specs.Readings.{IsAt}
use Rattle.edge_trace.specs.Readers.{answers_in, number_in, GoesOn, GoesOnOrStopped, StandsFor, HasEnded, answers_of_read, IsBehind, EndsLine, Takes}
use Rattle.edge_trace.specs.declared.state.State.{State}
use Rattle.edge_trace.specs.declared.row.Row.{Row}
use Rattle.edge_trace.specs.declared.reader.EdgeReader.{EdgeReader}
use Rattle.edge_trace.proofs.Telling.{fault_behind}
use Rattle.text_lines.proofs.Cutting.{ended_push, open_push}
use Rattle.edge_trace.proofs.Streams.{no_fault_open, past_limit, too_long, goes_on, open_goes_on, ends_line, open_behind, ends_between, ends_within}
use Rattle.edge_trace.proofs.StandingFor.{stands_going, stands_stopped, between_lines, within_line, limit_is, number_cases, answers_more, answers_same, whole_more, whole_same, any_number}

module _ (old : EdgeReader) (now : State) (seen : List ℕ) (going : GoesOn old now seen) where
  -- how much was taken
  full : old.left ≤ length old.line → length seen ≡ input_limit
  full none =
      let within = going.is_open.within in
      let left_is = going.left_is in
      let long = ap length going.line_is in
      omega arith

  room : length old.line < old.left → length seen < input_limit
  room some =
      let left_is = going.left_is in
      let long = ap length going.line_is in
      omega arith

  next_ended : (ended : ℕ) → ended ≡ min (old.ended + 1) 18446744073709551615 → (ended ≡ length (ended_lines seen) + 1) × (ended < 2 ^ 63)
  next_ended ended e =
      let few = going.few in
      let within = going.is_open.within in
      let limit = limit_is in
      let ended_is = going.ended_is in
      (omega arith, omega arith)

  -- the reader has stopped at a fault of the line of the last byte
  stopped_at : (new : EdgeReader) (line : ℕ) → new.state ≡ None → new.room ≡ 0 → new.line ≡ [] → new.ended ≡ min (old.ended + 1) 18446744073709551615 → line ≡ length (ended_lines seen) + 1 → HasEnded new line
  stopped_at new line state_is closed line_is ended_is same =
      let next = next_ended new.ended ended_is in
      let next_is = next.0 in
      record {
        ended = state_is;
        closed = closed;
        number_is = sym (between_lines new (ap length line_is)) ∙ omega arith;
        small = next.1;
      }

  stops_at : (new : EdgeReader) (byte line : ℕ) (fault : LineFault) → told_of (seen ++ byte ∷ []) ≡ told_of seen ++ (line, Err fault) ∷ [] → HasEnded new line → Takes new seen byte (Some (Err fault))
  unfolding fault_of
  stops_at new byte line fault told ended = record {
    stands = stands_stopped new (seen ++ byte ∷ []) ended.ended (record {
      fault = (line, fault);
      is = ap fault_in told ∙ fault_behind (told_of seen) ((line, Err fault) ∷ []) (no_fault_open seen going.standing going.is_open);
      at = ended;
    });
    grows = answers_more seen (seen ++ byte ∷ []) ((line, Err fault) ∷ []) told;
  }

  pub takes_past : (new : EdgeReader) (byte : ℕ) → old.left ≤ length old.line → new.state ≡ None → new.room ≡ 0 → new.line ≡ [] → new.ended ≡ min (old.ended + 1) 18446744073709551615 → Takes new seen byte (Some (Err InputTooLong))
  takes_past new byte none state_is closed line_is ended_is =
      stops_at new byte (length (ended_lines seen) + 1) InputTooLong (past_limit seen going.standing going.is_open byte (full none)) (stopped_at new (length (ended_lines seen) + 1) state_is closed line_is ended_is refl)

  pub takes_too_long : (new : EdgeReader) (byte : ℕ) → length old.line < old.left → (byte ≡ 10 → ⊥) → old.room ≤ length old.line → new.state ≡ None → new.room ≡ 0 → new.line ≡ [] → new.ended ≡ min (old.ended + 1) 18446744073709551615 → Takes new seen byte (Some (Err LineTooLong))
  takes_too_long new byte some other no_room state_is closed line_is ended_is =
      let long = ap length going.line_is in
      let room_is = going.room_is in
      stops_at new byte (1 + length (ended_lines seen)) LineTooLong (too_long seen going.standing going.is_open byte (room some) other (omega arith)) (stopped_at new (1 + length (ended_lines seen)) state_is closed line_is ended_is (omega arith))

  -- a byte within its line
  pub takes_byte : (new : EdgeReader) (byte : ℕ) → (byte ≡ 10 → ⊥) → length old.line < old.room → new.state ≡ Some now → new.levels ≡ old.levels → new.line ≡ old.line ++ byte ∷ [] → new.left ≡ old.left → new.room ≡ old.room → new.ended ≡ old.ended → Takes new seen byte None
  takes_byte new byte other some state_is levels_are line_is left_is room_is ended_is =
      let long = ap length going.line_is in
      let own_room = going.room_is in
      let own_left = going.left_is in
      let own_few = going.few in
      let fits : length (open_line seen) < 512 = omega arith in
      let below : length seen < input_limit = room (omega arith) in
      let t = ne_eqb byte 10 other in
      let lines : ended_lines (seen ++ byte ∷ []) ≡ ended_lines seen = ended_push seen byte ∙ ap (λ t. ended_lines seen ++ cond t (open_line seen ∷ []) []) t ∙ append-nil (ended_lines seen) in
      let line : open_line (seen ++ byte ∷ []) ≡ open_line seen ++ byte ∷ [] = open_push seen byte ∙ ap (λ t. cond t [] (open_line seen ++ byte ∷ [])) t in
      let longer : length (open_line (seen ++ byte ∷ [])) ≡ length (open_line seen) + 1 = ap length line ∙ length_push (open_line seen) byte in
      let more : length (seen ++ byte ∷ []) ≡ length seen + 1 = length_push seen byte in
      record {
        stands = stands_going new now (seen ++ byte ∷ []) state_is (record {
          standing = going.standing;
          is_open = open_goes_on seen going.standing going.is_open byte below other fits;
          at = subst (λ (levels : List (Option Bool)). IsAt now levels going.standing) (sym levels_are) going.at;
          line_is = line_is ∙ ap (λ line. line ++ byte ∷ []) going.line_is ∙ sym line;
          left_is = omega arith;
          room_is = omega arith;
          ended_is = ended_is ∙ going.ended_is ∙ sym (ap length lines);
          few = omega arith;
        });
        grows = answers_same seen (seen ++ byte ∷ []) (goes_on seen going.standing going.is_open byte below other fits);
      }

  -- an LF
  lf_stands : (new : EdgeReader) (read : Result Read LineFault) → length old.line < old.left → content_read going.standing (without_cr (open_line seen)) ≡ read → IsBehind new read → new.line ≡ [] → new.ended ≡ min (old.ended + 1) 18446744073709551615 → new.left ≡ old.left - (length old.line + 1) → StandsFor new (seen ++ 10 ∷ [])
  unfolding fault_of
  lf_stands new (Err fault) some e behind line_is ended_is left_is = stands_stopped new (seen ++ 10 ∷ []) behind.0 (record {
    fault = (1 + length (ended_lines seen), fault);
    is = ap fault_in (ends_line seen going.standing going.is_open (room some)) ∙ fault_behind (told_of seen) _ (no_fault_open seen going.standing going.is_open)
        ∙ ap (λ r. fault_in (told_with (1 + length (ended_lines seen)) r (λ _. []))) e;
    at = stopped_at new (1 + length (ended_lines seen)) behind.0 behind.1 line_is ended_is (omega arith);
  })
  lf_stands new (Ok read) some e behind line_is ended_is left_is =
      let long = ap length going.line_is in
      let own_left = going.left_is in
      let own_few = going.few in
      let next = next_ended new.ended ended_is in
      let next_is = next.0 in
      let more : length (seen ++ 10 ∷ []) ≡ length seen + 1 = length_push seen 10 in
      let none : length (open_line (seen ++ 10 ∷ [])) ≡ 0 = ap length (open_push seen 10) in
      let own_ended = going.ended_is in
      let lines : length (ended_lines (seen ++ 10 ∷ [])) ≡ length (ended_lines seen) + 1 = ap length (ended_push seen 10) ∙ length_push (ended_lines seen) (open_line seen) in
      stands_going new behind.0 (seen ++ 10 ∷ []) behind.1 (record {
        standing = read.standing;
        is_open = open_behind seen going.standing going.is_open read (room some) e;
        at = behind.2;
        line_is = line_is ∙ sym (open_push seen 10);
        left_is = omega arith;
        room_is = behind.3;
        ended_is = omega arith;
        few = omega arith;
      })

  same_read : content_read going.standing (without_cr old.line) ≡ content_read going.standing (without_cr (open_line seen))
  same_read = ap (λ line. content_read going.standing (without_cr line)) going.line_is

  takes_lf_itself : (new : EdgeReader) (result : Option (Result Row LineFault)) → length old.line < old.left → EndsLine new (content_read going.standing (without_cr old.line)) result → new.line ≡ [] → new.ended ≡ min (old.ended + 1) 18446744073709551615 → new.left ≡ old.left - (length old.line + 1) → Takes new seen 10 result
  takes_lf_itself new result some ends line_is ended_is left_is = record {
    stands = lf_stands new (content_read going.standing (without_cr (open_line seen))) some refl (subst (IsBehind new) same_read ends.behind) line_is ended_is left_is;
    grows = answers_more seen (seen ++ 10 ∷ []) _ (ends_line seen going.standing going.is_open (room some))
        ∙ ap (λ answers. answers_of seen ++ answers) (any_number (1 + length (ended_lines seen)) (content_read going.standing (without_cr (open_line seen))) ∙ ap answers_of_read (sym same_read) ∙ sym ends.answered);
  }

  pub lf_is_behind : (new : EdgeReader) → length old.line < old.left → IsBehind new (content_read going.standing (without_cr old.line)) → new.line ≡ [] → new.ended ≡ min (old.ended + 1) 18446744073709551615 → new.left ≡ old.left - (length old.line + 1) → StandsFor new (seen ++ 10 ∷ [])
  lf_is_behind new some behind line_is ended_is left_is = lf_stands new (content_read going.standing (without_cr (open_line seen))) some refl (subst (IsBehind new) same_read behind) line_is ended_is left_is

  pub lf_answers : length old.line < old.left → answers_of (seen ++ 10 ∷ []) ≡ answers_of seen ++ answers_of_read (content_read going.standing (without_cr old.line))
  lf_answers some = answers_more seen (seen ++ 10 ∷ []) _ (ends_line seen going.standing going.is_open (room some))
      ∙ ap (λ answers. answers_of seen ++ answers) (any_number (1 + length (ended_lines seen)) (content_read going.standing (without_cr (open_line seen))) ∙ ap answers_of_read (sym same_read))

  pub takes_lf : (new : EdgeReader) (byte : ℕ) (result : Option (Result Row LineFault)) → byte ≡ 10 → length old.line < old.left → EndsLine new (content_read going.standing (without_cr old.line)) result → new.line ≡ [] → new.ended ≡ min (old.ended + 1) 18446744073709551615 → new.left ≡ old.left - (length old.line + 1) → Takes new seen byte result
  takes_lf new byte result lf some ends line_is ended_is left_is = subst (λ (b : ℕ). Takes new seen b result) (sym lf) (takes_lf_itself new result some ends line_is ended_is left_is)

  -- the end of the input
  empty_open : (line : List ℕ) → length line ≡ 0 → line ≡ []
  empty_open [] e = refl
  empty_open (byte ∷ bytes) e = absurd (omega arith)

  pub finishes_between : length old.line ≡ 0 → whole_answers_of seen ≡ answers_of seen ++ []
  finishes_between e = whole_same seen (ends_between seen going.standing going.is_open (empty_open (open_line seen) (sym (ap length going.line_is) ∙ e)))

  pub finishes_within : (new : EdgeReader) (result : Option (Result Row LineFault)) → (length old.line ≡ 0 → ⊥) → EndsLine new (content_read going.standing (without_cr old.line)) result → whole_answers_of seen ≡ answers_of seen ++ answers_in result
  finishes_within new result some ends =
      whole_more seen _ (ends_within seen going.standing going.is_open (λ z. some (ap length going.line_is ∙ z)))
      ∙ ap (λ answers. answers_of seen ++ answers) (any_number (1 + length (ended_lines seen)) (content_read going.standing (without_cr (open_line seen))) ∙ ap answers_of_read (sym same_read) ∙ sym ends.answered)

  -- the number of the last line at the end of the input
  pub same_line : (number_in old ≡ line_number_of seen) × (old.ended < 2 ^ 63)
  same_line = number_cases old (Some now) seen going

  pub judged_line : (new : EdgeReader) → (length old.line ≡ 0 → ⊥) → new.line ≡ [] → new.ended ≡ min (old.ended + 1) 18446744073709551615 → (number_in new ≡ line_number_of seen) × (new.ended < 2 ^ 63)
  judged_line new some line_is ended_is =
      let next = next_ended new.ended ended_is in
      let next_is = next.0 in
      let own = within_line old some in
      let own_ended = going.ended_is in
      (sym (between_lines new (ap length line_is)) ∙ (let same : new.ended ≡ old.ended + 1 = omega arith in same ∙ own ∙ same_line.0), next.1)

-- a byte for which there is room
feeds_cases : (old new : EdgeReader) (s : Option State) (seen : List ℕ) (byte : ℕ) → GoesOnOrStopped old s seen → old.state ≡ s → (byte ≡ 10 → ⊥) → length old.line < old.room → new.state ≡ old.state → new.levels ≡ old.levels → new.line ≡ old.line ++ byte ∷ [] → new.left ≡ old.left → new.room ≡ old.room → new.ended ≡ old.ended → Takes new seen byte None
feeds_cases old new None seen byte stopped e other some state_is levels_are line_is left_is room_is ended_is = let closed = stopped.at.closed in absurd (omega arith)
feeds_cases old new (Some now) seen byte going e other some state_is levels_are line_is left_is room_is ended_is = takes_byte old now seen going new byte other some (state_is ∙ e) levels_are line_is left_is room_is ended_is

pub feeds_byte : (old new : EdgeReader) (seen : List ℕ) (byte : ℕ) → StandsFor old seen → (byte ≡ 10 → ⊥) → length old.line < old.room → new.state ≡ old.state → new.levels ≡ old.levels → new.line ≡ old.line ++ byte ∷ [] → new.left ≡ old.left → new.room ≡ old.room → new.ended ≡ old.ended → Takes new seen byte None
unfolding StandsFor
feeds_byte old new seen byte stands other some state_is levels_are line_is left_is room_is ended_is = feeds_cases old new old.state seen byte stands refl other some state_is levels_are line_is left_is room_is ended_is

pub grows_byte : (old : EdgeReader) (seen : List ℕ) (byte : ℕ) → StandsFor old seen → (byte ≡ 10 → ⊥) → length old.line < old.room → answers_of (seen ++ byte ∷ []) ≡ answers_of seen ++ []
grows_byte old seen byte stands other some = (feeds_byte old (record old { line = old.line ++ byte ∷ [] }) seen byte stands other some refl refl refl refl refl refl).grows

pub stands_byte : (old new : EdgeReader) (seen : List ℕ) (byte : ℕ) → StandsFor old seen → (byte ≡ 10 → ⊥) → length old.line < old.room → new.state ≡ old.state → new.levels ≡ old.levels → new.line ≡ old.line ++ byte ∷ [] → new.left ≡ old.left → new.room ≡ old.room → new.ended ≡ old.ended → StandsFor new (seen ++ byte ∷ [])
stands_byte old new seen byte stands other some a b c d e f = (feeds_byte old new seen byte stands other some a b c d e f).stands

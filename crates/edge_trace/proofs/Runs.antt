-- What a run of bytes that end no line tells: nothing.
use Rattle.std.proofs.Common.{◌≡◌, ℕ, suc, ◌+◌, ◌-◌, ◌<◌, ◌≤◌, cond, Bool, Option, Some, None, List, [], ◌∷◌, ◌++◌, length, take, map, get_or, refl, sym, ◌∙◌, ap, subst, arith, length-append, ◌⊎◌, inl, inr}
use Rattle.std.proofs.lemmas.Bool.{ne_eqb, cases_lt}
use Rattle.std.proofs.lemmas.List.{append_assoc, append-nil, length_push, get_or-take, length-take-le}
use Rattle.text_lines.specs.Lines.{ended_lines, open_line}
use Rattle.edge_trace.specs.EdgeLists.{Standing}
use Rattle.edge_trace.specs.Limits.{told_of, fault_of, answers_of}
use Rattle.text_lines.specs.Inputs.{input_limit, last_line}
use Rattle.edge_trace.specs.Readings.{IsAt}
use Rattle.edge_trace.specs.Readers.{IsOpen, GoesOn, HasStopped, GoesOnOrStopped, StandsFor, HasEnded, TakesRun, IsLongest}
use Rattle.edge_trace.specs.declared.state.State.{State}
use Rattle.edge_trace.specs.declared.reader.EdgeReader.{EdgeReader}
use Rattle.text_lines.proofs.Cutting.{ended_push, open_push}
use Rattle.edge_trace.proofs.Streams.{goes_on, open_goes_on}
use Rattle.edge_trace.proofs.StandingFor.{stands_going, stands_stopped}

-- no LF is among these bytes
record HasNoLf (run : List ℕ) : Type 0 where
  pub none : (k : ℕ) → k < length run → get_or run k 0 ≡ 10 → ⊥

tail_no_lf : (byte : ℕ) (run : List ℕ) → HasNoLf (byte ∷ run) → HasNoLf run
tail_no_lf byte run free = record { none = λ k h. free.none (suc k) (omega (arith, h)) }

head_no_lf : (byte : ℕ) (run : List ℕ) → HasNoLf (byte ∷ run) → byte ≡ 10 → ⊥
head_no_lf byte run free = free.none 0 (omega arith)

-- what bytes are before an LF
front_no_lf : (block : List ℕ) (count : ℕ) → count ≤ length block → ((k : ℕ) → k < count → get_or block k 0 ≡ 10 → ⊥) → HasNoLf (take count block)
front_no_lf block count fits none = record {
  none = λ k h. let below : k < count = omega (arith, h, length-take-le count block fits) in
      λ e. none k below (sym (get_or-take count block k 0 below) ∙ e);
}

-- behind a run the list is as far as before it, and its line is longer by the run
record IsBehindRun (seen run : List ℕ) (standing : Standing) : Type 0 where
  pub is_open : IsOpen (seen ++ run) standing
  pub told : told_of (seen ++ run) ≡ told_of seen
  pub line : open_line (seen ++ run) ≡ open_line seen ++ run
  pub lines : ended_lines (seen ++ run) ≡ ended_lines seen

behind_run : (seen run : List ℕ) (standing : Standing) → IsOpen seen standing → HasNoLf run → length seen + length run ≤ input_limit → length (open_line seen) + length run ≤ 512 → IsBehindRun seen run standing
behind_run seen [] standing is_open free within short =
    let e : seen ++ [] ≡ seen = append-nil seen in
    record {
      is_open = subst (λ (bytes : List ℕ). IsOpen bytes standing) (sym e) is_open;
      told = ap told_of e;
      line = ap (open_line) e ∙ sym (append-nil (open_line seen));
      lines = ap (ended_lines) e;
    }
behind_run seen (byte ∷ run) standing is_open free within short =
    let other = head_no_lf byte run free in
    let room : length seen < input_limit = omega arith in
    let fits : length (open_line seen) < 512 = omega arith in
    let now : open_line (seen ++ byte ∷ []) ≡ open_line seen ++ byte ∷ [] = open_push seen byte ∙ ap (λ t. cond t [] (open_line seen ++ byte ∷ [])) (ne_eqb byte 10 other) in
    let lines : ended_lines (seen ++ byte ∷ []) ≡ ended_lines seen = ended_push seen byte ∙ ap (λ t. ended_lines seen ++ cond t (open_line seen ∷ []) []) (ne_eqb byte 10 other) ∙ append-nil (ended_lines seen) in
    let longer = length_push seen byte in
    let line_longer = length_push (open_line seen) byte in
    let now_long = ap length now in
    let later = behind_run (seen ++ byte ∷ []) run standing (open_goes_on seen standing is_open byte room other fits) (tail_no_lf byte run free) (omega arith) (omega arith) in
    let e : (seen ++ byte ∷ []) ++ run ≡ seen ++ byte ∷ run = append_assoc seen (byte ∷ []) run in
    record {
      is_open = subst (λ (bytes : List ℕ). IsOpen bytes standing) e later.is_open;
      told = ap told_of (sym e) ∙ later.told ∙ goes_on seen standing is_open byte room other fits;
      line = ap (open_line) (sym e) ∙ later.line ∙ ap (λ l. l ++ run) now ∙ append_assoc (open_line seen) (byte ∷ []) run;
      lines = ap (ended_lines) (sym e) ∙ later.lines ∙ lines;
    }

answers_alike : (bytes after : List ℕ) → told_of after ≡ told_of bytes → answers_of after ≡ answers_of bytes
unfolding answers_of
answers_alike bytes after e = ap (map (λ t. t.1)) e

-- a reader that goes on takes a run
going_takes : (old new : EdgeReader) (now : State) (seen run : List ℕ) → GoesOn old now seen → HasNoLf run → length old.line + length run ≤ old.room → new.state ≡ Some now → new.levels ≡ old.levels → new.line ≡ old.line ++ run → new.left ≡ old.left → new.room ≡ old.room → new.ended ≡ old.ended → TakesRun new seen run
going_takes old new now seen run going free some state_is levels_are line_is left_is room_is ended_is =
    let long = ap length going.line_is in
    let own_room = going.room_is in
    let own_left = going.left_is in
    let own_few = going.few in
    let behind = behind_run seen run going.standing going.is_open free (omega arith) (omega arith) in
    let longer : length (open_line (seen ++ run)) ≡ length (open_line seen) + length run = ap length behind.line ∙ length-append (open_line seen) run in
    let more = length-append seen run in
    record {
      stands = stands_going new now (seen ++ run) state_is (record {
        standing = going.standing;
        is_open = behind.is_open;
        at = subst (λ (levels : List (Option Bool)). IsAt now levels going.standing) (sym levels_are) going.at;
        line_is = line_is ∙ ap (λ line. line ++ run) going.line_is ∙ sym behind.line;
        left_is = omega arith;
        room_is = omega arith;
        ended_is = ended_is ∙ going.ended_is ∙ sym (ap length behind.lines);
        few = omega arith;
      });
      quiet = answers_alike seen (seen ++ run) behind.told;
    }

-- a reader that has stopped takes nothing
no_run : (run : List ℕ) → length run ≡ 0 → run ≡ []
no_run [] e = refl
no_run (byte ∷ run) e = absurd (omega arith)

same_line : (old new : EdgeReader) (run : List ℕ) → new.line ≡ old.line ++ run → length run ≡ 0 → new.line ≡ old.line
same_line old new run line_is none = line_is ∙ ap (λ r. old.line ++ r) (no_run run none) ∙ append-nil old.line

ended_takes : (old new : EdgeReader) (number : ℕ) (run : List ℕ) → HasEnded old number → length run ≡ 0 → new.state ≡ old.state → new.line ≡ old.line ++ run → new.room ≡ old.room → new.ended ≡ old.ended → HasEnded new number
ended_takes old new number run ended none state_is line_is room_is ended_is =
    let line = same_line old new run line_is none in
    let lines = ended_is in
    let small = ended.small in
    record {
      ended = state_is ∙ ended.ended;
      closed = room_is ∙ ended.closed;
      number_is = ap (λ (l : List ℕ). new.ended + length (last_line l)) line ∙ ap (λ (n : ℕ). n + length (last_line old.line)) ended_is ∙ ended.number_is;
      small = omega arith;
    }

stopped_takes_run : (old new : EdgeReader) (seen run : List ℕ) → HasStopped old seen → length run ≤ old.room - length old.line → new.state ≡ old.state → new.line ≡ old.line ++ run → new.room ≡ old.room → new.ended ≡ old.ended → TakesRun new seen run
stopped_takes_run old new seen run stopped few state_is line_is room_is ended_is =
    let closed = stopped.at.closed in
    let none : length run ≡ 0 = omega arith in
    let e : seen ++ run ≡ seen = ap (λ r. seen ++ r) (no_run run none) ∙ append-nil seen in
    record {
      stands = stands_stopped new (seen ++ run) (state_is ∙ stopped.at.ended) (record {
        fault = stopped.fault;
        is = ap fault_of e ∙ stopped.is;
        at = ended_takes old new stopped.fault.0 run stopped.at none state_is line_is room_is ended_is;
      });
      quiet = ap answers_of e;
    }

either_takes : (old new : EdgeReader) (s : Option State) (seen run : List ℕ) → old.state ≡ s → GoesOnOrStopped old s seen → HasNoLf run → length run ≤ old.room - length old.line → new.state ≡ old.state → new.levels ≡ old.levels → new.line ≡ old.line ++ run → new.left ≡ old.left → new.room ≡ old.room → new.ended ≡ old.ended → TakesRun new seen run
either_takes old new None seen run e stopped free few state_is levels_are line_is left_is room_is ended_is = stopped_takes_run old new seen run stopped few state_is line_is room_is ended_is
either_takes old new (Some now) seen run e going free few state_is levels_are line_is left_is room_is ended_is =
    let long = ap length going.line_is in
    let own_room = going.room_is in
    let own_left = going.left_is in
    let within = going.is_open.within in
    let short = going.is_open.short in
    going_takes old new now seen run going free (omega arith) (state_is ∙ e) levels_are line_is left_is room_is ended_is

-- a reader that takes a run of bytes that end no line, for which there is room
takes_run : (old new : EdgeReader) (seen run : List ℕ) → StandsFor old seen → HasNoLf run → length run ≤ old.room - length old.line → new.state ≡ old.state → new.levels ≡ old.levels → new.line ≡ old.line ++ run → new.left ≡ old.left → new.room ≡ old.room → new.ended ≡ old.ended → TakesRun new seen run
unfolding StandsFor
takes_run old new seen run stands free few state_is levels_are line_is left_is room_is ended_is = either_takes old new old.state seen run refl stands free few state_is levels_are line_is left_is room_is ended_is

-- the same of the front of a block
pub takes_front : (old new : EdgeReader) (seen block : List ℕ) (count : ℕ) → StandsFor old seen → count ≤ length block → count ≤ old.room - length old.line → ((k : ℕ) → k < count → get_or block k 0 ≡ 10 → ⊥) → new.state ≡ old.state → new.levels ≡ old.levels → new.line ≡ old.line ++ take count block → new.left ≡ old.left → new.room ≡ old.room → new.ended ≡ old.ended → TakesRun new seen (take count block)
takes_front old new seen block count stands fits few none state_is levels_are line_is left_is room_is ended_is =
    let long : length (take count block) ≡ count = length-take-le count block fits in
    takes_run old new seen (take count block) stands (front_no_lf block count fits none) (omega arith) state_is levels_are line_is left_is room_is ended_is

-- the line behind a run of a block's front is longer by the run
going_line : (seen block : List ℕ) (count : ℕ) (standing : Standing) → IsOpen seen standing → count ≤ length block → ((k : ℕ) → k < count → get_or block k 0 ≡ 10 → ⊥) → length seen + count ≤ input_limit → length (open_line seen) + count ≤ 512
    → length (open_line (seen ++ take count block)) ≡ length (open_line seen) + count
going_line seen block count standing is_open fits none within short =
    let long : length (take count block) ≡ count = length-take-le count block fits in
    let behind = behind_run seen (take count block) standing is_open (front_no_lf block count fits none) (omega arith) (omega arith) in
    let more = length-append (open_line seen) (take count block) in
    let same = ap length behind.line in
    omega arith

filled : (old : EdgeReader) (now : State) (seen block : List ℕ) (count : ℕ) → GoesOn old now seen → count ≤ length block → ((k : ℕ) → k < count → get_or block k 0 ≡ 10 → ⊥) → count ≡ old.room - length old.line
    → (512 ≤ length (open_line (seen ++ take count block))) ⊎ (input_limit ≤ length seen + count)
filled old now seen block count going fits none full =
    let long = ap length going.line_is in
    let own_room = going.room_is in
    let own_left = going.left_is in
    let within = going.is_open.within in
    let short = going.is_open.short in
    elim (cases_lt old.left 512) [
      | inl few ↦ inr (omega arith)
      | inr much ↦ inl (let longer = going_line seen block count going.standing going.is_open fits none (omega arith) (omega arith) in omega arith)
    ]

longest_going : (old : EdgeReader) (now : State) (seen block : List ℕ) (count : ℕ) → GoesOn old now seen → count ≤ length block → ((k : ℕ) → k < count → get_or block k 0 ≡ 10 → ⊥)
    → (get_or block count 0 ≡ 10) ⊎ (count ≡ old.room - length old.line) → IsLongest seen block count
longest_going old now seen block count going fits none (inl ends) = inl ends
longest_going old now seen block count going fits none (inr full) = inr (filled old now seen block count going fits none full)

either_longest : (old : EdgeReader) (s : Option State) (seen block : List ℕ) (count : ℕ) → GoesOnOrStopped old s seen → fault_of seen ≡ None → count ≤ length block → ((k : ℕ) → k < count → get_or block k 0 ≡ 10 → ⊥)
    → (get_or block count 0 ≡ 10) ⊎ (count ≡ old.room - length old.line) → IsLongest seen block count
either_longest old None seen block count stopped sound fits none stops = (let found = stopped.is in absurd (cc))
either_longest old (Some now) seen block count going sound fits none stops = longest_going old now seen block count going fits none stops

-- the same room, told otherwise
pub room_left : (byte count most room : ℕ) → (byte ≡ 10) ⊎ (count ≡ most) → most ≡ room → (byte ≡ 10) ⊎ (count ≡ room)
room_left byte count most room (inl ends) same = inl ends
room_left byte count most room (inr full) same = inr (full ∙ same)

-- a run that stops at an LF, or for want of room, is as long as it may be
pub longest_run : (old : EdgeReader) (seen block : List ℕ) (count : ℕ) → StandsFor old seen → fault_of seen ≡ None → count ≤ length block → ((k : ℕ) → k < count → get_or block k 0 ≡ 10 → ⊥)
    → (get_or block count 0 ≡ 10) ⊎ (count ≡ old.room - length old.line) → IsLongest seen block count
unfolding StandsFor
longest_run old seen block count stands sound fits none stops = either_longest old old.state seen block count stands sound fits none stops

-- The answers to a list of bytes stand when more bytes come, and nothing follows a fault.
use Rattle.std.proofs.Common.{◌≡◌, ℕ, ◌+◌, ◌≤◌, true, cond, Option, Some, None, Result, Ok, Err, List, [], ◌∷◌, ◌++◌, length, take, map, filter_map, flat_map, is_some, refl, sym, ◌∙◌, ap, subst, inl, inr, arith}
use Rattle.std.specs.Result.{result_ok}
use Rattle.std.proofs.lemmas.Bool.{false≢true, cases_lt, cases_eq}
use Rattle.std.proofs.lemmas.Grind.{flat_map-append}
use Rattle.std.proofs.lemmas.List.Elements.{filter_map-append}
use Rattle.std.proofs.lemmas.List.{append_assoc, append-nil, map-append}
use Rattle.line_base.specs.declared.edge.Edge.{Edge}
use Rattle.line_base.specs.declared.faults.LineFault.{LineFault}
use Rattle.line_base.specs.declared.faults.LineFault.TheVariants.{LineTooLong, InputTooLong}
use Rattle.line_base.specs.Streams.{IsFrontOf}
use Rattle.line_base.proofs.Fronts.{IsFrontOf-trans}
use Rattle.text_lines.specs.Lines.{ended_lines, open_line, without_cr}
use Rattle.edge_trace.specs.EdgeLists.{Standing, AtStart, Read, content_read, Told, told_row, told_with, told_from, standing_after}
use Rattle.edge_trace.specs.Limits.{told_within, told_past, told_of, whole_told_of, fault_in, rows_of, edges_of, fault_of, whole_rows_of, whole_edges_of, whole_fault_of, answers_of, whole_answers_of, line_number_of}
use Rattle.text_lines.specs.Inputs.{input_limit, long_line, lines_begun, number_at}
use Rattle.edge_trace.specs.MoreBytes.{Stays, TellsNoMore}
use Rattle.edge_trace.specs.Readers.{IsOpen, HasEnded}
use Rattle.edge_trace.specs.declared.reader.EdgeReader.{EdgeReader}
use Rattle.edge_trace.proofs.Telling.{told_on, told_append, fault_behind, fault_stays, fault_told}
use Rattle.edge_trace.proofs.Streams.{told_in_limit, number_open, past_limit, too_long, goes_on, ends_line, ends_between, ends_within, is_long, last_one}
use Rattle.edge_trace.proofs.Laws.{not_both, told_past_limit, one_long, told_stays, whole_stays}

same_front : {A : Type 0} (xs ys : List A) → ys ≡ xs → IsFrontOf xs ys
same_front xs ys e = record { rest = []; is = e ∙ sym (append-nil xs) }

-- bytes without a fault, and how far the list has come
pub record IsOpenSomewhere (bytes : List ℕ) : Type 0 where
  pub standing : Standing
  pub is_open : IsOpen bytes standing

-- a fault among the first of what is told
some_stays : (front more : List Told) (o : Option (ℕ × LineFault)) → fault_in front ≡ o → is_some o ≡ true → fault_in (front ++ more) ≡ None → ⊥
some_stays front more None e t f = false≢true t
some_stays front more (Some fault) e t f = not_both (fault_in (front ++ more)) fault (fault_stays front more fault e) f

past_has_fault : (bytes : List ℕ) (told : List Told) (o : Option (ℕ × LineFault)) → fault_in told ≡ o → fault_in (told_past bytes told) ≡ None → ⊥
past_has_fault bytes told None e f =
    not_both _ (length (ended_lines bytes) + 1, InputTooLong) (fault_behind told ((length (ended_lines bytes) + 1, Err InputTooLong) ∷ []) e)
    (ap (λ t. fault_in (cond t told (told ++ (length (ended_lines bytes) + 1, Err InputTooLong) ∷ []))) (sym (ap is_some e)) ∙ f)
past_has_fault bytes told (Some fault) e f =
    not_both (fault_in told) fault e (ap (λ t. fault_in (cond t told (told ++ (length (ended_lines bytes) + 1, Err InputTooLong) ∷ []))) (sym (ap is_some e)) ∙ f)

no_fault_within : (bytes : List ℕ) → fault_of bytes ≡ None → length bytes ≤ input_limit
unfolding fault_of
no_fault_within bytes e = elim (cases_lt input_limit (length bytes)) [
  | inl past ↦ absurd (past_has_fault (take input_limit bytes) (told_within (take input_limit bytes)) (fault_in (told_within (take input_limit bytes))) refl (sym (ap fault_in (told_past_limit bytes past)) ∙ e))
  | inr within ↦ within
]

long_has_fault : (front : List Told) (number : ℕ) → fault_in (front ++ (number, Err LineTooLong) ∷ []) ≡ None → ⊥
long_has_fault [] number e = cc
long_has_fault ((other, Ok row) ∷ front) number e = long_has_fault front number e
long_has_fault ((other, Err fault) ∷ front) number e = cc

open_cases : (bytes : List ℕ) (o : Option Standing) → standing_after AtStart (ended_lines bytes) ≡ o → length bytes ≤ input_limit → fault_in (told_within bytes) ≡ None → IsOpenSomewhere bytes
unfolding told_within
open_cases bytes None f within e =
    absurd (some_stays (told_from 1 AtStart (ended_lines bytes)) _ _ refl (fault_told 1 AtStart (ended_lines bytes) f) (sym (ap fault_in (told_append 1 AtStart (ended_lines bytes) (long_line (open_line bytes)))) ∙ e))
open_cases bytes (Some standing) f within e = elim (cases_lt 512 (length (open_line bytes))) [
  | inl long ↦ (let told = told_append 1 AtStart (ended_lines bytes) (open_line bytes ∷ []) ∙ ap (λ s. told_from 1 AtStart (ended_lines bytes) ++ told_on (1 + length (ended_lines bytes)) s (open_line bytes ∷ [])) f
      ∙ ap (λ t. told_from 1 AtStart (ended_lines bytes) ++ t) (one_long (1 + length (ended_lines bytes)) standing (open_line bytes) long) in
      absurd (long_has_fault (told_from 1 AtStart (ended_lines bytes)) (1 + length (ended_lines bytes)) (sym (ap fault_in (ap (λ lines. told_from 1 AtStart (ended_lines bytes ++ lines)) (is_long (open_line bytes) long) ∙ told)) ∙ e)))
  | inr short ↦ record { standing = standing; is_open = record { within = within; short = short; standing_is = f } }
]

pub open_without_fault : (bytes : List ℕ) → fault_of bytes ≡ None → IsOpenSomewhere bytes
unfolding fault_of
open_without_fault bytes e =
    let within = no_fault_within bytes e in
    open_cases bytes (standing_after AtStart (ended_lines bytes)) refl within (sym (ap fault_in (told_in_limit bytes within)) ∙ e)

-- one more byte
open_front : (bytes : List ℕ) (byte : ℕ) (standing : Standing) → IsOpen bytes standing → IsFrontOf (told_of bytes) (told_of (bytes ++ byte ∷ []))
open_front bytes byte standing is_open = elim (cases_lt (length bytes) input_limit) [
  | inl room ↦ elim (cases_eq byte 10) [
    | inl lf ↦ record { rest = told_with (1 + length (ended_lines bytes)) (content_read standing (without_cr (open_line bytes))) (λ _. []); is = ap (λ b. told_of (bytes ++ b ∷ [])) lf ∙ ends_line bytes standing is_open room }
    | inr other ↦ elim (cases_lt (length (open_line bytes)) 512) [
      | inl short ↦ same_front (told_of bytes) (told_of (bytes ++ byte ∷ [])) (goes_on bytes standing is_open byte room other short)
      | inr full ↦ record { rest = (1 + length (ended_lines bytes), Err LineTooLong) ∷ []; is = too_long bytes standing is_open byte room other full }
    ]
  ]
  | inr full ↦ record { rest = (length (ended_lines bytes) + 1, Err InputTooLong) ∷ []; is = past_limit bytes standing is_open byte (let within = is_open.within in omega arith) }
]

byte_front : (bytes : List ℕ) (byte : ℕ) (o : Option (ℕ × LineFault)) → fault_of bytes ≡ o → IsFrontOf (told_of bytes) (told_of (bytes ++ byte ∷ []))
byte_front bytes byte None e = let found = open_without_fault bytes e in open_front bytes byte found.standing found.is_open
byte_front bytes byte (Some fault) e = same_front (told_of bytes) (told_of (bytes ++ byte ∷ [])) (told_stays bytes byte fault e)

-- what was told stands when more bytes come
pub told_grows : (bytes more : List ℕ) → IsFrontOf (told_of bytes) (told_of (bytes ++ more))
told_grows bytes [] = same_front (told_of bytes) (told_of (bytes ++ [])) (ap told_of (append-nil bytes))
told_grows bytes (byte ∷ more) =
    IsFrontOf-trans (byte_front bytes byte (fault_of bytes) refl)
    (subst (λ (all : List ℕ). IsFrontOf (told_of (bytes ++ byte ∷ [])) (told_of all)) (append_assoc bytes (byte ∷ []) more) (told_grows (bytes ++ byte ∷ []) more))

-- the answers stand when more bytes come
pub answers_grow : (bytes more : List ℕ) → IsFrontOf (answers_of bytes) (answers_of (bytes ++ more))
unfolding answers_of
answers_grow bytes more =
    let front = told_grows bytes more in
    record { rest = map (λ t. t.1) front.rest; is = ap (map (λ t. t.1)) front.is ∙ map-append (λ t. t.1) (told_of bytes) front.rest }

-- the edges that are told
edges_told : List Told → List Edge
edges_told told = flat_map (λ row. row) (filter_map (λ t. result_ok t.1) told)

edges_front : (told later : List Told) → IsFrontOf told later → IsFrontOf (edges_told told) (edges_told later)
unfolding edges_told
edges_front told later front = record {
  rest = edges_told front.rest;
  is = ap edges_told front.is ∙ ap (flat_map (λ row. row)) (filter_map-append (λ t. result_ok t.1) told front.rest)
      ∙ flat_map-append (λ row. row) (filter_map (λ t. result_ok t.1) told) (filter_map (λ t. result_ok t.1) front.rest);
}

pub edges_grow : (bytes more : List ℕ) → IsFrontOf (edges_of bytes) (edges_of (bytes ++ more))
unfolding edges_of rows_of edges_told
edges_grow bytes more = edges_front (told_of bytes) (told_of (bytes ++ more)) (told_grows bytes more)

-- a fault stays the fault when more bytes come
pub fault_holds : (bytes more : List ℕ) (fault : ℕ × LineFault) → fault_of bytes ≡ Some fault → fault_of (bytes ++ more) ≡ Some fault
unfolding fault_of
fault_holds bytes more fault e =
    let front = told_grows bytes more in
    ap fault_in front.is ∙ fault_stays (told_of bytes) front.rest fault e

stays_told : (bytes more : List ℕ) (fault : ℕ × LineFault) → fault_of bytes ≡ Some fault → told_of (bytes ++ more) ≡ told_of bytes
stays_told bytes [] fault e = ap told_of (append-nil bytes)
stays_told bytes (byte ∷ more) fault e =
    ap told_of (sym (append_assoc bytes (byte ∷ []) more)) ∙ stays_told (bytes ++ byte ∷ []) more fault (fault_holds bytes (byte ∷ []) fault e) ∙ told_stays bytes byte fault e

-- behind a fault nothing more is answered
pub nothing_behind_a_fault : (bytes more : List ℕ) (fault : ℕ × LineFault) → fault_of bytes ≡ Some fault → answers_of (bytes ++ more) ≡ answers_of bytes
unfolding answers_of
nothing_behind_a_fault bytes more fault e = ap (map (λ t. t.1)) (stays_told bytes more fault e)

-- no bytes have no answers
pub no_answers : answers_of [] ≡ []
unfolding answers_of told_of told_within told_from ended_lines open_line input_limit
no_answers = refl

empty_list : (xs : List ℕ) → length xs ≡ 0 → xs ≡ []
empty_list [] e = refl
empty_list (x ∷ xs) e = absurd (omega arith)

-- the end of the input adds to the answers
whole_cases : (bytes : List ℕ) (o : Option (ℕ × LineFault)) → fault_of bytes ≡ o → IsFrontOf (told_of bytes) (whole_told_of bytes)
whole_cases bytes (Some fault) e = same_front (told_of bytes) (whole_told_of bytes) (whole_stays bytes fault e)
whole_cases bytes None e =
    let found = open_without_fault bytes e in
    elim (cases_eq (length (open_line bytes)) 0) [
      | inl empty ↦ same_front (told_of bytes) (whole_told_of bytes) (ends_between bytes found.standing found.is_open (empty_list (open_line bytes) empty))
      | inr some ↦ record { rest = told_with (1 + length (ended_lines bytes)) (content_read found.standing (without_cr (open_line bytes))) (λ _. []); is = ends_within bytes found.standing found.is_open some }
    ]

pub whole_grows : (bytes : List ℕ) → IsFrontOf (answers_of bytes) (whole_answers_of bytes)
unfolding answers_of whole_answers_of
whole_grows bytes =
    let front = whole_cases bytes (fault_of bytes) refl in
    record { rest = map (λ t. t.1) front.rest; is = ap (map (λ t. t.1)) front.is ∙ map-append (λ t. t.1) (told_of bytes) front.rest }

pub whole_edges_grow : (bytes : List ℕ) → IsFrontOf (edges_of bytes) (whole_edges_of bytes)
unfolding edges_of rows_of whole_edges_of whole_rows_of edges_told
whole_edges_grow bytes = edges_front (told_of bytes) (whole_told_of bytes) (whole_cases bytes (fault_of bytes) refl)

row_none : (number : ℕ) (edges : List Edge) (fault : ℕ × LineFault) → fault_in (told_row number edges ++ []) ≡ Some fault → number ≡ fault.0
row_none number [] fault e = cc
row_none number (edge ∷ edges) fault e = cc

-- a fault at the end of the input is one of the line of the last byte
row_fault : (number : ℕ) (read : Result Read LineFault) (fault : ℕ × LineFault) → fault_in (told_with number read (λ _. [])) ≡ Some fault → number ≡ fault.0
row_fault number (Err own) fault e = let same : (number, own) ≡ fault = cc in ap (λ (f : ℕ × LineFault). f.0) same
row_fault number (Ok read) fault e = row_none number read.edges fault e

whole_fault_cases : (bytes : List ℕ) (fault : ℕ × LineFault) (o : Option (ℕ × LineFault)) → fault_of bytes ≡ o → whole_fault_of bytes ≡ Some fault → line_number_of bytes ≡ fault.0
unfolding fault_of whole_fault_of line_number_of
whole_fault_cases bytes fault (Some own) e f =
    let told : fault_of bytes ≡ Some fault = sym (ap fault_in (whole_stays bytes own e)) ∙ f in
    ap (λ o. number_at o (lines_begun bytes)) told
whole_fault_cases bytes fault None e f =
    let found = open_without_fault bytes e in
    elim (cases_eq (length (open_line bytes)) 0) [
      | inl empty ↦ absurd (not_both (fault_of bytes) fault (sym (ap fault_in (ends_between bytes found.standing found.is_open (empty_list (open_line bytes) empty))) ∙ f) e)
      | inr some ↦ sym (number_open bytes found.standing found.is_open)
          ∙ ap (λ lines. length (ended_lines bytes) + length lines) (last_one (open_line bytes) some)
          ∙ (let number = row_fault (1 + length (ended_lines bytes)) (content_read found.standing (without_cr (open_line bytes))) fault
          (sym (ap fault_in (ends_within bytes found.standing found.is_open some) ∙ fault_behind (told_of bytes) (told_with (1 + length (ended_lines bytes)) (content_read found.standing (without_cr (open_line bytes))) (λ _. [])) e) ∙ f) in omega arith)
    ]

pub whole_fault_line : (bytes : List ℕ) (fault : ℕ × LineFault) → whole_fault_of bytes ≡ Some fault → line_number_of bytes ≡ fault.0
whole_fault_line bytes fault e = whole_fault_cases bytes fault (fault_of bytes) refl e

-- what was told stays
pub answers_stay : (bytes more : List ℕ) → Stays answers_of whole_answers_of bytes more
answers_stay bytes more = record {
  when_more_come = answers_grow bytes more;
  at_the_end = whole_grows bytes;
  at_a_later_end = IsFrontOf-trans (answers_grow bytes more) (whole_grows (bytes ++ more));
}

pub edges_stay : (bytes more : List ℕ) → Stays edges_of whole_edges_of bytes more
edges_stay bytes more = record {
  when_more_come = edges_grow bytes more;
  at_the_end = whole_edges_grow bytes;
  at_a_later_end = IsFrontOf-trans (edges_grow bytes more) (whole_edges_grow (bytes ++ more));
}

-- behind a fault the end of the input answers nothing, and the fault is the one of the whole input
whole_answers_behind : (bytes : List ℕ) (fault : ℕ × LineFault) → fault_of bytes ≡ Some fault → whole_answers_of bytes ≡ answers_of bytes
unfolding answers_of whole_answers_of
whole_answers_behind bytes fault e = ap (map (λ t. t.1)) (whole_stays bytes fault e)

whole_fault_behind : (bytes : List ℕ) (fault : ℕ × LineFault) → fault_of bytes ≡ Some fault → whole_fault_of bytes ≡ fault_of bytes
unfolding fault_of whole_fault_of
whole_fault_behind bytes fault e = ap fault_in (whole_stays bytes fault e)

pub tells_no_more : (bytes more : List ℕ) (fault : ℕ × LineFault) → fault_of bytes ≡ Some fault → TellsNoMore bytes more fault
tells_no_more bytes more fault e =
    let later = fault_holds bytes more fault e in
    record {
      answers_stay = nothing_behind_a_fault bytes more fault e;
      whole_answers_stay = whole_answers_behind (bytes ++ more) fault later ∙ nothing_behind_a_fault bytes more fault e;
      fault_stays = later;
      whole_fault_stays = whole_fault_behind (bytes ++ more) fault later ∙ later;
    }

-- a reader that has ended at the last line has ended at the fault of the whole input
pub ended_at_whole : (reader : EdgeReader) (bytes : List ℕ) (number : ℕ) (fault : LineFault) → HasEnded reader (line_number_of bytes) → whole_fault_of bytes ≡ Some (number, fault) → HasEnded reader number
ended_at_whole reader bytes number fault ended e = subst (HasEnded reader) (whole_fault_line bytes (number, fault) e) ended

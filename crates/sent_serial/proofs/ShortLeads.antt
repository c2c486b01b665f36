-- Where the next status leads a reader of short messages.
--     lead-skipped, lead-begun      outside a message
--     lead-restart, lead-more, lead-ends      within one
--     short-waits      what is kept ends nothing
--     short-pushed, short-grows      so the reader stands for one status more, and the steps grow
use mir.Val.{bool_byte}
use Rattle.std.proofs.Common.{◌≡◌, ℕ, ◌+◌, ◌*◌, ◌≤◌, List, [], ◌∷◌, ◌++◌, Bool, true, false, cond, map, length, length-append, refl, sym, ap, ap₂, ◌∙◌, subst, arith}
use Rattle.line_base.specs.Readings.{read_past, end_past}
use Rattle.line_base.specs.Standing.{Leads}
use Rattle.line_base.proofs.Readings.{end-nil, end-waits, read-nil, read-waits}
use Rattle.line_base.proofs.Standing.{Waits, led-kept, led-past, led-whole, reads-more, stands-more, stands-none}
use Rattle.line_base.specs.Readings.Found.{Waiting}
use Rattle.line_base.specs.declared.rule.Rule.TheVariants.{Restart, SerialCheck}
use Rattle.link_math.specs.Division.{bits_of, number_of}
use Rattle.link_math.proofs.BitLists.{bits_of-number_of}
use Rattle.sent_serial.specs.declared.short.ShortState.{ShortState}
use Rattle.sent_serial.specs.declared.short.ShortState.TheVariants.{Outside, Within}
use Rattle.sent_serial.specs.declared.step.SerialStep.{SerialStep}
use Rattle.sent_serial.specs.declared.step.SerialStep.TheVariants.{Short, Bad}
use Rattle.sent_serial.specs.Statuses.{clear_before, start_bit, value_bit}
use Rattle.sent_serial.specs.Steps.{steps_of}
use Rattle.sent_serial.specs.Short.{short_found, short_message, short_reading}
use Rattle.sent_serial.specs.Kept.{AgreesShort, IsShortFront, IsShortState}
use Rattle.sent_serial.specs.Readers.{StandsForShort}
use Rattle.sent_serial.proofs.KeptBits.{first_bit, length-map, pushed}
use Rattle.sent_serial.proofs.Prefixes.{short-keeps}
use Rattle.sent_serial.proofs.ShortSteps.{found-again, found-skipped, found-waits, found-whole}
use Rattle.sent_serial.proofs.StartBits.{clear-append, clear_here, no_clear}

-- ---- outside a message
pub lead-skipped : (status : ℕ) → start_bit status ≡ false → Leads short_found (AgreesShort Outside) (AgreesShort Outside) (status ∷ []) []
lead-skipped status clear = record { each = λ due kept none. rw none (led-past short-keeps tt tt status [] [] [] (found-skipped status [] clear) refl) }

one_frame : (status one : ℕ) (bit : Bool) → start_bit status ≡ true → one ≡ bool_byte bit → bit ≡ value_bit status → IsShortFront 1 one (status ∷ [])
one_frame status one bit set e is = record {
  first = status;
  later = [];
  stands = refl;
  starts = set;
  all_clear = no_clear;
  as_many = refl;
  values = first_bit value_bit status one bit e is;
}

pub lead-begun : (status one : ℕ) (bit : Bool) → start_bit status ≡ true → one ≡ bool_byte bit → bit ≡ value_bit status → Leads short_found (AgreesShort Outside) (AgreesShort (Within 1 one)) (status ∷ []) []
lead-begun status one bit set e is = record { each = λ due kept none. rw none (led-kept tt (status ∷ []) (one_frame status one bit set e is)) }

-- ---- within a message
pub lead-restart : (taken bits status one : ℕ) (bit : Bool) → taken ≤ 15 → start_bit status ≡ true → one ≡ bool_byte bit → bit ≡ value_bit status
    → Leads short_found (AgreesShort (Within taken bits)) (AgreesShort (Within 1 one)) (status ∷ []) (Bad Restart ∷ [])
lead-restart taken bits status one bit few set e is = record {
  each = λ due kept front.
      rw front.stands (led-past short-keeps tt tt front.first front.later (status ∷ []) (Bad Restart ∷ [])
      (found-again front.first status front.later front.starts front.all_clear (omega (arith, front.as_many)) set) (one_frame status one bit set e is));
}

clear_more : (later : List ℕ) (status : ℕ) → clear_before later ≡ length later → start_bit status ≡ false → clear_before (later ++ status ∷ []) ≡ length (later ++ status ∷ [])
clear_more later status all clear = clear-append later (status ∷ []) all ∙ omega (arith, length-append later (status ∷ []), clear_here status [] clear, no_clear)

one_more : (kept : List ℕ) (taken bits status one : ℕ) (bit : Bool) → IsShortFront taken bits kept → start_bit status ≡ false → one ≡ bool_byte bit → bit ≡ value_bit status
    → IsShortFront (taken + 1) (2 * bits + one) (kept ++ status ∷ [])
one_more kept taken bits status one bit front clear e is = record {
  first = front.first;
  later = front.later ++ status ∷ [];
  stands = ap (λ k. k ++ status ∷ []) front.stands;
  starts = front.starts;
  all_clear = clear_more front.later status front.all_clear clear;
  as_many = omega (arith, length-append front.later (status ∷ []), front.as_many);
  values = pushed value_bit (front.first ∷ front.later) status bits one bit front.values e is;
}

pub lead-more : (taken bits status one : ℕ) (bit : Bool) → start_bit status ≡ false → one ≡ bool_byte bit → bit ≡ value_bit status
    → Leads short_found (AgreesShort (Within taken bits)) (AgreesShort (Within (taken + 1) (2 * bits + one))) (status ∷ []) []
lead-more taken bits status one bit clear e is = record { each = λ due kept front. led-kept due (kept ++ status ∷ []) (one_more kept taken bits status one bit front clear e is) }

told_step : (test : Bool) (id value : ℕ) → steps_of (cond test (Short id value) (Bad SerialCheck)) ≡ cond test (Short id value) (Bad SerialCheck) ∷ []
told_step true id value = refl
told_step false id value = refl

pub steps-message : (bits : List Bool) → steps_of (short_message bits) ≡ short_message bits ∷ []
unfolding short_message
steps-message bits = told_step _ _ _

pub lead-ends : (taken bits status one : ℕ) (bit : Bool) (step : SerialStep) → taken + 1 ≡ 16 → start_bit status ≡ false → one ≡ bool_byte bit → bit ≡ value_bit status
    → step ≡ short_message (bits_of 16 (2 * bits + one)) → Leads short_found (AgreesShort (Within taken bits)) (AgreesShort Outside) (status ∷ []) (steps_of step)
lead-ends taken bits status one bit step last clear e is ends = record {
  each = λ due kept front.
      let later = front.later ++ status ∷ [] in
      let all = map value_bit (front.first ∷ later) in
      let fifteen : length later ≡ 15 = omega (arith, length-append front.later (status ∷ []), front.as_many) in
      let long : length all ≡ 16 = length-map value_bit (front.first ∷ later) ∙ omega arith in
      let number : number_of all ≡ 2 * bits + one = pushed value_bit (front.first ∷ front.later) status bits one bit front.values e is in
      let same : bits_of 16 (2 * bits + one) ≡ all = ap₂ bits_of (sym long) (sym number) ∙ bits_of-number_of all in
      let said : steps_of step ≡ short_message all ∷ [] = ap steps_of (ends ∙ ap short_message same) ∙ steps-message all in
      rw (front.stands, said) (led-whole short-keeps tt tt front.first later (short_message all ∷ []) (found-whole front.first later front.starts (clear_more front.later status front.all_clear clear) fifteen) refl);
}

-- ---- one status more
within_waits : (first : ℕ) (later : List ℕ) → short_found tt first later ≡ Waiting [] → (kept : List ℕ) → kept ≡ first ∷ later → (read_past short_found 0 tt kept ≡ []) × (end_past short_found 0 tt kept ≡ [])
within_waits first later waits kept stands = rw stands (read-waits short_found tt first later [] waits, end-waits short_found tt first later [] waits)

waits : (state : ShortState) → IsShortState state → (kept : List ℕ) → AgreesShort state tt kept → (read_past short_found 0 tt kept ≡ []) × (end_past short_found 0 tt kept ≡ [])
waits Outside valid kept none = rw none (read-nil short_found tt, end-nil short_found tt)
waits (Within taken bits) valid kept front =
    within_waits front.first front.later (found-waits front.first front.later front.starts front.all_clear (omega (arith, front.as_many, valid.few))) kept front.stands

-- what is kept ends nothing
pub short-waits : (state : ShortState) → IsShortState state → Waits short_found (AgreesShort state) []
short-waits state valid = record { none = λ due kept agrees. (waits state valid kept agrees).0; at_end = λ due kept agrees. (waits state valid kept agrees).1 }

pub short-pushed : (state old next : ShortState) (seen : List ℕ) (status : ℕ) (steps : List SerialStep) → state ≡ old → StandsForShort old seen
    → IsShortState next → Leads short_found (AgreesShort state) (AgreesShort next) (status ∷ []) steps → StandsForShort next (seen ++ status ∷ [])
short-pushed state old next seen status steps view stands valid leads =
    stands-more short_found tt (AgreesShort state) (AgreesShort next) seen (status ∷ []) steps [] (subst (λ (s : ShortState). StandsForShort s seen) (sym view) stands) leads (short-waits next valid)

pub short-grows : (state old next : ShortState) (seen : List ℕ) (status : ℕ) (steps : List SerialStep) → state ≡ old → StandsForShort old seen
    → IsShortState next → Leads short_found (AgreesShort state) (AgreesShort next) (status ∷ []) steps → short_reading (seen ++ status ∷ []) ≡ short_reading seen ++ steps
unfolding short_reading
short-grows state old next seen status steps view stands valid leads =
    reads-more short_found tt (AgreesShort state) (AgreesShort next) seen (status ∷ []) steps [] (subst (λ (s : ShortState). StandsForShort s seen) (sym view) stands) leads (short-waits next valid)

-- a reader that has kept nothing stands for nothing
pub short-fresh : StandsForShort Outside []
short-fresh = stands-none short_found tt (AgreesShort Outside) refl

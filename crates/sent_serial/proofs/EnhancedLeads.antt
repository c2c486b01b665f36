-- Where the next status leads a reader of enhanced messages.
--     run-one      a run begins
--     lead-longer, lead-seven, lead-broken, lead-begun      in a search
--     lead-13, lead-18, lead-more, lead-whole      within a message
--     clear_where      what a failed test of the start bit says
--     enhanced-waits      what is kept ends nothing
--     enhanced-pushed, enhanced-grows, enhanced-fresh      so the reader stands for one status more, and the steps grow
use mir.Val.{bool_byte}
use Rattle.std.proofs.Common.{◌≡◌, ℕ, suc, ◌+◌, ◌*◌, ◌%◌, ◌^◌, ◌<◌, ◌≤◌, ◌⊎◌, List, [], ◌∷◌, ◌++◌, Bool, true, false, cond, map, take, length, length-append, refl, sym, ap, ap₂, ◌∙◌, subst, inl, inr, arith}
use Rattle.std.specs.Prelude.{slice_index}
use Rattle.std.proofs.Math.ListN.{get_or-append}
use Rattle.std.proofs.Math.Nat.{pow-suc}
use Rattle.std.proofs.Math.Seq.{get_or-append_seam, take-length}
use Rattle.std.proofs.lemmas.Bool.{cases_lt}
use Rattle.line_base.specs.Readings.{ended}
use Rattle.line_base.specs.Standing.{Leads, LeadsTo, Led}
use Rattle.line_base.proofs.Standing.{Waits, leads-past, leads-then, led-kept, led-past, led-whole, reads-more, stands-more, stands-none}
use Rattle.line_base.specs.Readings.Found.{Waiting}
use Rattle.line_base.specs.declared.rule.Rule.TheVariants.{Zero13, Zero18, SerialCheck}
use Rattle.link_math.specs.Division.{number_of}
use Rattle.link_math.proofs.BitFields.{number_of-later}
use Rattle.sent_serial.specs.declared.enhanced.EnhancedState.{EnhancedState}
use Rattle.sent_serial.specs.declared.enhanced.EnhancedState.TheVariants.{Searching, Within}
use Rattle.sent_serial.specs.declared.step.SerialStep.{SerialStep}
use Rattle.sent_serial.specs.declared.step.SerialStep.TheVariants.{Enhanced, Bad}
use Rattle.sent_serial.specs.Statuses.{start_bit, value_bit, set_before}
use Rattle.sent_serial.specs.Steps.{steps_of}
use Rattle.sent_serial.specs.Enhanced.{begun_at, enhanced_content, enhanced_found, enhanced_message, enhanced_reading}
use Rattle.sent_serial.specs.Kept.{AgreesEnhanced, IsEnhancedFront, IsEnhancedState, IsRun}
use Rattle.sent_serial.specs.Messages.{HasBits}
use Rattle.sent_serial.specs.Readers.{StandsForEnhanced}
use Rattle.sent_serial.proofs.EnhancedSteps.{at-begun, at-run, at-seven, at-skipped, begun-13, begun-18, begun-early, begun-late, begun-whole, finds-first, waits-none}
use Rattle.sent_serial.proofs.KeptBits.{first_bit, length-map, number_none, pushed}
use Rattle.sent_serial.proofs.Prefixes.{enhanced-keeps}
use Rattle.sent_serial.proofs.StartBits.{all_set-first, all_set-later, no_set, set-append, set-stays, set_here, set_none}

-- ---- in a search
pub run-none : IsRun 0 0 []
run-none = record { all_set = no_set; as_many = refl; values = number_none }

pub run-one : (status one : ℕ) (bit : Bool) → start_bit status ≡ true → one ≡ bool_byte bit → bit ≡ value_bit status → IsRun 1 one (status ∷ [])
run-one status one bit set e is = record {
  all_set = omega (arith, set_here status [] set, no_set);
  as_many = refl;
  values = first_bit value_bit status one bit e is;
}

pub lead-longer : (run bits status one : ℕ) (bit : Bool) → start_bit status ≡ true → one ≡ bool_byte bit → bit ≡ value_bit status
    → Leads enhanced_found (AgreesEnhanced (Searching run bits)) (AgreesEnhanced (Searching (run + 1) (2 * bits + one))) (status ∷ []) []
lead-longer run bits status one bit set e is = record {
  each = λ due kept before. led-kept due (kept ++ status ∷ []) (record {
    all_set = omega (arith, set-append kept (status ∷ []) before.all_set, set_here status [] set, no_set, length-append kept (status ∷ []));
    as_many = omega (arith, length-append kept (status ∷ []), before.as_many);
    values = pushed value_bit kept status bits one bit before.values e is;
  });
}

last_six : (kept : List ℕ) (number : ℕ) → length kept ≡ 7 → number_of (map value_bit kept) ≡ number → (first : ℕ) (later : List ℕ) → kept ≡ first ∷ later → number_of (map value_bit later) ≡ number % 64
last_six kept number seven is first later stands =
    let six : length (map value_bit later) ≡ 6 = length-map value_bit later ∙ omega (arith, ap length stands) in
    let whole : number_of (value_bit first ∷ map value_bit later) ≡ number = ap (λ k. number_of (map value_bit k)) (sym stands) ∙ is in
    sym (number_of-later (value_bit first) (map value_bit later)) ∙ ap₂ (λ n width. n % 2 ^ width) whole six

seven_set : (kept : List ℕ) (run bits status one : ℕ) (bit : Bool) → IsRun run bits kept → 6 ≤ run → run ≤ 6 → start_bit status ≡ true → one ≡ bool_byte bit → bit ≡ value_bit status
    → Led enhanced_found (AgreesEnhanced (Searching 6 ((2 * bits + one) % 64))) tt (kept ++ status ∷ []) []
seven_set [] run bits status one bit before many few set e is = absurd (omega (arith, before.as_many))
seven_set (first ∷ later) run bits status one bit before many few set e is =
    let rest = later ++ status ∷ [] in
    let long : length rest ≡ 6 = omega (arith, length-append later (status ∷ []), before.as_many) in
    let all : set_before rest ≡ 6 = omega (arith, set-append later (status ∷ []) (all_set-later first later before.all_set), set_here status [] set, no_set, before.as_many) in
    let sevens : set_before (first ∷ rest) ≡ 7 = omega (arith, set_here first rest (all_set-first first later before.all_set)) in
    led-past enhanced-keeps tt tt first [] rest [] (finds-first first rest ∙ at-seven (first ∷ rest) (omega arith)) (record {
      all_set = omega arith;
      as_many = omega arith;
      values = last_six (first ∷ rest) (2 * bits + one) (omega arith) (pushed value_bit (first ∷ later) status bits one bit before.values e is) first rest refl;
    })

pub lead-seven : (run bits status one : ℕ) (bit : Bool) → 6 ≤ run → run ≤ 6 → start_bit status ≡ true → one ≡ bool_byte bit → bit ≡ value_bit status
    → Leads enhanced_found (AgreesEnhanced (Searching run bits)) (AgreesEnhanced (Searching 6 ((2 * bits + one) % 64))) (status ∷ []) []
lead-seven run bits status one bit many few set e is = record { each = λ due kept before. seven_set kept run bits status one bit before many few set e is }

-- a run of fewer than six that ends begins no message
pub broken : (run : List ℕ) (status : ℕ) → set_before run ≡ length run → length run < 6 → start_bit status ≡ false → LeadsTo enhanced_found tt (run ++ status ∷ []) [] tt []
broken [] status all few clear =
    leads-past enhanced_found enhanced-keeps tt tt status [] [] [] (finds-first status [] ∙ at-skipped (status ∷ []) (omega (arith, set_none status [] clear)) (omega (arith, set_none status [] clear)))
broken (first ∷ run) status all few clear =
    let rest = run ++ status ∷ [] in
    let here : set_before (first ∷ rest) ≡ length (first ∷ run) + set_before (status ∷ []) = set-append (first ∷ run) (status ∷ []) all in
    let none : set_before (status ∷ []) ≡ 0 = set_none status [] clear in
    leads-then enhanced_found tt tt tt (first ∷ rest) rest [] [] []
    (leads-past enhanced_found enhanced-keeps tt tt first [] rest [] (finds-first first rest ∙ at-skipped (first ∷ rest) (omega arith) (omega (arith, length-append run (status ∷ [])))))
    (broken run status (all_set-later first run all) (omega arith) clear)

pub lead-broken : (run bits status : ℕ) → run < 6 → start_bit status ≡ false → Leads enhanced_found (AgreesEnhanced (Searching run bits)) (AgreesEnhanced (Searching 0 0)) (status ∷ []) []
lead-broken run bits status few clear = record {
  each = λ due kept before. record { next = tt; rest = []; agrees = run-none; leads = broken kept status before.all_set (omega (arith, before.as_many)) clear };
}

all_ones : (run : List ℕ) → set_before run ≡ length run → number_of (map start_bit run) + 1 ≡ 2 ^ length run
unfolding number_of
all_ones [] all = omega arith
all_ones (status ∷ run) all =
    let set : start_bit status ≡ true = all_set-first status run all in
    let long : 2 ^ length (map start_bit run) ≡ 2 ^ length run = ap (λ n. 2 ^ n) (length-map start_bit run) in
    let double : 2 ^ suc (length run) ≡ 2 ^ length run * 2 = pow-suc 2 (length run) in
    rw set (omega (arith, all_ones run (all_set-later status run all), long, double))

pub lead-begun : (run bits status one : ℕ) (bit : Bool) → 6 ≤ run → run ≤ 6 → start_bit status ≡ false → one ≡ bool_byte bit → bit ≡ value_bit status
    → Leads enhanced_found (AgreesEnhanced (Searching run bits)) (AgreesEnhanced (Within 7 (2 * bits + one) 126)) (status ∷ []) []
lead-begun run bits status one bit many few clear e is = record {
  each = λ due kept before.
      let long : length kept ≡ 6 = omega (arith, before.as_many) in
      let ones : number_of (map start_bit kept) ≡ 63 = omega (arith, all_ones kept before.all_set, ap (λ n. 2 ^ n) long) in
      led-kept due (kept ++ status ∷ []) (record {
        begins = omega (arith, set-append kept (status ∷ []) before.all_set, set_none status [] clear);
        as_many = omega (arith, length-append kept (status ∷ []));
        clear_13 = λ long. absurd (omega (arith, length-append kept (status ∷ []), before.as_many));
        value_bits = pushed value_bit kept status bits one bit before.values e is;
        start_bits = pushed start_bit kept status 63 0 false ones refl (sym clear);
      });
}

-- ---- within a message
-- whatever comes next, a message begins at the front
begins_at : (kept : List ℕ) (taken values starts : ℕ) (more : List ℕ) → IsEnhancedFront taken values starts kept → 7 ≤ taken → set_before (kept ++ more) ≡ 6
begins_at kept taken values starts more front some = set-stays kept more (omega (arith, front.begins, front.as_many)) ∙ front.begins

clear_at_13 : (kept : List ℕ) (taken values starts : ℕ) (more : List ℕ) → IsEnhancedFront taken values starts kept → 12 < taken → start_bit (slice_index (kept ++ more) 12) ≡ false
clear_at_13 kept taken values starts more front long =
    let there : 12 < length kept = omega (arith, front.as_many) in
    ap start_bit (get_or-append kept more 0 12 there) ∙ front.clear_13 there

-- the frame at the end of what is kept
frame_at : (kept : List ℕ) (count status : ℕ) (more : List ℕ) → length kept ≡ count → slice_index (kept ++ status ∷ more) count ≡ status
frame_at kept count status more long = ap (λ n. slice_index (kept ++ status ∷ more) n) (sym long) ∙ get_or-append_seam kept status more 0

-- what stands at the front ends before this status
ended_before : (next : EnhancedState) (kept : List ℕ) (status used : ℕ) (step : SerialStep) → suc used ≡ length kept → begun_at (kept ++ status ∷ []) ≡ ended step used → AgreesEnhanced next tt (status ∷ [])
    → Led enhanced_found (AgreesEnhanced next) tt (kept ++ status ∷ []) (step ∷ [])
ended_before next [] status used step long ends agrees = absurd (omega arith)
ended_before next (first ∷ later) status used step long ends agrees =
    let same : used ≡ length later = omega arith in
    led-past enhanced-keeps tt tt first later (status ∷ []) (step ∷ []) (finds-first first (later ++ status ∷ []) ∙ ends ∙ ap (ended step) same) agrees

pub lead-13 : (taken values starts status : ℕ) (next : EnhancedState) → taken ≡ 12 → start_bit status ≡ true → AgreesEnhanced next tt (status ∷ [])
    → Leads enhanced_found (AgreesEnhanced (Within taken values starts)) (AgreesEnhanced next) (status ∷ []) (Bad Zero13 ∷ [])
lead-13 taken values starts status next twelve set agrees = record {
  each = λ due kept front.
      let whole = kept ++ status ∷ [] in
      let long : length whole ≡ 13 = omega (arith, length-append kept (status ∷ []), front.as_many) in
      let last : start_bit (slice_index whole 12) ≡ true = ap start_bit (frame_at kept 12 status [] (omega (arith, front.as_many))) ∙ set in
      ended_before next kept status 11 (Bad Zero13) (omega (arith, front.as_many))
      (at-begun whole (begins_at kept taken values starts (status ∷ []) front (omega arith)) (omega arith) ∙ begun-13 whole (omega arith) last) agrees;
}

pub lead-18 : (taken values starts status : ℕ) (next : EnhancedState) → taken ≡ 17 → start_bit status ≡ true → AgreesEnhanced next tt (status ∷ [])
    → Leads enhanced_found (AgreesEnhanced (Within taken values starts)) (AgreesEnhanced next) (status ∷ []) (Bad Zero18 ∷ [])
lead-18 taken values starts status next seventeen set agrees = record {
  each = λ due kept front.
      let whole = kept ++ status ∷ [] in
      let long : length whole ≡ 18 = omega (arith, length-append kept (status ∷ []), front.as_many) in
      let clear : start_bit (slice_index whole 12) ≡ false = clear_at_13 kept taken values starts (status ∷ []) front (omega arith) in
      let last : start_bit (slice_index whole 17) ≡ true = ap start_bit (frame_at kept 17 status [] (omega (arith, front.as_many))) ∙ set in
      ended_before next kept status 16 (Bad Zero18) (omega (arith, front.as_many))
      (at-begun whole (begins_at kept taken values starts (status ∷ []) front (omega arith)) (omega arith) ∙ begun-18 whole (omega arith) clear last) agrees;
}

-- the start bit is clear in the frame that a test was for, once that test failed
pub clear_where : (taken frame : ℕ) (start bit : Bool) → ((start ≡ true) × (taken ≡ frame → ⊥)) ⊎ (start ≡ false) → start ≡ bit → taken ≡ frame → bit ≡ false
clear_where taken frame start bit (inl other) is there = absurd (other.1 there)
clear_where taken frame start bit (inr clear) is there = sym is ∙ clear

-- the frame that comes next is clear where it is the thirteenth
clear_then : (kept : List ℕ) (taken values starts status : ℕ) → IsEnhancedFront taken values starts kept → (taken ≡ 12 → start_bit status ≡ false)
    → 12 < length (kept ++ status ∷ []) → start_bit (slice_index (kept ++ status ∷ []) 12) ≡ false
clear_then kept taken values starts status front thirteenth long =
    elim (cases_lt 12 (length kept)) [
      | inl there ↦ clear_at_13 kept taken values starts (status ∷ []) front (omega (arith, front.as_many))
      | inr short ↦
          let twelve : length kept ≡ 12 = omega (arith, length-append kept (status ∷ [])) in
          ap start_bit (frame_at kept 12 status [] twelve) ∙ thirteenth (omega (arith, front.as_many))
    ]

pub lead-more : (taken values starts status value start : ℕ) (value_is start_is : Bool) → 7 ≤ taken → (taken ≡ 12 → start_bit status ≡ false)
    → value ≡ bool_byte value_is → value_is ≡ value_bit status → start ≡ bool_byte start_is → start_is ≡ start_bit status
    → Leads enhanced_found (AgreesEnhanced (Within taken values starts)) (AgreesEnhanced (Within (taken + 1) (2 * values + value) (2 * starts + start))) (status ∷ []) []
lead-more taken values starts status value start value_is start_is some thirteenth v vs s ss = record {
  each = λ due kept front. led-kept due (kept ++ status ∷ []) (record {
    begins = begins_at kept taken values starts (status ∷ []) front some;
    as_many = omega (arith, length-append kept (status ∷ []), front.as_many);
    clear_13 = clear_then kept taken values starts status front thirteenth;
    value_bits = pushed value_bit kept status values value value_is front.value_bits v vs;
    start_bits = pushed start_bit kept status starts start start_is front.start_bits s ss;
  });
}

told : (wide : Bool) (a b c d : ℕ) (right : Bool) → steps_of (cond right (cond wide (Enhanced a b true) (Enhanced c d false)) (Bad SerialCheck)) ≡ cond right (cond wide (Enhanced a b true) (Enhanced c d false)) (Bad SerialCheck) ∷ []
told true a b c d true = refl
told false a b c d true = refl
told true a b c d false = refl
told false a b c d false = refl

pub steps-message : (statuses : List ℕ) → steps_of (enhanced_message statuses) ≡ enhanced_message statuses ∷ []
unfolding enhanced_message enhanced_content
steps-message statuses = told _ _ _ _ _ _

-- eighteen statuses are a message
eighteen : (all : List ℕ) (step : SerialStep) → length all ≡ 18 → begun_at all ≡ ended step 17 → Led enhanced_found (AgreesEnhanced (Searching 0 0)) tt all (step ∷ [])
eighteen [] step long ends = absurd (omega arith)
eighteen (first ∷ later) step long ends =
    let same : 17 ≡ length later = omega arith in
    led-whole enhanced-keeps tt tt first later (step ∷ []) (finds-first first later ∙ ends ∙ ap (ended step) same) run-none

pub lead-whole : (taken values starts status value start : ℕ) (value_is start_is : Bool) (step : SerialStep) → taken ≡ 17 → start_bit status ≡ false
    → value ≡ bool_byte value_is → value_is ≡ value_bit status → start ≡ bool_byte start_is → start_is ≡ start_bit status
    → ((statuses : List ℕ) → HasBits statuses (2 * values + value) (2 * starts + start) → step ≡ enhanced_message statuses)
    → Leads enhanced_found (AgreesEnhanced (Within taken values starts)) (AgreesEnhanced (Searching 0 0)) (status ∷ []) (steps_of step)
lead-whole taken values starts status value start value_is start_is step seventeen clear v vs s ss says = record {
  each = λ due kept front.
      let all = kept ++ status ∷ [] in
      let long : length all ≡ 18 = omega (arith, length-append kept (status ∷ []), front.as_many) in
      let bits : HasBits all (2 * values + value) (2 * starts + start) = record {
        as_many = long;
        value_bits = pushed value_bit kept status values value value_is front.value_bits v vs;
        start_bits = pushed start_bit kept status starts start start_is front.start_bits s ss;
      } in
      let begins : set_before all ≡ 6 = begins_at kept taken values starts (status ∷ []) front (omega arith) in
      let clear_13 : start_bit (slice_index all 12) ≡ false = clear_at_13 kept taken values starts (status ∷ []) front (omega arith) in
      let clear_18 : start_bit (slice_index all 17) ≡ false = ap start_bit (frame_at kept 17 status [] (omega (arith, front.as_many))) ∙ clear in
      let same : take 18 all ≡ all = ap (λ n. take n all) (sym long) ∙ take-length all in
      let said : steps_of step ≡ enhanced_message all ∷ [] = ap steps_of (says all bits) ∙ steps-message all in
      rw said (eighteen all (enhanced_message all) long
      (at-begun all begins (omega arith) ∙ begun-whole all (omega arith) clear_13 clear_18 ∙ ap (λ statuses. ended (enhanced_message statuses) 17) same));
}

-- ---- one status more
waits_at : (state : EnhancedState) (kept : List ℕ) → IsEnhancedState state → AgreesEnhanced state tt kept → begun_at kept ≡ Waiting []
waits_at (Searching run bits) kept valid before = at-run kept before.all_set (omega (arith, before.as_many, valid.few))
waits_at (Within taken values starts) kept valid front =
    at-begun kept front.begins (omega (arith, front.as_many, valid.some))
    ∙ elim (cases_lt 12 (length kept)) [
      | inl there ↦ begun-late kept (omega arith) (front.clear_13 (omega arith)) (omega (arith, front.as_many, valid.few))
      | inr short ↦ begun-early kept (omega arith)
    ]

-- what is kept ends nothing
pub enhanced-waits : (state : EnhancedState) → IsEnhancedState state → Waits enhanced_found (AgreesEnhanced state) []
enhanced-waits state valid = record {
  none = λ due kept agrees. (waits-none kept (waits_at state kept valid agrees)).0;
  at_end = λ due kept agrees. (waits-none kept (waits_at state kept valid agrees)).1;
}

pub enhanced-pushed : (state old next : EnhancedState) (seen : List ℕ) (status : ℕ) (steps : List SerialStep) → state ≡ old → StandsForEnhanced old seen
    → IsEnhancedState next → Leads enhanced_found (AgreesEnhanced state) (AgreesEnhanced next) (status ∷ []) steps → StandsForEnhanced next (seen ++ status ∷ [])
enhanced-pushed state old next seen status steps view stands valid leads =
    stands-more enhanced_found tt (AgreesEnhanced state) (AgreesEnhanced next) seen (status ∷ []) steps [] (subst (λ (s : EnhancedState). StandsForEnhanced s seen) (sym view) stands) leads (enhanced-waits next valid)

pub enhanced-grows : (state old next : EnhancedState) (seen : List ℕ) (status : ℕ) (steps : List SerialStep) → state ≡ old → StandsForEnhanced old seen
    → IsEnhancedState next → Leads enhanced_found (AgreesEnhanced state) (AgreesEnhanced next) (status ∷ []) steps → enhanced_reading (seen ++ status ∷ []) ≡ enhanced_reading seen ++ steps
unfolding enhanced_reading
enhanced-grows state old next seen status steps view stands valid leads =
    reads-more enhanced_found tt (AgreesEnhanced state) (AgreesEnhanced next) seen (status ∷ []) steps [] (subst (λ (s : EnhancedState). StandsForEnhanced s seen) (sym view) stands) leads (enhanced-waits next valid)

-- a reader that has kept nothing stands for nothing
pub enhanced-fresh : StandsForEnhanced (Searching 0 0) []
enhanced-fresh = stands-none enhanced_found tt (AgreesEnhanced (Searching 0 0)) run-none

-- What was answered stays when more statuses come.
--     short-none, enhanced-none      nothing is read from no status
--     short-keeps, enhanced-keeps      what is found stays when more statuses come
--     short-front, enhanced-front      the steps of some statuses are a front of those of these and more
use Rattle.std.proofs.Common.{◌≡◌, inl, inr, ℕ, ◌<◌, ◌≤◌, List, [], ◌∷◌, ◌++◌, Bool, true, false, map, take, length, length-append, ap, ◌∙◌, arith}
use Rattle.std.specs.Prelude.{slice_index}
use Rattle.std.proofs.Math.ListN.{get_or-append}
use Rattle.std.proofs.lemmas.Bool.{cases_Bool, cases_lt}
use Rattle.std.proofs.lemmas.List.{take-append-le}
use Rattle.line_base.specs.Streams.{IsFrontOf}
use Rattle.line_base.specs.declared.rule.Rule.TheVariants.{Restart}
use Rattle.sent_serial.specs.declared.step.SerialStep.TheVariants.{Bad}
use Rattle.sent_serial.specs.Statuses.{clear_before, set_before, start_bit, value_bit}
use Rattle.line_base.specs.Readings.{skipped, ended}
use Rattle.line_base.proofs.Readings.{Keeps, KeepsFound, keeps-alike, keeps-as, keeps-waits, read-front, read-nil}
use Rattle.sent_serial.specs.Short.{short_found, short_message, short_reading}
use Rattle.sent_serial.specs.Enhanced.{begun, begun_at, enhanced_found, enhanced_message, enhanced_reading}
use Rattle.sent_serial.proofs.EnhancedSteps.{at-begun, at-run, at-seven, at-skipped, begun-13, begun-18, begun-early, begun-late, begun-whole}
use Rattle.sent_serial.proofs.ShortSteps.{found-message, found-restart, found-skipped, found-waits}
use Rattle.sent_serial.proofs.StartBits.{clear-append, clear-stays, clear_before-le, set-append, set-stays, set_before-le}

-- ---- short messages
message-stays : (status : ℕ) (later more : List ℕ) → start_bit status ≡ true → 15 ≤ clear_before later → 15 ≤ clear_before (later ++ more) → Keeps (short_found tt status later) (short_found tt status (later ++ more))
message-stays status later more starts enough still =
    let fits : 15 ≤ length later = omega (arith, clear_before-le later) in
    keeps-alike (short_found tt status later) (short_found tt status (later ++ more)) (ended (short_message (map value_bit (status ∷ take 15 later))) 15)
    (found-message status later starts enough)
    (found-message status (later ++ more) starts still ∙ ap (λ l. ended (short_message (map value_bit (status ∷ l))) 15) (take-append-le 15 later more fits))

fewer_clear : (status : ℕ) (later more : List ℕ) → start_bit status ≡ true → clear_before later < length later → Keeps (short_found tt status later) (short_found tt status (later ++ more))
fewer_clear status later more starts fewer =
    let same : clear_before (later ++ more) ≡ clear_before later = clear-stays later more fewer in
    elim (cases_lt (clear_before later) 15) [
      | inl short ↦
          keeps-alike (short_found tt status later) (short_found tt status (later ++ more)) (ended (Bad Restart) (clear_before later))
          (found-restart status later starts fewer short)
          (found-restart status (later ++ more) starts (omega (arith, length-append later more)) (omega arith) ∙ ap (ended (Bad Restart)) same)
      | inr enough ↦ message-stays status later more starts enough (omega arith)
    ]

all_are_clear : (status : ℕ) (later more : List ℕ) → start_bit status ≡ true → clear_before later ≡ length later → Keeps (short_found tt status later) (short_found tt status (later ++ more))
all_are_clear status later more starts all =
    elim (cases_lt (length later) 15) [
      | inl short ↦ keeps-waits (short_found tt status later) (short_found tt status (later ++ more)) [] (found-waits status later starts all short)
      | inr enough ↦ message-stays status later more starts (omega arith) (omega (arith, clear-append later more all))
    ]

short_keeps : (status : ℕ) (later more : List ℕ) → Keeps (short_found tt status later) (short_found tt status (later ++ more))
short_keeps status later more =
    elim (cases_Bool (start_bit status)) [
      | inl starts ↦
          elim (cases_lt (clear_before later) (length later)) [
            | inl fewer ↦ fewer_clear status later more starts fewer
            | inr all ↦ all_are_clear status later more starts (omega (arith, clear_before-le later))
          ]
      | inr clear ↦ keeps-alike (short_found tt status later) (short_found tt status (later ++ more)) skipped (found-skipped status later clear) (found-skipped status (later ++ more) clear)
    ]

-- what is found of short messages stays when more statuses come
pub short-keeps : KeepsFound short_found
short-keeps = record { each = λ due status later more. short_keeps status later more }

-- the same bit in a longer list
same_start : (statuses more : List ℕ) (place : ℕ) (bit : Bool) → place < length statuses → start_bit (slice_index statuses place) ≡ bit → start_bit (slice_index (statuses ++ more) place) ≡ bit
same_start statuses more place bit within is = ap start_bit (get_or-append statuses more 0 place within) ∙ is

-- ---- enhanced messages
eighteen-stay : (statuses more : List ℕ) → 17 < length statuses → start_bit (slice_index statuses 12) ≡ false → Keeps (begun statuses) (begun (statuses ++ more))
eighteen-stay statuses more long clear =
    let longer : 17 < length (statuses ++ more) = omega (arith, length-append statuses more) in
    let clear' = same_start statuses more 12 false (omega arith) clear in
    elim (cases_Bool (start_bit (slice_index statuses 17))) [
      | inl set ↦
          keeps-alike (begun statuses) (begun (statuses ++ more)) _ (begun-18 statuses long clear set) (begun-18 (statuses ++ more) longer clear' (same_start statuses more 17 true long set))
      | inr last ↦
          keeps-alike (begun statuses) (begun (statuses ++ more)) (ended (enhanced_message (take 18 statuses)) 17)
          (begun-whole statuses long clear last)
          (begun-whole (statuses ++ more) longer clear' (same_start statuses more 17 false long last) ∙ ap (λ l. ended (enhanced_message l) 17) (take-append-le 18 statuses more (omega arith)))
    ]

thirteen-stay : (statuses more : List ℕ) → 12 < length statuses → Keeps (begun statuses) (begun (statuses ++ more))
thirteen-stay statuses more long =
    let longer : 12 < length (statuses ++ more) = omega (arith, length-append statuses more) in
    elim (cases_Bool (start_bit (slice_index statuses 12))) [
      | inl set ↦
          keeps-alike (begun statuses) (begun (statuses ++ more)) _ (begun-13 statuses long set) (begun-13 (statuses ++ more) longer (same_start statuses more 12 true long set))
      | inr clear ↦
          elim (cases_lt 17 (length statuses)) [
            | inl whole ↦ eighteen-stay statuses more whole clear
            | inr short ↦ keeps-waits (begun statuses) (begun (statuses ++ more)) [] (begun-late statuses long clear short)
          ]
    ]

begun-stays : (statuses more : List ℕ) → Keeps (begun statuses) (begun (statuses ++ more))
begun-stays statuses more =
    elim (cases_lt 12 (length statuses)) [
      | inl long ↦ thirteen-stay statuses more long
      | inr short ↦ keeps-waits (begun statuses) (begun (statuses ++ more)) [] (begun-early statuses short)
    ]

fewer_set : (statuses more : List ℕ) → set_before statuses < length statuses → Keeps (begun_at statuses) (begun_at (statuses ++ more))
fewer_set statuses more fewer =
    let same : set_before (statuses ++ more) ≡ set_before statuses = set-stays statuses more fewer in
    let longer : length statuses ≤ length (statuses ++ more) = omega (arith, length-append statuses more) in
    elim (cases_lt (set_before statuses) 6) [
      | inl few ↦ keeps-alike (begun_at statuses) (begun_at (statuses ++ more)) skipped (at-skipped statuses few fewer) (at-skipped (statuses ++ more) (omega arith) (omega arith))
      | inr enough ↦
          elim (cases_lt 6 (set_before statuses)) [
            | inl many ↦ keeps-alike (begun_at statuses) (begun_at (statuses ++ more)) skipped (at-seven statuses many) (at-seven (statuses ++ more) (omega arith))
            | inr six ↦
                keeps-as (begun_at statuses) (begun_at (statuses ++ more)) (begun statuses) (begun (statuses ++ more))
                (at-begun statuses (omega arith) (omega arith)) (at-begun (statuses ++ more) (omega arith) (omega arith)) (begun-stays statuses more)
          ]
    ]

all_are_set : (statuses more : List ℕ) → set_before statuses ≡ length statuses → Keeps (begun_at statuses) (begun_at (statuses ++ more))
all_are_set statuses more all =
    elim (cases_lt 6 (length statuses)) [
      | inl many ↦
          keeps-alike (begun_at statuses) (begun_at (statuses ++ more)) skipped (at-seven statuses (omega arith)) (at-seven (statuses ++ more) (omega (arith, set-append statuses more all)))
      | inr few ↦ keeps-waits (begun_at statuses) (begun_at (statuses ++ more)) [] (at-run statuses all few)
    ]

front-stays : (statuses more : List ℕ) → Keeps (begun_at statuses) (begun_at (statuses ++ more))
front-stays statuses more =
    elim (cases_lt (set_before statuses) (length statuses)) [
      | inl fewer ↦ fewer_set statuses more fewer
      | inr all ↦ all_are_set statuses more (omega (arith, set_before-le statuses))
    ]

-- nor does what is found of enhanced messages change
pub enhanced-keeps : KeepsFound enhanced_found
unfolding enhanced_found
enhanced-keeps = record { each = λ due status later more. front-stays (status ∷ later) more }

-- ---- the laws
-- nothing is read from no status
pub short-none : short_reading [] ≡ []
unfolding short_reading
short-none = read-nil short_found tt

pub enhanced-none : enhanced_reading [] ≡ []
unfolding enhanced_reading
enhanced-none = read-nil enhanced_found tt

-- the steps of some statuses are a front of those of these and more
pub short-front : (seen more : List ℕ) → IsFrontOf (short_reading seen) (short_reading (seen ++ more))
unfolding short_reading
short-front seen more = read-front short_found short-keeps 0 tt seen more

pub enhanced-front : (seen more : List ℕ) → IsFrontOf (enhanced_reading seen) (enhanced_reading (seen ++ more))
unfolding enhanced_reading
enhanced-front seen more = read-front enhanced_found enhanced-keeps 0 tt seen more

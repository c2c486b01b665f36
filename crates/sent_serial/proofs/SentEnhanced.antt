-- Enhanced messages that are sent, as they are read.
--     enhanced-said      what a whole one says
--     enhanced-is_reading      what is read of a part of one: no six start bits that are set stand before a clear one but in its first frames
use Rattle.std.proofs.Common.{◌≡◌, ℕ, zero, suc, ◌+◌, ◌-◌, ◌*◌, ◌/◌, ◌%◌, ◌<◌, ◌≤◌, List, [], ◌∷◌, ◌++◌, Bool, true, false, get_or, map, take, length, replicate, refl, sym, ap, ap₂, ◌∙◌, inl, inr, append-nil, length-append, arith}
use Rattle.std.proofs.lemmas.Bool.{cases_Bool, cases_lt}
use Rattle.std.proofs.lemmas.List.{get_or-append-add, get_or-replicate, take-append-le}
use Rattle.std.proofs.Math.ListN.{get_or-append, get_or-map}
use Rattle.std.proofs.Math.Seq.{take-length}
use Rattle.link_math.specs.Checks.{crc6_of}
use Rattle.link_math.specs.Division.{bits_of}
use Rattle.link_math.proofs.BitLists.{bits_of-mod}
use Rattle.link_math.proofs.CheckRegister.{crc6_remainder-below}
use Rattle.line_base.specs.Readings.{ended}
use Rattle.sent_serial.specs.declared.step.SerialStep.{SerialStep}
use Rattle.sent_serial.specs.declared.step.SerialStep.TheVariants as step
use Rattle.sent_serial.specs.Statuses.{merged, start_bit, value_bit, set_before}
use Rattle.sent_serial.specs.Enhanced.{enhanced_message, enhanced_reading}
use Rattle.sent_serial.specs.Messages.{IsMessageOf}
use Rattle.sent_serial.specs.SentStatuses.{enhanced_statuses, later_starts, statuses_with_check, statuses_sent}
use Rattle.sent_serial.specs.Sendings.{IsEnhanced}
use Rattle.sent_serial.proofs.EnhancedSteps.{at-begun, at-run, at-skipped, begun-early, begun-late, begun-whole, reads-ended, reads-skipped, reads-waiting}
use Rattle.sent_serial.proofs.KeptBits.{length-map}
use Rattle.sent_serial.proofs.Prefixes.{enhanced-none}
use Rattle.sent_serial.proofs.SentBits.{SameBits, SameStarts, front_at, same_at, same_length, start_bits-of, value_bits-of}
use Rattle.sent_serial.proofs.SentFields.{front-starts, front-values, lower-starts, start_bits-narrow, start_bits-wide}
use Rattle.sent_serial.proofs.SentMessages.{enhanced-sent, narrow-said, set_from, wide-said}
use Rattle.sent_serial.proofs.SentParts.{IsReading, StandsIn}
use Rattle.sent_serial.proofs.StartBits.{all_set-later, no_set, set_before-le, set_here, set_none, set-stays}

-- ---- the bits of a message
-- its CRC
abbrev check_of : ℕ → ℕ → Bool → ℕ
check_of id value wide = crc6_of (merged (bits_of 12 value) (later_starts id value wide))

same-many : (id value : ℕ) (wide : Bool) → length (bits_of 6 (check_of id value wide) ++ bits_of 12 value) ≡ length (replicate 6 true ++ later_starts id value wide)
unfolding bits_of later_starts
same-many id value wide = refl

enhanced-values : (id value : ℕ) (wide : Bool) → map value_bit (enhanced_statuses id value wide) ≡ bits_of 6 (check_of id value wide) ++ bits_of 12 value
unfolding enhanced_statuses statuses_with_check
enhanced-values id value wide = value_bits-of (bits_of 6 (check_of id value wide) ++ bits_of 12 value) (replicate 6 true ++ later_starts id value wide) (same-many id value wide)

enhanced-starts : (id value : ℕ) (wide : Bool) → map start_bit (enhanced_statuses id value wide) ≡ replicate 6 true ++ later_starts id value wide
unfolding enhanced_statuses statuses_with_check
enhanced-starts id value wide = start_bits-of (bits_of 6 (check_of id value wide) ++ bits_of 12 value) (replicate 6 true ++ later_starts id value wide) (same-many id value wide)

-- the start bits that are the same in all messages
record AreEnhancedStarts (all : List ℕ) : Type 0 where
  long : length all ≡ 18
  six : (place : ℕ) → place < 6 → start_bit (get_or all place 0) ≡ true
  clear_7 : start_bit (get_or all 6 0) ≡ false
  clear_13 : start_bit (get_or all 12 0) ≡ false
  clear_18 : start_bit (get_or all 17 0) ≡ false

-- these of a list of start bits
record AreFixed (starts : List Bool) : Type 0 where
  long : length starts ≡ 18
  six : (place : ℕ) → place < 6 → get_or starts place false ≡ true
  clear_7 : get_or starts 6 false ≡ false
  clear_13 : get_or starts 12 false ≡ false
  clear_18 : get_or starts 17 false ≡ false

fixed : (id value : ℕ) (wide : Bool) → AreFixed (replicate 6 true ++ later_starts id value wide)
unfolding bits_of later_starts
fixed id value wide = record {
  long = refl;
  six = λ place small. get_or-append (replicate 6 true) (later_starts id value wide) false place small ∙ get_or-replicate 6 place true false small;
  clear_7 = refl;
  clear_13 = refl;
  clear_18 = refl;
}

starts_from : (all : List ℕ) (starts : List Bool) → map start_bit all ≡ starts → AreFixed starts → AreEnhancedStarts all
starts_from all starts is are =
    let at = λ (place : ℕ). sym (get_or-map start_bit all place 0) ∙ ap (λ bits. get_or bits place false) is in
    record {
      long = sym (length-map start_bit all) ∙ ap length is ∙ are.long;
      six = λ place small. at place ∙ are.six place small;
      clear_7 = at 6 ∙ are.clear_7;
      clear_13 = at 12 ∙ are.clear_13;
      clear_18 = at 17 ∙ are.clear_18;
    }

sent_starts : (message : SerialStep) → IsEnhanced message → AreEnhancedStarts (statuses_sent message)
unfolding statuses_sent
sent_starts step.Nothing sent = absurd sent
sent_starts (step.Short id value) sent = absurd sent
sent_starts (step.Enhanced id value wide) sent = starts_from (enhanced_statuses id value wide) (replicate 6 true ++ later_starts id value wide) (enhanced-starts id value wide) (fixed id value wide)
sent_starts (step.Bad rule) sent = absurd sent

kept_starts : (kept all : List ℕ) → SameBits kept all → AreEnhancedStarts all → AreEnhancedStarts kept
kept_starts kept all same are = record {
  long = same_length kept all same ∙ are.long;
  six = λ place small. same_at kept all place same ∙ are.six place small;
  clear_7 = same_at kept all 6 same ∙ are.clear_7;
  clear_13 = same_at kept all 12 same ∙ are.clear_13;
  clear_18 = same_at kept all 17 same ∙ are.clear_18;
}

-- ---- how a whole one is read
reads-message : (kept later : List ℕ) → AreEnhancedStarts kept → enhanced_reading (kept ++ later) ≡ enhanced_message kept ∷ enhanced_reading later
reads-message kept later are =
    let all = kept ++ later in
    let long : length all ≡ 18 + length later = omega (arith, length-append kept later, are.long) in
    let six : set_before kept ≡ 6 = set_from kept 6 (omega (arith, are.long)) are.six are.clear_7 in
    let still : set_before all ≡ 6 = set-stays kept later (omega (arith, are.long)) ∙ six in
    let clear_13 : start_bit (get_or all 12 0) ≡ false = ap start_bit (get_or-append kept later 0 12 (omega (arith, are.long))) ∙ are.clear_13 in
    let clear_18 : start_bit (get_or all 17 0) ≡ false = ap start_bit (get_or-append kept later 0 17 (omega (arith, are.long))) ∙ are.clear_18 in
    let front : take 18 all ≡ kept = take-append-le 18 kept later (omega (arith, are.long)) ∙ ap (λ n. take n kept) (sym are.long) ∙ take-length kept in
    reads-ended kept later (enhanced_message kept) 17 (omega (arith, are.long))
    (at-begun all still (omega arith) ∙ begun-whole all (omega arith) clear_13 clear_18 ∙ ap (λ frames. ended (enhanced_message frames) 17) front)

-- ---- what it says
check_small : (id value : ℕ) (wide : Bool) → check_of id value wide < 64
unfolding crc6_of
check_small id value wide =
    let bits = merged (bits_of 12 value) (later_starts id value wide) in
    let front = false ∷ true ∷ false ∷ true ∷ false ∷ true ∷ [] in
    let zeros = false ∷ false ∷ false ∷ false ∷ false ∷ false ∷ [] in
    crc6_remainder-below ((front ++ bits) ++ zeros) (omega (arith, length-append (front ++ bits) zeros))

is_message : (kept : List ℕ) (id value free : ℕ) (wide : Bool) → free < 2048 → free / 32 % 2 ≡ 0 → free % 2 ≡ 0 → bits_of 12 free ≡ later_starts id value wide
    → SameBits kept (enhanced_statuses id value wide) → IsMessageOf kept (258048 + free) (value % 4096)
is_message kept id value free wide small zero_13 zero_18 are same =
    let check = check_of id value wide in
    let low : bits_of 12 (value % 4096) ≡ bits_of 12 value = bits_of-mod 12 value in
    let low_small : value % 4096 < 4096 = omega arith in
    enhanced-sent kept check (value % 4096) free small zero_13 zero_18 low_small (check_small id value wide)
    (ap₂ (λ v s. crc6_of (merged v s)) (sym low) (sym (lower-starts free ∙ are)))
    (same.values ∙ enhanced-values id value wide ∙ sym (front-values check (value % 4096) (check_small id value wide) low_small ∙ ap (λ bits. bits_of 6 check ++ bits) low))
    (same.starts ∙ enhanced-starts id value wide ∙ sym (front-starts free small ∙ ap (λ bits. replicate 6 true ++ bits) are))

reads-alone : (kept : List ℕ) (id value : ℕ) (wide : Bool) → IsEnhanced (step.Enhanced id value wide) → SameBits kept (enhanced_statuses id value wide) → enhanced_reading kept ≡ step.Enhanced id value wide ∷ []
reads-alone kept id value true sent same =
    let free = 1024 + 64 * id + 2 * (value / 4096) in
    let id_small : id < 16 = sent.0 in
    let value_small : value < 65536 = sent.1 in
    wide-said kept id value free (value % 4096) id_small value_small refl refl
    (is_message kept id value free true (omega arith) (omega arith) (omega arith) (start_bits-wide id value id_small value_small) same)
reads-alone kept id value false sent same =
    let free = 64 * (id / 16) + 2 * (id % 16) in
    let id_small : id < 256 = sent.0 in
    let value_small : value < 4096 = sent.1 in
    narrow-said kept id value free (value % 4096) id_small value_small refl (omega arith)
    (is_message kept id value free false (omega arith) (omega arith) (omega arith) (start_bits-narrow id value id_small) same)

same_first : (a b : SerialStep) → a ∷ [] ≡ b ∷ [] → a ≡ b
same_first a b same = cc

pub enhanced-said : (message : SerialStep) (kept : List ℕ) → IsEnhanced message → SameBits kept (statuses_sent message) → enhanced_message kept ≡ message
unfolding statuses_sent
enhanced-said step.Nothing kept sent same = absurd sent
enhanced-said (step.Short id value) kept sent same = absurd sent
enhanced-said (step.Enhanced id value wide) kept sent same =
    let are = kept_starts kept (enhanced_statuses id value wide) same (sent_starts (step.Enhanced id value wide) sent) in
    let alone : enhanced_reading kept ≡ enhanced_message kept ∷ [] =
    ap enhanced_reading (sym (append-nil kept)) ∙ reads-message kept [] are ∙ ap (λ steps. enhanced_message kept ∷ steps) enhanced-none in
    same_first (enhanced_message kept) (step.Enhanced id value wide) (sym alone ∙ reads-alone kept id value wide sent same)
enhanced-said (step.Bad rule) kept sent same = absurd sent

-- ---- how a part is read
all_set : (statuses : List ℕ) → ((place : ℕ) → place < length statuses → start_bit (get_or statuses place 0) ≡ true) → set_before statuses ≡ length statuses
all_set [] each = no_set
all_set (status ∷ later) each = set_here status later (each 0 (omega arith)) ∙ ap suc (all_set later (λ place within. each (suc place) (omega arith)))

waits : (message : SerialStep) (kept front : List ℕ) (next : ℕ) (left : List ℕ) → IsEnhanced message → StandsIn message front next left → SameBits kept front → enhanced_reading kept ≡ []
waits message kept front next left sent stands same =
    let are = sent_starts message sent in
    let many : length kept ≡ length front = same_length kept front same in
    let few : length kept < 18 = omega (arith, are.long, ap length stands.is, length-append front (next ∷ left)) in
    let at = λ (place : ℕ) (within : place < length kept). front_at kept front (next ∷ left) (statuses_sent message) place same stands.is (omega arith) in
    elim (cases_lt 6 (length kept)) [
      | inl more ↦
          let six : set_before kept ≡ 6 = set_from kept 6 more (λ place small. at place (omega arith) ∙ are.six place small) (at 6 more ∙ are.clear_7) in
          elim (cases_lt 12 (length kept)) [
            | inl late ↦ reads-waiting kept (at-begun kept six more ∙ begun-late kept late (at 12 late ∙ are.clear_13) (omega arith))
            | inr early ↦ reads-waiting kept (at-begun kept six more ∙ begun-early kept early)
          ]
      | inr run ↦ reads-waiting kept (at-run kept (all_set kept (λ place within. at place within ∙ are.six place (omega arith))) run)
    ]

whole : (message : SerialStep) (kept later : List ℕ) → IsEnhanced message → SameBits kept (statuses_sent message) → enhanced_reading (kept ++ later) ≡ message ∷ enhanced_reading later
whole message kept later sent same =
    reads-message kept later (kept_starts kept (statuses_sent message) same (sent_starts message sent)) ∙ ap (λ said. said ∷ enhanced_reading later) (enhanced-said message kept sent same)

-- fewer than six set start bits begin no message
few_set : (status : ℕ) (later : List ℕ) → set_before (status ∷ later) < 6 → enhanced_reading (status ∷ later) ≡ enhanced_reading later
few_set status later few =
    elim (cases_lt (set_before (status ∷ later)) (length (status ∷ later))) [
      | inl clear ↦ reads-skipped status later (at-skipped (status ∷ later) few clear)
      | inr most ↦
          let all : set_before (status ∷ later) ≡ length (status ∷ later) = omega (arith, set_before-le (status ∷ later)) in
          reads-waiting (status ∷ later) (at-run (status ∷ later) all (omega arith))
          ∙ sym (reads-waiting later (at-run later (all_set-later status later all) (omega arith)))
    ]

-- no more are set than stand before a clear one
set_up_to : (left later : List ℕ) (place : ℕ) → place < length left → start_bit (get_or left place 0) ≡ false → SameStarts left later → set_before later ≤ place
set_up_to [] later place within clear same = absurd (omega arith)
set_up_to (bits ∷ left) [] place within clear same = omega (arith, no_set)
set_up_to (bits ∷ left) (status ∷ later) zero within clear same = omega (arith, set_none status later (same.0 ∙ clear))
set_up_to (bits ∷ left) (status ∷ later) (suc place) within clear same =
    elim (cases_Bool (start_bit status)) [
      | inl set ↦ omega (arith, set_here status later set, set_up_to left later place (omega arith) clear same.1)
      | inr none ↦ omega (arith, set_none status later none)
    ]

-- a clear start bit up to five frames later
before_clear : (message : SerialStep) (front : List ℕ) (next : ℕ) (left : List ℕ) (status : ℕ) (later : List ℕ) (clear distance : ℕ) → IsEnhanced message → StandsIn message front next left
    → length front + distance ≡ clear → distance < 6 → clear < 18 → start_bit (get_or (statuses_sent message) clear 0) ≡ false → start_bit status ≡ start_bit next → SameStarts left later
    → enhanced_reading (status ∷ later) ≡ enhanced_reading later
before_clear message front next left status later clear distance sent stands fits near within is same alike =
    let are = sent_starts message sent in
    let here : get_or (statuses_sent message) clear 0 ≡ get_or (next ∷ left) distance 0 =
    ap₂ (λ all n. get_or all n 0) stands.is (sym fits) ∙ get_or-append-add front (next ∷ left) distance 0 in
    few_set status later
    (omega (arith, set_up_to (next ∷ left) (status ∷ later) distance (omega (arith, are.long, ap length stands.is, length-append front (next ∷ left))) (ap start_bit (sym here) ∙ is) (same, alike)))

rest : (message : SerialStep) (front : List ℕ) (next : ℕ) (left : List ℕ) (status : ℕ) (later : List ℕ) → IsEnhanced message → StandsIn message front next left → 0 < length front
    → start_bit status ≡ start_bit next → SameStarts left later → enhanced_reading (status ∷ later) ≡ enhanced_reading later
rest message front next left status later sent stands some same alike =
    let are = sent_starts message sent in
    let place = length front in
    let few : place < 18 = omega (arith, are.long, ap length stands.is, length-append front (next ∷ left)) in
    elim (cases_lt 6 place) [
      | inl behind_7 ↦
          elim (cases_lt 12 place) [
            | inl behind_13 ↦ before_clear message front next left status later 17 (17 - place) sent stands (omega arith) (omega arith) (omega arith) are.clear_18 same alike
            | inr up_to_13 ↦ before_clear message front next left status later 12 (12 - place) sent stands (omega arith) (omega arith) (omega arith) are.clear_13 same alike
          ]
      | inr up_to_7 ↦ before_clear message front next left status later 6 (6 - place) sent stands (omega arith) (omega arith) (omega arith) are.clear_7 same alike
    ]

plain : (status : ℕ) (later : List ℕ) → start_bit status ≡ false → enhanced_reading (status ∷ later) ≡ enhanced_reading later
plain status later clear = few_set status later (omega (arith, set_none status later clear))

pub enhanced-is_reading : IsReading IsEnhanced enhanced_reading
enhanced-is_reading = record {
  none = enhanced-none;
  plain = plain;
  waits = waits;
  whole = whole;
  rest = rest;
}

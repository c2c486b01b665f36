-- What the bounds on an honest trace come to in the tests of a reading.
--     frame_range, quiet_range      the bounds of a setup that is accepted
--     after_quiet           a trigger's fall is after quiet
--     rise_passed, fall_passed      no rise is, and no fall that comes soon
--     lasts_recorded        a recorded width or delay is in its span
--     asks_code             so a trigger asks for its code
--     delay_soon, calibration_soon, value_soon      the first fall of an answer and the others come soon
use Rattle.std.proofs.Common.{◌≡◌, ℕ, ◌+◌, ◌-◌, ◌*◌, ◌<◌, ◌≤◌, Bool, true, false, not, ◌&&◌, ◌||◌, cond, nat_le, nat_lt, None, Some, get_or, refl, arith}
use Rattle.std.proofs.Math.Nat.{mul-le-mul_left}
use Rattle.std.proofs.lemmas.Bool.Decides.{nat_tests}
use Rattle.line_base.specs.Spans.{no_span}
use Rattle.line_base.specs.declared.edge.Edge.{Edge}
use Rattle.line_base.specs.declared.edge.Span.{Span}
use Rattle.line_base.specs.declared.faults.SetupFault.TheVariants as fault
use Rattle.link_math.proofs.Thresholds.{both_le}
use Rattle.sent_frame.specs.Setup as frame
use Rattle.spc_link.specs.Setup.{Settings, are_windows, fault_of, is_wide}
use Rattle.spc_link.specs.Reading.{code_of, is_after_quiet, lasts}
use Rattle.spc_link.specs.Transactions.{IsInWindow}
use Rattle.spc_link.proofs.Windows.{window-asks}
use Rattle.link_tolerance.specs.Recorded.{IsRecorded}
use Rattle.link_tolerance.specs.Ticks.{IsTick, IsOwnTick}
use Rattle.link_tolerance.proofs.HeardPulses.{nibble_short}
use Rattle.spc_tolerance.specs.Trains.{IsTriggerSent, LastsInside, Trigger}
use Rattle.spc_tolerance.specs.Traces.{IsQuiet}

-- ---- the setup
pub frame_range : (tick jitter nibbles : ℕ) → frame.fault_of tick jitter nibbles ≡ None → frame.InRange tick jitter nibbles
frame_range tick jitter nibbles accepted = grind (arith, nat_tests)

-- the quiet time is at least 70 ticks, and longer than each delay
pub record IsQuietLong (s : Settings) : Type 0 where
  pub long : 700 ≤ s.quiet
  pub above_delay : s.delay.high < s.quiet

quiet_of : (pause windows delay : Bool) (quiet high : ℕ)
    → cond pause (Some fault.Pause) (cond (not windows) (Some fault.Windows) (cond (not delay) (Some fault.Delay) (cond (nat_lt quiet 700 || (nat_lt 10000 quiet || nat_le quiet high)) (Some fault.Quiet) None))) ≡ None
    → (700 ≤ quiet) × (high < quiet)
quiet_of true windows delay quiet high e = absurd (cc)
quiet_of false false delay quiet high e = absurd (cc)
quiet_of false true false quiet high e = absurd (cc)
quiet_of false true true quiet high e = grind (arith, nat_tests)

pub quiet_range : (s : Settings) → fault_of s.sent s.windows s.delay s.quiet ≡ None → IsQuietLong s
quiet_range s accepted =
    let parts = quiet_of s.sent.pause (are_windows s.windows) (is_wide s.delay) s.quiet s.delay.high accepted in
    record { long = parts.0; above_delay = parts.1 }

-- ---- after quiet or not
fall_test : (a b : ℕ) (level : Bool) → level ≡ false → a ≤ b → (not level && nat_le a b) ≡ true
fall_test a b true e le = absurd (cc)
fall_test a b false e le = grind (arith, nat_tests)

soon_test : (a b : ℕ) (level : Bool) → b < a → (not level && nat_le a b) ≡ false
soon_test a b true below = refl
soon_test a b false below = grind (arith, nat_tests)

pub after_quiet : (s : Settings) (before ideal : ℕ) (fall : Edge) → fall.level ≡ false → IsRecorded s.sent.jitter ideal fall.time → IsQuiet s before ideal → is_after_quiet s before fall ≡ true
after_quiet s before ideal fall down recorded quiet = fall_test (s.quiet * s.sent.tick) (10 * (fall.time - before)) fall.level down (omega arith)

-- a fall at this ideal time comes too soon to be after quiet, behind an ideal edge at that time
pub record IsSoon (s : Settings) (last fall : ℕ) : Type 0 where
  pub soon : fall + 2000 * s.sent.jitter < last + 100 * s.sent.tick * s.quiet
  pub some : 1 ≤ s.sent.tick * s.quiet

pub fall_passed : (s : Settings) (before last ideal : ℕ) (fall : Edge) → last ≤ 1000 * (before + s.sent.jitter) → IsSoon s last ideal → IsRecorded s.sent.jitter ideal fall.time → is_after_quiet s before fall ≡ false
fall_passed s before last ideal fall there soon recorded = soon_test (s.quiet * s.sent.tick) (10 * (fall.time - before)) fall.level (omega arith)

pub rise_passed : (s : Settings) (before : ℕ) (rise : Edge) → rise.level ≡ true → is_after_quiet s before rise ≡ false
rise_passed s before rise up = rw up refl

-- ---- widths and delays
pub lasts_recorded : (s : Settings) (span : Span) (first last begin end : ℕ) → LastsInside s span (last - first) → IsRecorded s.sent.jitter first begin → IsRecorded s.sent.jitter last end → lasts s.sent.tick span (end - begin) ≡ true
lasts_recorded s span first last begin end inside at_first at_last =
    both_le (span.low * s.sent.tick) (10 * (end - begin)) (10 * (end - begin)) (span.high * s.sent.tick) (omega arith) (omega arith)

pub asks_code : (s : Settings) (trigger : Trigger) (fall rise : ℕ) → fault_of s.sent s.windows s.delay s.quiet ≡ None → 1 ≤ s.sent.tick → IsTriggerSent s trigger
    → IsRecorded s.sent.jitter trigger.fall fall → IsRecorded s.sent.jitter trigger.rise rise → code_of s (rise - fall) ≡ Some trigger.code
asks_code s trigger fall rise accepted some sent at_fall at_rise =
    let window : IsInWindow s trigger.code (rise - fall) = record {
      there = sent.code;
      inside = lasts_recorded s (get_or s.windows trigger.code no_span) trigger.fall trigger.rise fall rise sent.width at_fall at_rise;
    } in
    window-asks s trigger.code (rise - fall) accepted some window

-- ---- falls that come soon
pub delay_soon : (s : Settings) (rise start : ℕ) → IsQuietLong s → 1 ≤ s.sent.tick → LastsInside s s.delay (start - rise) → IsSoon s rise start
delay_soon s rise start quiet some inside =
    let more = mul-le-mul_left s.sent.tick quiet.above_delay in
    record { soon = omega (arith, more); some = omega (arith, more) }

-- a pulse of at most 56 of the longest ticks
pub pulse_soon : (s : Settings) (last pulse : ℕ) → frame.InRange s.sent.tick s.sent.jitter s.sent.nibbles → IsQuietLong s → pulse ≤ 67200 * s.sent.tick → IsSoon s last (last + pulse)
pulse_soon s last pulse range quiet short =
    let more = mul-le-mul_left s.sent.tick quiet.long in
    record { soon = omega (arith, more); some = omega (arith, more) }

pub calibration_soon : (s : Settings) (last tick : ℕ) → frame.InRange s.sent.tick s.sent.jitter s.sent.nibbles → IsQuietLong s → IsTick s.sent.tick tick → IsSoon s last (last + 56 * tick)
calibration_soon s last tick range quiet is_tick = pulse_soon s last (56 * tick) range quiet (omega arith)

pub value_soon : (s : Settings) (last tick own value : ℕ) → frame.InRange s.sent.tick s.sent.jitter s.sent.nibbles → IsQuietLong s → IsTick s.sent.tick tick → IsOwnTick tick own → value < 16 → IsSoon s last (last + (12 + value) * own)
value_soon s last tick own value range quiet is_tick is_own below =
    let short = nibble_short s.sent.tick tick own value is_tick is_own below in
    pulse_soon s last ((12 + value) * own) range quiet (omega (arith, short))

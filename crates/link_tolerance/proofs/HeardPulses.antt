-- What is heard of a pulse, and what the thresholds make of it.
--     heard_between           the time between two recorded edges
--     calibration_heard, calibrations_steady      calibration pulses
--     nibble_heard, nibble_short, never_long      pulses of 12 ticks and a nibble
--     pause_heard             pauses
use Rattle.std.proofs.Common.{◌≡◌, ℕ, ◌+◌, ◌-◌, ◌*◌, ◌<◌, ◌≤◌, true, false, Some, arith}
use Rattle.std.proofs.Math.Nat.{mul-le-mul_left}
use Rattle.std.proofs.lemmas.Nat.{mul-le}
use Rattle.link_math.specs.Sent.{Carries, is_calibration, is_pause, is_steady, value_of}
use Rattle.link_math.proofs.Nibbles.{value_is}
use Rattle.link_math.proofs.Thresholds.{both_le, first_above}
use Rattle.link_tolerance.specs.Recorded.{IsHeard, IsRecorded}
use Rattle.link_tolerance.specs.Ticks.{FollowsTick, IsOwnTick, IsTick}

-- the jitter of both edges
pub heard_between : (jitter ideal length first last : ℕ) → IsRecorded jitter ideal first → IsRecorded jitter (ideal + length) last → IsHeard jitter length (last - first)
heard_between jitter ideal length first last at_first at_last = record { not_too_short = omega arith; not_too_long = omega arith }

-- ---- calibration pulses
pub calibration_heard : (nominal jitter tick heard : ℕ) → IsTick nominal tick → IsHeard jitter (56 * tick) heard → is_calibration heard nominal jitter ≡ true
calibration_heard nominal jitter tick heard is_tick pulse =
    both_le (224 * nominal) (5 * heard + 10 * jitter) (5 * heard) (336 * nominal + 10 * jitter) (omega arith) (omega arith)

pub calibrations_steady : (nominal jitter before tick earlier later : ℕ) → 10 * jitter ≤ nominal → IsTick nominal before → FollowsTick before tick
    → IsHeard jitter (56 * before) earlier → IsHeard jitter (56 * tick) later → is_steady earlier later ≡ true
calibrations_steady nominal jitter before tick earlier later small is_tick follows first second =
    both_le (64 * later) (65 * earlier) (63 * earlier) (64 * later) (omega arith) (omega arith)

-- ---- nibbles
pub nibble_heard : (nominal jitter tick own value calibration heard : ℕ) → 1 ≤ jitter → 10 * jitter ≤ nominal → IsTick nominal tick → IsOwnTick tick own → value < 16
    → IsHeard jitter (56 * tick) calibration → IsHeard jitter ((12 + value) * own) heard → Carries heard calibration value
nibble_heard nominal jitter tick own value calibration heard some small is_tick is_own below long pulse =
    let lower = mul-le-mul_left value is_own.not_below in
    let upper = mul-le-mul_left value is_own.not_above in
    let short = mul-le-mul_left value long.not_too_short in
    let long_by = mul-le-mul_left value long.not_too_long in
    let ticks = mul-le value tick 15 tick (omega arith) (omega arith) in
    let jitters = mul-le value jitter 15 jitter (omega arith) (omega arith) in
    record {
      is_nibble = below;
      not_below = omega (arith, lower, upper, short, long_by, ticks, jitters);
      not_above = omega (arith, lower, upper, short, long_by, ticks, jitters);
    }

pub value_heard : (nominal jitter tick own value calibration heard : ℕ) → 1 ≤ jitter → 10 * jitter ≤ nominal → IsTick nominal tick → IsOwnTick tick own → value < 16
    → IsHeard jitter (56 * tick) calibration → IsHeard jitter ((12 + value) * own) heard → value_of heard calibration ≡ Some value
value_heard nominal jitter tick own value calibration heard some small is_tick is_own below long pulse =
    value_is heard calibration value (nibble_heard nominal jitter tick own value calibration heard some small is_tick is_own below long pulse)

-- a pulse of 27 ticks is far below 56
pub nibble_short : (nominal tick own value : ℕ) → IsTick nominal tick → IsOwnTick tick own → value < 16 → (12 + value) * own ≤ 33000 * nominal
nibble_short nominal tick own value is_tick is_own below = omega (arith, mul-le value own 15 own (omega arith) (omega arith))

pub never_long : (nominal jitter length heard : ℕ) → 1 ≤ jitter → 10 * jitter ≤ nominal → length ≤ 33000 * nominal → IsHeard jitter length heard → is_calibration heard nominal jitter ≡ false
never_long nominal jitter length heard some small short pulse =
    first_above (224 * nominal) (5 * heard + 10 * jitter) (5 * heard) (336 * nominal + 10 * jitter) (omega arith)

-- ---- pauses
pub pause_heard : (nominal jitter tick own count calibration heard : ℕ) → 10 * jitter ≤ nominal → IsTick nominal tick → IsOwnTick tick own → 12 ≤ count → count ≤ 768
    → IsHeard jitter (56 * tick) calibration → IsHeard jitter (count * own) heard → is_pause heard calibration ≡ true
pause_heard nominal jitter tick own count calibration heard small is_tick is_own least most long pulse =
    let lower = mul-le 12 own count own (omega arith) (omega arith) in
    let upper = mul-le count own 768 own (omega arith) (omega arith) in
    both_le (23 * calibration) (112 * heard) (112 * heard) (1548 * calibration) (omega (arith, lower, upper)) (omega (arith, lower, upper))

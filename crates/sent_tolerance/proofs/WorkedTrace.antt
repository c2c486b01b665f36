-- The trace in numbers is honest, and what is read of it.
use Rattle.std.proofs.Common.{◌≡◌, ℕ, ◌+◌, ◌*◌, ◌<◌, Bool, true, false, ◌&&◌, nat_le, List, [], ◌∷◌, drop, map, refl, arith}
use Rattle.std.proofs.lemmas.Bool.{and_parts}
use Rattle.std.proofs.lemmas.List.Elements.{All-cons, All-nil}
use Rattle.std.specs.List.{All, list_all}
use Rattle.link_math.specs.Checks.{crc4_of, crc4_remainder, seeded}
use Rattle.link_math.specs.Division.{bits_of, divided, number_of, remainder, take_away}
use Rattle.link_math.proofs.Thresholds.{both_le_parts}
use Rattle.sent_frame.specs.Pulses.{Fall, falls_of}
use Rattle.sent_frame.specs.Reading.{sent_reading}
use Rattle.link_tolerance.specs.Recorded.{AreRecorded}
use Rattle.link_tolerance.specs.Ticks.{IsNear, IsOwnTick}
use Rattle.sent_tolerance.specs.FromFirst.{heard_from, heard_of}
use Rattle.sent_tolerance.specs.Traces.{IsHonest}
use Rattle.sent_tolerance.specs.Trains.{IsTrain, ideal_falls}
use Rattle.link_tolerance.specs.Pulses.{falls_behind}
use Rattle.sent_tolerance.specs.Worked.{cut_frame, whole_frame, worked_edges, worked_reports, worked_sendings, worked_setup}
use Rattle.sent_tolerance.proofs.HeardTrains.{read_honest}

-- ---- by tests of numbers
abbrev is_near : ℕ → ℕ → ℕ → Bool
is_near parts tick other = nat_le (parts * tick) (parts * other + tick) && nat_le (parts * other) (parts * tick + tick)

near_by_test : (parts tick other : ℕ) → is_near parts tick other ≡ true → IsNear parts tick other
near_by_test parts tick other passes =
    let parts_of = both_le_parts (parts * tick) (parts * other + tick) (parts * other) (parts * tick + tick) passes in
    record { not_below = parts_of.0; not_above = parts_of.1 }

all_near : (tick : ℕ) (own : List ℕ) → list_all (is_near 400 tick) own ≡ true → All (IsOwnTick tick) own
all_near tick [] pass = All-nil (IsOwnTick tick)
all_near tick (own ∷ owns) pass =
    let each = and_parts (is_near 400 tick own) (list_all (is_near 400 tick) owns) pass in
    All-cons (IsOwnTick tick) own owns (near_by_test 400 tick own each.0) (all_near tick owns each.1)

abbrev are_recorded : ℕ → List ℕ → List ℕ → Bool
are_recorded jitter [] [] = true
are_recorded jitter [] (time ∷ times) = false
are_recorded jitter (ideal ∷ ideals) [] = false
are_recorded jitter (ideal ∷ ideals) (time ∷ times) =
    (nat_le ideal (1000 * (time + jitter)) && nat_le (1000 * time) (ideal + 1000 * jitter)) && are_recorded jitter ideals times

all_recorded : (jitter : ℕ) (ideals times : List ℕ) → are_recorded jitter ideals times ≡ true → AreRecorded jitter ideals times
all_recorded jitter [] [] pass = tt
all_recorded jitter [] (time ∷ times) pass = absurd (cc)
all_recorded jitter (ideal ∷ ideals) [] pass = absurd (cc)
all_recorded jitter (ideal ∷ ideals) (time ∷ times) pass =
    let each = and_parts (nat_le ideal (1000 * (time + jitter)) && nat_le (1000 * time) (ideal + 1000 * jitter)) (are_recorded jitter ideals times) pass in
    let both = both_le_parts ideal (1000 * (time + jitter)) (1000 * time) (ideal + 1000 * jitter) each.0 in
    (record { not_too_early = both.0; not_too_late = both.1 }, all_recorded jitter ideals times each.1)

small_nibble : (nibble : ℕ) → nibble < 16 → All (λ n. n < 16) (nibble ∷ [])
small_nibble nibble small = All-cons (λ n. n < 16) nibble [] small (All-nil (λ n. n < 16))

-- ---- the trace
worked_train : IsTrain worked_setup worked_sendings
worked_train = (
  record {
    fits = record { status = omega arith; as_many = refl; nibbles = small_nibble 7 (omega arith) };
    pause = λ paused. (omega arith, omega arith);
    tick = record { not_below = omega arith; not_above = omega arith };
    one_for_each = refl;
    own_ticks = all_near 3200000 (3208000 ∷ 3192000 ∷ 3200000 ∷ 3205000 ∷ []) refl;
  },
  near_by_test 200 3200000 3216000 refl,
  (
    record {
      fits = record { status = omega arith; as_many = refl; nibbles = small_nibble 12 (omega arith) };
      pause = λ paused. (omega arith, omega arith);
      tick = record { not_below = omega arith; not_above = omega arith };
      one_for_each = refl;
      own_ticks = all_near 3216000 (3224040 ∷ 3207960 ∷ 3216000 ∷ 3224000 ∷ []) refl;
    },
    tt,
    tt,
  ),
)

-- their falls in ps
abbrev worked_falls : List ℕ
worked_falls = 5000000123 ∷ 5179200123 ∷ 5217696123 ∷ 5278344123 ∷ 5361544123 ∷ 5682044123 ∷ 5862140123 ∷ 5910500723 ∷ 5987491763 ∷ 6042163763 ∷ 8518195763 ∷ []

worked_ideal : ideal_falls worked_setup 5000000123 worked_sendings ≡ worked_falls
unfolding ideal_falls falls_behind crc4_of seeded bits_of crc4_remainder number_of remainder divided take_away
worked_ideal = refl

worked_times : AreRecorded 300 (drop 2 worked_falls) (map (λ (fall : Fall). fall.time) (falls_of worked_edges))
worked_times = all_recorded 300 (drop 2 worked_falls) (map (λ (fall : Fall). fall.time) (falls_of worked_edges)) refl

pub worked_honest : IsHonest worked_setup (cut_frame ∷ whole_frame ∷ []) worked_edges
worked_honest = record {
  accepted = refl;
  sent = worked_sendings;
  carries = refl;
  train = worked_train;
  start = 5000000123;
  left_out = 2;
  recorded = rw worked_ideal worked_times;
  opens = rw worked_ideal (omega arith);
}

pub worked_reading : sent_reading worked_setup worked_edges ≡ worked_reports
unfolding heard_of heard_from
worked_reading = read_honest worked_setup (cut_frame ∷ whole_frame ∷ []) worked_edges worked_honest

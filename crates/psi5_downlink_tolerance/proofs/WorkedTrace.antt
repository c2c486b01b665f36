-- The trace in numbers is honest, and what is read of it.
use Rattle.std.proofs.Common.{◌≡◌, ℕ, ◌+◌, ◌*◌, ◌≤◌, Bool, true, false, ◌&&◌, nat_le, Some, List, [], ◌∷◌, drop, take, refl, sym, subst, ◌∙◌, arith}
use Rattle.std.proofs.lemmas.Bool.{and_parts}
use Rattle.std.proofs.lemmas.List.Elements.{All-cons, All-nil}
use Rattle.std.specs.List.{All, list_all}
use Rattle.link_math.specs.Checks.{crc3_of, crc3_remainder}
use Rattle.link_math.specs.Division.{bits_of, divided, number_of, remainder, take_away}
use Rattle.link_math.proofs.Thresholds.{both_le_parts}
use Rattle.psi5_downlink.specs.declared.down.Form.TheVariants.{Short}
use Rattle.psi5_downlink.specs.Frames.{frame_of, with_ones}
use Rattle.psi5_downlink.specs.Reading.{tooth_reading}
use Rattle.psi5_downlink.specs.Rises.{intervals_after}
use Rattle.link_tolerance.specs.Recorded.{AreRecorded}
use Rattle.psi5_downlink_tolerance.specs.FromFirst.{from_first, gap_count, goods_in}
use Rattle.psi5_downlink_tolerance.specs.Traces.{IsHonest, OpensBehind}
use Rattle.psi5_downlink_tolerance.specs.Trains.{IsSent, IsTrain, Lasts, Sending, Span, ideal_rises, periods_of, rises_behind, train_periods}
use Rattle.psi5_downlink_tolerance.specs.Worked.{cut_message, whole_message, worked_rises, worked_sent, worked_setup, worked_spans, worked_steps}
use Rattle.psi5_downlink_tolerance.proofs.HeardPeriods.{counts_of, times_of}
use Rattle.psi5_downlink_tolerance.proofs.ReadTrains.{read_honest}

-- ---- by tests of numbers
abbrev lasts : ℕ → Span → Bool
lasts period span = nat_le (950 * (span.periods * period)) span.length && nat_le span.length (1050 * (span.periods * period))

all_last : (period : ℕ) (spans : List Span) → list_all (lasts period) spans ≡ true → All (Lasts period) spans
all_last period [] pass = All-nil (Lasts period)
all_last period (span ∷ spans) pass =
    let each = and_parts (lasts period span) (list_all (lasts period) spans) pass in
    let both = both_le_parts (950 * (span.periods * period)) span.length span.length (1050 * (span.periods * period)) each.0 in
    All-cons (Lasts period) span spans (record { not_too_short = both.0; not_too_long = both.1 }) (all_last period spans each.1)

abbrev are_recorded : ℕ → List ℕ → List ℕ → Bool
are_recorded jitter [] [] = true
are_recorded jitter [] (time ∷ times) = false
are_recorded jitter (ideal ∷ ideals) [] = false
are_recorded jitter (ideal ∷ ideals) (time ∷ times) =
    (nat_le ideal (1000 * (time + jitter)) && nat_le (1000 * time) (ideal + 1000 * jitter)) && are_recorded jitter ideals times

all_recorded : (jitter : ℕ) (ideals times : List ℕ) → are_recorded jitter ideals times ≡ true → AreRecorded jitter ideals times
all_recorded jitter [] [] pass = tt
all_recorded jitter [] (time ∷ times) pass = absurd (cc)
all_recorded jitter (ideal ∷ ideals) [] pass = absurd (cc)
all_recorded jitter (ideal ∷ ideals) (time ∷ times) pass =
    let each = and_parts (nat_le ideal (1000 * (time + jitter)) && nat_le (1000 * time) (ideal + 1000 * jitter)) (are_recorded jitter ideals times) pass in
    let both = both_le_parts ideal (1000 * (time + jitter)) (1000 * time) (ideal + 1000 * jitter) each.0 in
    (record { not_too_early = both.0; not_too_late = both.1 }, all_recorded jitter ideals times each.1)

-- ---- the trace
worked_train : IsTrain Short worked_sent
worked_train =
    let second : IsSent Short (record { down = whole_message; idle = 1; missing = 5 }) =
    record { fits = record { address = omega arith; function = omega arith; register = omega arith; value = omega arith }; gap = omega arith } in
    let spaced = λ (sending : Sending). IsSent Short sending × (1 ≤ sending.idle) in (
      record { fits = record { address = omega arith; function = omega arith; register = omega arith; value = omega arith }; gap = omega arith },
      All-cons spaced (record { down = whole_message; idle = 1; missing = 5 }) [] (second, omega arith) (All-nil spaced),
    )

worked_periods : counts_of worked_spans ≡ train_periods Short worked_sent 1
unfolding periods_of frame_of with_ones crc3_of crc3_remainder bits_of number_of remainder divided take_away
worked_periods = refl

-- their rises in ps
abbrev worked_ideals : List ℕ
worked_ideals =
    5000000123 ∷ 9200000123 ∷ 10150000123 ∷ 11200000123 ∷ 11700000123 ∷ 12225000123 ∷ 13175000123 ∷ 14225000123 ∷ 15225000123 ∷ 15700000123
    ∷ 16225000123 ∷ 16700000123 ∷ 19550000123 ∷ 20600000123 ∷ 22700000123 ∷ 24600000123 ∷ 26100000123 ∷ 26625000123 ∷ 27100000123 ∷ []

worked_ideal : ideal_rises 5000000123 worked_spans ≡ worked_ideals
unfolding rises_behind
worked_ideal = refl

worked_times : AreRecorded 31250 (drop 4 worked_ideals) (times_of worked_rises)
worked_times = all_recorded 31250 (drop 4 worked_ideals) (times_of worked_rises) refl

worked_opens : OpensBehind 31250 (Some 11400000) (take 4 worked_ideals)
worked_opens = omega arith

pub worked_honest : IsHonest worked_setup (cut_message ∷ whole_message ∷ []) (Some 11400000) worked_rises
worked_honest = record {
  accepted = refl;
  sent = worked_sent;
  carries = refl;
  train = worked_train;
  idle = 1;
  spans = worked_spans;
  periods = worked_periods;
  lasting = all_last 500000 worked_spans refl;
  start = 5000000123;
  left_out = 4;
  recorded = rw worked_ideal worked_times;
  opens = subst (λ (ideals : List ℕ). OpensBehind 31250 (Some 11400000) (take 4 ideals)) (sym worked_ideal) worked_opens;
}

worked_goods : from_first worked_setup (cut_message ∷ whole_message ∷ []) worked_rises ≡ worked_steps
unfolding goods_in gap_count intervals_after periods_of frame_of with_ones crc3_of crc3_remainder bits_of number_of remainder divided take_away
worked_goods = refl

pub worked_reading : tooth_reading worked_setup worked_rises ≡ worked_steps
worked_reading = read_honest worked_setup (cut_message ∷ whole_message ∷ []) (Some 11400000) worked_rises worked_honest ∙ worked_goods

-- How many periods are heard in the intervals between recorded rises.
--     setup_range      the bounds of a setup that is accepted
--     span_heard      what is heard of one interval
--     AreHeard      up to five periods are heard as they are, and six or more as six
--     heard_cut      so it is between recorded rises, but for the first ones
use Rattle.std.proofs.Common.{◌≡◌, ℕ, zero, suc, ◌+◌, ◌-◌, ◌*◌, ◌/◌, ◌<◌, ◌≤◌, None, List, [], ◌∷◌, map, drop, sym, ◌∙◌, subst, arith}
use Rattle.std.specs.List.{All}
use Rattle.std.proofs.lemmas.Bool.Decides.{nat_tests}
use Rattle.std.proofs.lemmas.List.{drop_all}
use Rattle.std.proofs.lemmas.List.Elements.{All-head, All-tail}
use Rattle.std.proofs.lemmas.Nat.{mul-le}
use Rattle.std.proofs.Math.Nat.{div-eq_of_lt-le, le-div_iff_mul-le}
use Rattle.link_math.specs.Periods.{periods_in}
use Rattle.link_math.proofs.Periods.{most, rounded}
use Rattle.psi5_downlink.specs.Setup.{InRange, Settings, fault_of}
use Rattle.psi5_downlink.specs.Rises.{Interval, Rise, intervals_after, intervals_of}
use Rattle.link_tolerance.specs.Recorded.{AreRecorded, IsHeard, IsRecorded}
use Rattle.link_tolerance.proofs.HeardPulses.{heard_between}
use Rattle.psi5_downlink_tolerance.specs.Trains.{Lasts, Span, ideal_rises, rises_behind}

pub setup_range : (period jitter : ℕ) → fault_of period jitter ≡ None → InRange period jitter
setup_range period jitter accepted = grind (arith, nat_tests)

-- ---- one interval
periods_are : (count distance period : ℕ) → 1 ≤ period → count < 6 → count * (2 * period) ≤ 2 * distance + period → 2 * distance + period < (count + 1) * (2 * period) → periods_in distance period ≡ count
periods_are count distance period some few low high =
    let is : (2 * distance + period) / (2 * period) ≡ count = div-eq_of_lt-le (2 * period) low high in
    sym (rounded distance period some (omega (arith, is))) ∙ is

periods_most : (distance period : ℕ) → 1 ≤ period → 6 * (2 * period) ≤ 2 * distance + period → periods_in distance period ≡ 6
periods_most distance period some low = sym (most distance period some ((le-div_iff_mul-le {k = 2 * period} {x = 6} {y = 2 * distance + period} (omega (arith, some))).1 low))

-- so many periods are heard of an interval that stands for so many: up to five are heard as they are, and six or more as six
pub record IsHeardAs (count heard : ℕ) : Type 0 where
  pub few : count ≤ 5 → heard ≡ count
  pub many : 6 ≤ count → heard ≡ 6

pub span_heard : (period jitter : ℕ) → InRange period jitter → (span : Span) → Lasts period span → (distance : ℕ) → IsHeard jitter span.length distance → IsHeardAs span.periods (periods_in distance period)
span_heard period jitter range span lasts distance heard = record {
  few = λ few. (let most_periods = mul-le span.periods period 5 period few (omega arith) in
      periods_are span.periods distance period (omega arith) (omega (arith, few)) (omega (arith, most_periods)) (omega (arith, most_periods)));
  many = λ many. (let least_periods = mul-le 6 period span.periods period many (omega arith) in periods_most distance period (omega arith) (omega (arith, least_periods)));
}

-- ---- all intervals
-- intervals of so many periods are heard as these, one by one
abbrev pub AreHeard : List ℕ → List Interval → Type 0
AreHeard [] [] = Unit {0}
AreHeard [] (interval ∷ intervals) = ⊥
AreHeard (count ∷ counts) [] = ⊥
AreHeard (count ∷ counts) (interval ∷ intervals) = IsHeardAs count interval.periods × AreHeard counts intervals

-- the times of rises
abbrev pub times_of : List Rise → List ℕ
times_of rises = map (λ (rise : Rise). rise.time) rises

-- for how many periods these intervals stand
abbrev pub counts_of : List Span → List ℕ
counts_of spans = map (λ (span : Span). span.periods) spans

heard_after : (period jitter : ℕ) → InRange period jitter → (ideal before : ℕ) (spans : List Span) (rises : List Rise) → All (Lasts period) spans → IsRecorded jitter ideal before
    → AreRecorded jitter (rises_behind ideal spans) (times_of rises) → AreHeard (counts_of spans) (intervals_after period before rises)
unfolding rises_behind intervals_after
heard_after period jitter range ideal before [] [] lasting first recorded = tt
heard_after period jitter range ideal before [] (rise ∷ rises) lasting first recorded = absurd recorded
heard_after period jitter range ideal before (span ∷ spans) [] lasting first recorded = absurd recorded
heard_after period jitter range ideal before (span ∷ spans) (rise ∷ rises) lasting first recorded = (
  span_heard period jitter range span (All-head (Lasts period) span spans lasting) (rise.time - before) (heard_between jitter ideal span.length before rise.time first recorded.0),
  heard_after period jitter range (ideal + span.length) rise.time spans rises (All-tail (Lasts period) span spans lasting) recorded.0 recorded.1,
)

nothing_recorded : (period jitter : ℕ) (rises : List Rise) → AreRecorded jitter [] (times_of rises) → AreHeard [] (intervals_of period rises)
nothing_recorded period jitter [] recorded = tt
nothing_recorded period jitter (rise ∷ rises) recorded = absurd recorded

pub heard_cut : (period jitter : ℕ) → InRange period jitter → (start cut : ℕ) (spans : List Span) (rises : List Rise) → All (Lasts period) spans → AreRecorded jitter (drop cut (ideal_rises start spans)) (times_of rises)
    → AreHeard (drop cut (counts_of spans)) (intervals_of period rises)
unfolding rises_behind
heard_cut period jitter range start zero spans [] lasting recorded = absurd recorded
heard_cut period jitter range start zero spans (rise ∷ rises) lasting recorded = heard_after period jitter range start rise.time spans rises lasting recorded.0 recorded.1
heard_cut period jitter range start (suc cut) [] rises lasting recorded =
    nothing_recorded period jitter rises (subst (λ (ideals : List ℕ). AreRecorded jitter ideals (times_of rises)) (drop_all cut [] (omega arith)) recorded)
heard_cut period jitter range start (suc cut) (span ∷ spans) rises lasting recorded = heard_cut period jitter range (start + span.length) cut spans rises (All-tail (Lasts period) span spans lasting) recorded

-- ---- of a setup that is accepted
pub few_heard : (s : Settings) (span : Span) (distance : ℕ) → fault_of s.period s.jitter ≡ None → Lasts s.period span → IsHeard s.jitter span.length distance → span.periods ≤ 5 → periods_in distance s.period ≡ span.periods
few_heard s span distance accepted lasts heard few = (span_heard s.period s.jitter (setup_range s.period s.jitter accepted) span lasts distance heard).few few

pub many_heard : (s : Settings) (span : Span) (distance : ℕ) → fault_of s.period s.jitter ≡ None → Lasts s.period span → IsHeard s.jitter span.length distance → 6 ≤ span.periods → periods_in distance s.period ≡ 6
many_heard s span distance accepted lasts heard many = (span_heard s.period s.jitter (setup_range s.period s.jitter accepted) span lasts distance heard).many many

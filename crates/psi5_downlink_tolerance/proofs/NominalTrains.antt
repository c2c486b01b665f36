-- Trains that have an honest trace.
--     are_honest      that of messages with exactly the nominal period
--     train_is_honest      that of an exact clock
--     silent_is_honest      that of no rise
use Rattle.std.proofs.Common.{◌≡◌, ℕ, suc, ◌+◌, ◌*◌, ◌≤◌, Option, None, Some, List, [], ◌∷◌, map, drop, take, get_or, refl, sym, ap, subst, arith}
use Rattle.std.specs.List.{All}
use Rattle.std.proofs.lemmas.List.Elements.{All-head, All-map, All-nil, All-tail}
use Rattle.psi5_downlink.specs.declared.down.Form.{Form}
use Rattle.psi5_downlink.specs.declared.down.Down.{Down}
use Rattle.psi5_downlink.specs.Frames.{Fits}
use Rattle.psi5_downlink.specs.Setup.{Settings, fault_of}
use Rattle.link_tolerance.specs.Recorded.{AreRecorded}
use Rattle.psi5_downlink_tolerance.specs.Nominal.{nominal_rises, nominal_sending, rises_at, times_behind, told_in_ns}
use Rattle.psi5_downlink_tolerance.specs.Traces.{IsHonest, OpensBehind}
use Rattle.psi5_downlink_tolerance.specs.Trains.{IsSent, IsTrain, Lasts, Sending, Span, ideal_rises, rises_behind, train_periods}
use Rattle.psi5_downlink_tolerance.proofs.HeardPeriods.{counts_of, setup_range, times_of}
use Rattle.psi5_downlink_tolerance.proofs.ReadTrains.{downs_of}

-- ---- what is sent
nominal_sent : (form : Form) (idle : ℕ) (down : Down) → Fits form down → IsSent form (nominal_sending idle down)
nominal_sent form idle down fits = record { fits = fits; gap = omega arith }

nominal_train : (form : Form) (idle : ℕ) → 1 ≤ idle → (messages : List Down) → All (Fits form) messages → IsTrain form (map (nominal_sending idle) messages)
nominal_train form idle some [] fit = tt
nominal_train form idle some (down ∷ downs) fit = (
  nominal_sent form idle down (All-head (Fits form) down downs fit),
  All-map (λ (sending : Sending). IsSent form sending × (1 ≤ sending.idle)) (nominal_sending idle) downs
      (λ k d within. (nominal_sent form idle (get_or downs k d) (All-tail (Fits form) down downs fit k d within), some)),
)

carries_all : (idle : ℕ) (messages : List Down) → downs_of (map (nominal_sending idle) messages) ≡ messages
carries_all idle [] = refl
carries_all idle (down ∷ downs) = ap (λ l. down ∷ l) (carries_all idle downs)

-- ---- when
-- an interval that lasts exactly its periods
abbrev exact : ℕ → ℕ → Span
exact period count = record { periods = count; length = 1000 * (count * period) }

exact_counts : (period : ℕ) (counts : List ℕ) → counts_of (map (exact period) counts) ≡ counts
exact_counts period [] = refl
exact_counts period (count ∷ counts) = ap (λ l. count ∷ l) (exact_counts period counts)

exact_lasts : (period : ℕ) (counts : List ℕ) → All (Lasts period) (map (exact period) counts)
exact_lasts period counts = All-map (Lasts period) (exact period) counts (λ k count within. record { not_too_short = omega arith; not_too_long = omega arith })

-- ---- what is recorded
times_are : (number : ℕ) (times : List ℕ) → times_of (rises_at number times) ≡ times
unfolding rises_at
times_are number [] = refl
times_are number (time ∷ times) = ap (λ l. time ∷ l) (times_are (suc (suc number)) times)

exact_recorded : (period jitter ideal time : ℕ) (counts : List ℕ) → ideal ≡ 1000 * time → AreRecorded jitter (rises_behind ideal (map (exact period) counts)) (times_behind period time counts)
unfolding rises_behind times_behind
exact_recorded period jitter ideal time [] same = tt
exact_recorded period jitter ideal time (count ∷ counts) same = (
  record { not_too_early = omega (arith, same); not_too_late = omega (arith, same) },
  exact_recorded period jitter (ideal + 1000 * (count * period)) (time + count * period) counts (omega (arith, same)),
)

pub are_honest : (s : Settings) (opening : Option ℕ) (start idle : ℕ) (messages : List Down) → fault_of s.period s.jitter ≡ None → All (Fits s.form) messages → 1 ≤ idle
    → IsHonest s messages opening (nominal_rises s start idle messages)
are_honest s opening start idle messages accepted fit some =
    let sent = map (nominal_sending idle) messages in
    let counts = train_periods s.form sent idle in
    let times = start ∷ times_behind s.period start counts in
    record {
      accepted = accepted;
      sent = sent;
      carries = carries_all idle messages;
      train = nominal_train s.form idle some messages fit;
      idle = idle;
      spans = map (exact s.period) counts;
      periods = exact_counts s.period counts;
      lasting = exact_lasts s.period counts;
      start = 1000 * start;
      left_out = 0;
      recorded = subst (λ (l : List ℕ). AreRecorded s.jitter (ideal_rises (1000 * start) (map (exact s.period) counts)) l) (sym (times_are 1 times))
          (record { not_too_early = omega arith; not_too_late = omega arith }, exact_recorded s.period s.jitter (1000 * start) start counts refl);
      opens = opens_first opening;
    }
  where
    opens_first : (at : Option ℕ) → OpensBehind s.jitter at []
    opens_first None = tt
    opens_first (Some time) = tt

-- ---- an exact clock
exact_clock : (jitter : ℕ) (ideals : List ℕ) → 1 ≤ jitter → AreRecorded jitter ideals (told_in_ns ideals)
exact_clock jitter [] some = tt
exact_clock jitter (ideal ∷ ideals) some = (record { not_too_early = omega arith; not_too_late = omega arith }, exact_clock jitter ideals some)

pub train_is_honest : (s : Settings) (opening : Option ℕ) (start idle left_out : ℕ) (sent : List Sending) (spans : List Span) → fault_of s.period s.jitter ≡ None → IsTrain s.form sent
    → counts_of spans ≡ train_periods s.form sent idle → All (Lasts s.period) spans → OpensBehind s.jitter opening (take left_out (ideal_rises start spans))
    → IsHonest s (downs_of sent) opening (rises_at 1 (told_in_ns (drop left_out (ideal_rises start spans))))
train_is_honest s opening start idle left_out sent spans accepted train periods lasting opens =
    let range = setup_range s.period s.jitter accepted in
    let ideals = drop left_out (ideal_rises start spans) in
    record {
      accepted = accepted;
      sent = sent;
      carries = refl;
      train = train;
      idle = idle;
      spans = spans;
      periods = periods;
      lasting = lasting;
      start = start;
      left_out = left_out;
      recorded = subst (λ (l : List ℕ). AreRecorded s.jitter ideals l) (sym (times_are 1 (told_in_ns ideals))) (exact_clock s.jitter ideals range.jitter_low);
      opens = opens;
    }

-- ---- no rise
pub silent_is_honest : (s : Settings) (opening : Option ℕ) → fault_of s.period s.jitter ≡ None → IsHonest s [] opening []
unfolding rises_behind
silent_is_honest s opening accepted = record {
  accepted = accepted;
  sent = [];
  carries = refl;
  train = tt;
  idle = 0;
  spans = [];
  periods = refl;
  lasting = All-nil (Lasts s.period);
  start = 0;
  left_out = 1;
  recorded = tt;
  opens = opens_behind opening;
}
  where
    opens_behind : (at : Option ℕ) → OpensBehind s.jitter at (0 ∷ [])
    opens_behind None = tt
    opens_behind (Some time) = omega arith

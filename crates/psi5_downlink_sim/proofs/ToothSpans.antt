-- The intervals of a message of the tooth gap.
--     sending_of, new_spans        a message that is sent, and its intervals behind the last pulse
--     spans-periods, spans-last    how many periods they stand for, and that they last so long
--     spans-long                   each is at least 19/20 of a nominal period
--     period-near, gap-wide        what is drawn is within its bounds
--     rises-are_falls, rises-append
--     ideal-is, end-is             when the rises of a message come
use Rattle.std.proofs.Common.{◌≡◌, ℕ, zero, suc, ◌+◌, ◌*◌, ◌%◌, ◌<◌, ◌≤◌, Bool, true, false, Option, None, Some, List, [], ◌∷◌, ◌++◌, map, sum, refl, ap, sym, arith}
use Rattle.std.specs.List.{All}
use Rattle.std.proofs.lemmas.List.Elements.{All-cons, All-head, All-nil, All-tail}
use Rattle.std.proofs.lemmas.List.Sums.{sum_by-cons}
use Rattle.std.proofs.lemmas.Nat.{mod_below, mul-le}
use Rattle.psi5_downlink.specs.declared.down.Down.{Down}
use Rattle.psi5_downlink.specs.declared.down.Form.{Form}
use Rattle.psi5_downlink.specs.Frames.{frame_of}
use Rattle.psi5_downlink.specs.Setup.{Settings}
use Rattle.link_tolerance.specs.Pulses.{falls_behind}
use Rattle.psi5_downlink_tolerance.specs.Trains.{Lasts, Sending, Span, frame_periods, message_periods, periods_of, rises_behind}
use Rattle.psi5_downlink_sim.specs.ToothSims.{ends_at, ideal_of, missing_drawn, period_drawn, span_of, spans_of}

-- how many intervals of one period come before a gap
abbrev pub idle_of : Option ℕ → ℕ
idle_of None = 0
idle_of (Some last) = 1

-- a message as it is sent behind a last pulse
abbrev pub sending_of : Option ℕ → Down → ℕ → Sending
sending_of last down missing = record { down = down; idle = idle_of last; missing = missing }

-- the lengths of intervals
abbrev pub lengths_of : List Span → List ℕ
lengths_of spans = map (λ (span : Span). span.length) spans

-- how many periods intervals stand for
abbrev pub counts_of : List Span → List ℕ
counts_of spans = map (λ (span : Span). span.periods) spans

-- its intervals: one of one period, but for the first message, the gap and those of the frame
abbrev pub new_spans : Option ℕ → Form → Down → ℕ → ℕ → List Span
new_spans last form down period missing = map (span_of period) (message_periods form (sending_of last down missing))

-- where they begin, in ps: at the last pulse, or at the first of all
abbrev pub starts_at : Settings → Option ℕ → ℕ
starts_at s None = 1000 * s.period
starts_at s (Some last) = last

-- the pulse that comes before them, if it isn't the last pulse
abbrev pub first_rises : Settings → Option ℕ → List ℕ
first_rises s None = 1000 * s.period ∷ []
first_rises s (Some last) = []

-- ---- periods
pub counts-back : (period : ℕ) (counts : List ℕ) → counts_of (map (span_of period) counts) ≡ counts
counts-back period [] = refl
counts-back period (count ∷ counts) = ap (λ l. count ∷ l) (counts-back period counts)

pub spans-last : (nominal period : ℕ) (counts : List ℕ) → 950 * nominal ≤ period → period ≤ 1050 * nominal → All (Lasts nominal) (map (span_of period) counts)
spans-last nominal period [] low high = All-nil (Lasts nominal)
spans-last nominal period (count ∷ counts) low high =
    All-cons (Lasts nominal) (span_of period count) (map (span_of period) counts)
    (record {
      not_too_short = omega (arith, mul-le count (950 * nominal) count period (omega arith) low);
      not_too_long = omega (arith, mul-le count period count (1050 * nominal) (omega arith) high);
    })
    (spans-last nominal period counts low high)

-- ---- lengths
periods-some : (since : ℕ) (bits : List Bool) → All (λ count. 1 ≤ count) (periods_of since bits)
unfolding periods_of
periods-some since [] = All-nil (λ count. 1 ≤ count)
periods-some since (false ∷ bits) = periods-some (suc since) bits
periods-some since (true ∷ bits) = All-cons (λ count. 1 ≤ count) (suc since) (periods_of zero bits) (omega arith) (periods-some zero bits)

gap-some : (form : Form) (down : Down) (missing : ℕ) → All (λ count. 1 ≤ count) (suc missing ∷ frame_periods form down)
gap-some form down missing = All-cons (λ count. 1 ≤ count) (suc missing) (frame_periods form down) (omega arith) (periods-some zero (frame_of form down))

message-some : (last : Option ℕ) (form : Form) (down : Down) (missing : ℕ) → All (λ count. 1 ≤ count) (message_periods form (sending_of last down missing))
message-some None form down missing = gap-some form down missing
message-some (Some last) form down missing = All-cons (λ count. 1 ≤ count) 1 (suc missing ∷ frame_periods form down) (omega arith) (gap-some form down missing)

long-all : (least period : ℕ) (counts : List ℕ) → least ≤ period → All (λ count. 1 ≤ count) counts → All (λ length. least ≤ length) (lengths_of (map (span_of period) counts))
long-all least period [] low some = All-nil (λ length. least ≤ length)
long-all least period (count ∷ counts) low some =
    let here : 1 ≤ count = All-head (λ count. 1 ≤ count) count counts some in
    All-cons (λ length. least ≤ length) (count * period) (lengths_of (map (span_of period) counts)) (omega (arith, mul-le 1 least count period here low))
    (long-all least period counts low (All-tail (λ count. 1 ≤ count) count counts some))

pub spans-long : (last : Option ℕ) (form : Form) (down : Down) (least period missing : ℕ) → least ≤ period → All (λ length. least ≤ length) (lengths_of (new_spans last form down period missing))
spans-long last form down least period missing low = long-all least period (message_periods form (sending_of last down missing)) low (message-some last form down missing)

-- ---- what is drawn
pub period-near : (nominal word : ℕ) → (950 * nominal ≤ period_drawn nominal word) × (period_drawn nominal word ≤ 1050 * nominal)
unfolding period_drawn
period-near nominal word =
    let below : word % (100 * nominal + 1) < 100 * nominal + 1 = mod_below word (100 * nominal + 1) (omega arith) in
    (omega arith, omega arith)

pub gap-wide : (word : ℕ) → 5 ≤ missing_drawn word
unfolding missing_drawn
gap-wide word = omega arith

-- ---- rises
pub rises-are_falls : (time : ℕ) (spans : List Span) → rises_behind time spans ≡ falls_behind time (lengths_of spans)
unfolding rises_behind falls_behind
rises-are_falls time [] = refl
rises-are_falls time (span ∷ spans) = ap (λ l. (time + span.length) ∷ l) (rises-are_falls (time + span.length) spans)

one-period : (period : ℕ) → 1 * period ≡ period
one-period period = omega arith

-- when the rises of a message come
pub ideal-is : (s : Settings) (last : Option ℕ) (down : Down) (period missing : ℕ) → ideal_of s last down period missing ≡ first_rises s last ++ rises_behind (starts_at s last) (new_spans last s.form down period missing)
unfolding ideal_of rises_behind
ideal-is s None down period missing = refl
ideal-is s (Some last) down period missing = ap (λ p. (last + p) ∷ rises_behind (last + p) (spans_of s.form down period missing)) (sym (one-period period))

pub end-is : (s : Settings) (last : Option ℕ) (down : Down) (period missing : ℕ) → ends_at s last down period missing ≡ starts_at s last + sum (lengths_of (new_spans last s.form down period missing))
unfolding ends_at
end-is s None down period missing = refl
end-is s (Some last) down period missing =
    let spans = spans_of s.form down period missing in
    omega (arith, one-period period, sum_by-cons (λ n. n) (1 * period) (lengths_of spans))

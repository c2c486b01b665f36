-- Where the bounds of what may be sent are.
--     shortest, shorter, longest, longer, closest, closer      half-bits, and the quiet between two frames
--     earliest, earlier, latest, later, no-window, no-sync, no-later_slot      answers in slots
--     at-end, before-end, behind, together, no-slots      sync pulses
use Rattle.std.proofs.Common.{◌≡◌, ℕ, ◌+◌, ◌*◌, ◌<◌, ◌≤◌, None, Some, List, [], ◌∷◌, length, refl, sym, ◌∙◌, ap, arith}
use Rattle.line_base.specs.declared.edge.Span.{Span}
use Rattle.psi5_frame.specs.declared.burst.Payload.{Payload}
use Rattle.psi5_frame.specs.Frames.{Fits}
use Rattle.psi5_frame.specs.Setup.{Settings, fault_of}
use Rattle.psi5_slots.specs.Meanings.{window_at}
use Rattle.psi5_tolerance.specs.Bounds.{answer, answer_and_sync, lone_frame, middle_frame, two_answers, two_frames}
use Rattle.psi5_tolerance.specs.Lines.{SyncWindows}
use Rattle.psi5_tolerance.specs.Traces.{AreSlots}
use Rattle.psi5_tolerance.specs.Trains.{SyncAt, FrameAt, SentBefore, IsAnswer, IsTrain, end_of}
use Rattle.psi5_tolerance.proofs.Intervals.{bounds-accepted}
use Rattle.psi5_tolerance.proofs.Windows.{windows-accepted, window-long}

-- ---- frames
pub shortest : (s : Settings) (payload : Payload) (start : ℕ) → Fits s.parts payload → IsTrain s None (lone_frame payload start (475 * s.bit))
shortest s payload start fits = (record { fits = fits; half_bits = record { not_below = omega arith; not_above = omega arith }; apart = tt; in_slot = refl }, tt)

pub shorter : (s : Settings) (payload : Payload) (start half : ℕ) → half + 1 ≡ 475 * s.bit → IsTrain s None (lone_frame payload start half) → ⊥
shorter s payload start half less train = omega (arith, less, train.0.half_bits.not_below)

pub longest : (s : Settings) (payload : Payload) (start : ℕ) → Fits s.parts payload → IsTrain s None (lone_frame payload start (525 * s.bit))
longest s payload start fits = (record { fits = fits; half_bits = record { not_below = omega arith; not_above = omega arith }; apart = tt; in_slot = refl }, tt)

pub longer : (s : Settings) (payload : Payload) (start : ℕ) → IsTrain s None (lone_frame payload start (525 * s.bit + 1)) → ⊥
longer s payload start train = omega (arith, train.0.half_bits.not_above)

pub closest : (s : Settings) (payload : Payload) (start : ℕ) → Fits s.parts payload → IsTrain s None (two_frames s payload start (1050 * s.bit))
closest s payload start fits = (
  record { fits = fits; half_bits = record { not_below = omega arith; not_above = omega arith }; apart = tt; in_slot = refl },
  (record { fits = fits; half_bits = record { not_below = omega arith; not_above = omega arith }; apart = omega arith; in_slot = refl }, tt),
)

pub closer : (s : Settings) (payload : Payload) (start quiet : ℕ) → quiet + 1 ≡ 1050 * s.bit → IsTrain s None (two_frames s payload start quiet) → ⊥
closer s payload start quiet less train = omega (arith, less, train.1.0.apart)

-- ---- slots
-- the number and the sync pulse that an answer has
same_answer : (jitter : ℕ) (windows : List Span) (before : SentBefore) (pulse number rise : ℕ) (h : IsAnswer jitter windows before (Some number) rise) → before.sync ≡ Some pulse → (h.sync ≡ pulse) × (h.number ≡ number)
same_answer jitter windows before pulse number rise h is =
    let pulses : Some h.sync ≡ Some pulse = sym h.is_after ∙ is in
    let numbers : Some h.number ≡ Some number = sym h.slot_is in
    (cc, cc)

pub earliest : (s : Settings) (sync : SyncWindows) (payload : Payload) (pulse number start : ℕ) → fault_of s.bit s.parts s.jitter ≡ None → AreSlots s (Some sync) → Fits s.parts payload → number < length sync.windows
    → start + 500 * s.bit ≡ pulse + (1000 * (window_at sync.windows number).low + 2000 * s.jitter) → IsTrain s (Some sync) (answer s payload pulse number start)
earliest s sync payload pulse number start accepted slots fits few at =
    let b = bounds-accepted s accepted in
    let long = window-long s.bit (4 * s.bit) sync.windows number (windows-accepted s sync.windows slots) few in (
      record { after_frame = tt; after_sync = tt },
      (
        record {
          fits = fits;
          half_bits = record { not_below = omega arith; not_above = omega arith };
          apart = tt;
          in_slot = record { sync = pulse; is_after = refl; number = number; slot_is = refl; is_window = few; is_later = tt; not_early = omega (arith, at); not_late = omega (arith, at, long, b.small) };
        },
        tt,
      ),
    )

pub earlier : (s : Settings) (sync : SyncWindows) (payload : Payload) (pulse number start : ℕ)
    → start + 500 * s.bit + 1 ≡ pulse + (1000 * (window_at sync.windows number).low + 2000 * s.jitter) → IsTrain s (Some sync) (answer s payload pulse number start) → ⊥
earlier s sync payload pulse number start at train =
    let h = train.1.0.in_slot in
    let same = same_answer s.jitter sync.windows _ pulse number _ h refl in
    let low = ap (λ n. (window_at sync.windows n).low) same.1 in
    omega (arith, at, h.not_early, same.0, low)

pub latest : (s : Settings) (sync : SyncWindows) (payload : Payload) (pulse number start : ℕ) → fault_of s.bit s.parts s.jitter ≡ None → AreSlots s (Some sync) → Fits s.parts payload → number < length sync.windows
    → start + 500 * s.bit + 2000 * s.jitter ≡ pulse + 1000 * (window_at sync.windows number).high → IsTrain s (Some sync) (answer s payload pulse number start)
latest s sync payload pulse number start accepted slots fits few at =
    let b = bounds-accepted s accepted in
    let long = window-long s.bit (4 * s.bit) sync.windows number (windows-accepted s sync.windows slots) few in (
      record { after_frame = tt; after_sync = tt },
      (
        record {
          fits = fits;
          half_bits = record { not_below = omega arith; not_above = omega arith };
          apart = tt;
          in_slot = record { sync = pulse; is_after = refl; number = number; slot_is = refl; is_window = few; is_later = tt; not_early = omega (arith, at, long, b.small); not_late = omega (arith, at) };
        },
        tt,
      ),
    )

pub later : (s : Settings) (sync : SyncWindows) (payload : Payload) (pulse number start : ℕ)
    → start + 500 * s.bit + 2000 * s.jitter ≡ pulse + 1000 * (window_at sync.windows number).high + 1 → IsTrain s (Some sync) (answer s payload pulse number start) → ⊥
later s sync payload pulse number start at train =
    let h = train.1.0.in_slot in
    let same = same_answer s.jitter sync.windows _ pulse number _ h refl in
    let high = ap (λ n. (window_at sync.windows n).high) same.1 in
    omega (arith, at, h.not_late, same.0, high)

pub no-window : (s : Settings) (sync : SyncWindows) (payload : Payload) (pulse number start : ℕ) → length sync.windows ≤ number → IsTrain s (Some sync) (answer s payload pulse number start) → ⊥
no-window s sync payload pulse number start many train =
    let h = train.1.0.in_slot in
    let same = same_answer s.jitter sync.windows _ pulse number _ h refl in
    omega (arith, many, h.is_window, same.1)

pub no-sync : (s : Settings) (sync : SyncWindows) (payload : Payload) (number start : ℕ) → IsTrain s (Some sync) (FrameAt (middle_frame s (Some number) payload start) ∷ []) → ⊥
no-sync s sync payload number start train = let e : None ≡ Some train.0.in_slot.sync = train.0.in_slot.is_after in absurd cc

pub no-later_slot : (s : Settings) (sync : SyncWindows) (payload : Payload) (pulse number start other next : ℕ) → other ≤ number → IsTrain s (Some sync) (two_answers s payload pulse number start other next) → ⊥
no-later_slot s sync payload pulse number start other next le train =
    let h = train.1.1.0.in_slot in
    let same = same_answer s.jitter sync.windows _ pulse other _ h refl in
    omega (arith, le, h.is_later, same.1)

-- ---- sync pulses
pub at-end : (s : Settings) (sync : SyncWindows) (payload : Payload) (pulse number start : ℕ) → pulse < end_of s (middle_frame s (Some number) payload start) → IsTrain s (Some sync) (answer s payload pulse number start)
    → IsTrain s (Some sync) (answer_and_sync s payload pulse number start (end_of s (middle_frame s (Some number) payload start)))
at-end s sync payload pulse number start less train = (train.0, (train.1.0, (record { after_frame = omega arith; after_sync = less }, tt)))

pub before-end : (s : Settings) (sync : SyncWindows) (payload : Payload) (pulse number start next : ℕ) → next + 1 ≡ end_of s (middle_frame s (Some number) payload start)
    → IsTrain s (Some sync) (answer_and_sync s payload pulse number start next) → ⊥
before-end s sync payload pulse number start next less train = omega (arith, less, train.1.1.0.after_frame)

pub behind : (s : Settings) (sync : SyncWindows) (pulse : ℕ) → IsTrain s (Some sync) (SyncAt pulse ∷ SyncAt (pulse + 1) ∷ [])
behind s sync pulse = (record { after_frame = tt; after_sync = tt }, (record { after_frame = tt; after_sync = omega arith }, tt))

pub together : (s : Settings) (sync : SyncWindows) (pulse : ℕ) → IsTrain s (Some sync) (SyncAt pulse ∷ SyncAt pulse ∷ []) → ⊥
together s sync pulse train = omega (arith, train.1.0.after_sync)

pub no-slots : (s : Settings) (pulse : ℕ) → IsTrain s None (SyncAt pulse ∷ []) → ⊥
no-slots s pulse train = train.0

-- How long bursts of PSI5 last at most, and when sync pulses and bursts come.
--     frame-short, frame-last      a frame
--     free-soon, slot-soon         where a burst starts
--     sync-soon                    when the next sync pulse comes
use Rattle.std.proofs.Common.{◌≡◌, ℕ, suc, ◌+◌, ◌-◌, ◌*◌, ◌%◌, ◌<◌, ◌≤◌, true, false, Option, None, Some, List, [], ◌∷◌, length, map, subst, sym, arith}
use Rattle.std.specs.Option.{unwrap_or}
use Rattle.std.proofs.lemmas.Bool.Decides.{nat_tests}
use Rattle.std.proofs.lemmas.Nat.{mod_below, mul-le}
use Rattle.line_base.specs.declared.edge.Span.{Span}
use Rattle.psi5_frame.specs.Setup.{Settings, bit_count}
use Rattle.psi5_frame.specs.Frames.{frame_of, waveform}
use Rattle.psi5_slots.specs.Setup.{InRange, last_high}
use Rattle.psi5_slots.specs.Meanings.{window_at}
use Rattle.psi5_tolerance.specs.Trains.{FrameSent, FrameAt, end_of}
use Rattle.psi5_tolerance.proofs.Windows.{window-long, windows-accepted}
use Rattle.spc_tolerance.specs.Trains.{last_of}
use Rattle.receiver_core.specs.declared.setup.SyncSlots.{SyncSlots}
use Rattle.psi5_sim.specs.Psi5Sims.{free_start, next_sync, rise_in, times_sent}
use Rattle.psi5_sim.proofs.BurstTimes.{time_at}
use Rattle.psi5_sim.proofs.FramePlaces.{AreWithin, frame-within}
use Rattle.psi5_sim.proofs.Psi5Edges.{Bounds}
use Rattle.psi5_sim.proofs.Psi5Outcomes.{frame-times}
use Rattle.psi5_sim.proofs.Psi5Setups.{high-last}

-- ---- a frame
-- the last of these places comes no later than the end
last-most : (start half low end before : ℕ) (places : List ℕ) → AreWithin low (end + 1) places → before ≤ start + end * half → last_of before (map (time_at start half) places) ≤ start + end * half
last-most start half low end before [] within begins = begins
last-most start half low end before (place ∷ places) within begins =
    let here : place * half ≤ end * half = mul-le place half end half (omega (arith, within.1)) (omega arith) in
    last-most start half (suc place) end (start + place * half) places within.2 (omega (arith, here))

-- a frame's last edge comes no later than its end
pub frame-last : (s : Settings) (f : FrameSent) → last_of 0 (times_sent s (FrameAt f)) ≤ end_of s f
frame-last s f =
    subst (λ l. last_of 0 l ≤ end_of s f) (sym (frame-times s f)) (last-most f.start f.half 1 (2 * bit_count s) 0 (waveform (frame_of s f.payload)) (frame-within s f.payload) (omega arith))

-- a frame lasts at most 66 half-bits, each of at most 4,200,000 ps
pub frame-short : (s : Settings) (f : FrameSent) → Bounds s → f.half ≤ 525 * s.bit → end_of s f ≤ f.start + 277200000
frame-short s f bounds half =
    let room : 2 * bit_count s * f.half ≤ 66 * 4200000 = mul-le (2 * bit_count s) f.half 66 4200000 (omega (arith, bounds.count)) (omega (arith, half, bounds.bit_high)) in
    omega (arith, room)

-- ---- where a burst starts
-- a burst without slots starts soon behind the frame before
pub free-soon : (s : Settings) (end : Option ℕ) (drawn : ℕ) → Bounds s → free_start s end drawn ≤ unwrap_or end 0 + 88400000
unfolding free_start
free-soon s end drawn bounds =
    let below : drawn % (10000 * s.bit + 1) < 10000 * s.bit + 1 = mod_below drawn (10000 * s.bit + 1) (omega arith) in
    omega (arith, below, bounds.bit_high)

-- the last window ends soon
high-few : (s : Settings) (windows : List Span) → InRange windows s → last_high 0 windows ≤ 10000000
high-few s [] range = omega arith
high-few s (first ∷ windows) range = grind (arith, nat_tests, range.slots)

-- a burst in a window rises soon behind the sync pulse
rise-soon : (jitter : ℕ) (window : Span) (sync drawn : ℕ) → jitter ≤ 500 → window.low ≤ window.high → window.high ≤ 10000000 → rise_in jitter window sync drawn ≤ sync + 10001000000
unfolding rise_in
rise-soon jitter window sync drawn small le high =
    let room = 1000 * (window.high - window.low - 4 * jitter) + 1 in
    let below : drawn % room < room = mod_below drawn room (omega arith) in
    omega (arith, below, small, le, high)

-- so in the window of each slot
pub slot-soon : (s : Settings) (windows : List Span) (number sync drawn : ℕ) → Bounds s → InRange windows s → number < length windows → rise_in s.jitter (window_at windows number) sync drawn ≤ sync + 10001000000
slot-soon s windows number sync drawn bounds range there =
    let are = windows-accepted s windows range in
    let long = window-long s.bit (4 * s.bit) windows number are there in
    let high = high-last s.bit (4 * s.bit) windows number are there in
    rise-soon s.jitter (window_at windows number) sync drawn (omega (arith, bounds.jitter_high, bounds.bit_high)) (omega (arith, long)) (omega (arith, high, high-few s windows range))

-- ---- sync pulses
-- the next sync pulse comes soon behind the last one
pub sync-soon : (s : Settings) (slots : SyncSlots) (sync : Option ℕ) → Bounds s → InRange slots.setup.windows s → next_sync s slots sync ≤ unwrap_or sync 0 + 11000000000
unfolding next_sync
sync-soon s slots None bounds range = omega (arith, bounds.bit_high)
sync-soon s slots (Some last) bounds range =
    let room : (bit_count s + 3) * s.bit ≤ 36 * 8000 = mul-le (bit_count s + 3) s.bit 36 8000 (omega (arith, bounds.count)) bounds.bit_high in
    omega (arith, room, high-few s slots.setup.windows range)

-- windows that are accepted are one or more
pub some-windows : (s : Settings) (windows : List Span) → InRange windows s → 0 < length windows
some-windows s [] range = absurd (none range.slots)
  where
    none : false ≡ true → ⊥
    none e = absurd cc
some-windows s (first ∷ windows) range = omega arith

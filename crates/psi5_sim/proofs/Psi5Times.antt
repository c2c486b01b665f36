-- Sync pulses and bursts that are drawn may be sent next, and come behind what is in use.
--     half-near                 half-bits are within their bounds
--     sync-later                a sync pulse comes behind what is in use
--     free-behind, slot-within  a burst comes behind the one before, and in its slot
use Rattle.std.proofs.Common.{◌≡◌, ℕ, ◌+◌, ◌-◌, ◌*◌, ◌%◌, ◌^◌, ◌<◌, ◌≤◌, true, Option, None, Some, List, length, ap, subst, sym, ◌∙◌, ltb-true, arith}
use Rattle.std.specs.Option.{IfSome, unwrap_or}
use Rattle.std.proofs.lemmas.Nat.{mod_below, mul-le}
use Rattle.line_base.specs.declared.edge.Span.{Span}
use Rattle.psi5_frame.specs.Setup.{Settings, bit_count}
use Rattle.psi5_slots.specs.Setup.{InRange, last_high}
use Rattle.psi5_slots.specs.Meanings.{window_at}
use Rattle.psi5_tolerance.specs.Trains.{FrameSent, FrameAt, IsHalf}
use Rattle.psi5_tolerance.proofs.Windows.{window-long, window-low, windows-accepted}
use Rattle.spc_tolerance.specs.Trains.{last_of}
use Rattle.receiver_core.specs.declared.setup.SyncSlots.{SyncSlots}
use Rattle.psi5_sim.specs.Psi5Sims.{free_start, half_of, is_above, next_sync, rise_in, times_sent}
use Rattle.psi5_sim.proofs.BurstTimes.{begins-frame}
use Rattle.psi5_sim.proofs.Psi5Edges.{Bounds, EndsIn, reach_behind}
use Rattle.psi5_sim.proofs.Psi5Outcomes.{frame-times}
use Rattle.psi5_sim.proofs.Psi5Setups.{high-last, window-apart}

pub half-near : (bit word : ℕ) → IsHalf bit (half_of bit word)
unfolding half_of
half-near bit word =
    let below : word % (50 * bit + 1) < 50 * bit + 1 = mod_below word (50 * bit + 1) (omega arith) in
    record { not_below = omega arith; not_above = omega (arith, below) }

-- a frame whose last edge comes in time starts in time
pub starts-in-time : (s : Settings) (f : FrameSent) → last_of 0 (times_sent s (FrameAt f)) ≤ 9 * 10 ^ 17 → f.start ≤ 9 * 10 ^ 17
starts-in-time s f in_time =
    let begins : f.start ≤ last_of 0 (times_sent s (FrameAt f)) = subst (λ l. f.start ≤ last_of 0 l) (sym (frame-times s f)) (begins-frame s f.payload f.start f.half) in
    omega (arith, begins, in_time)

-- ---- what was before, if anything
pub behind-some : (o : Option ℕ) (room time : ℕ) → unwrap_or o 0 + room ≤ time → IfSome o (λ end. end + room ≤ time)
behind-some None room time le = tt
behind-some (Some end) room time le = le

pub before-some : (o : Option ℕ) (time : ℕ) → unwrap_or o 0 ≤ time → IfSome o (λ end. end ≤ time)
before-some None time le = tt
before-some (Some end) time le = le

pub above-some : (o : Option ℕ) (slot : ℕ) → is_above o slot ≡ true → IfSome o (λ last. last < slot)
above-some None slot above = tt
above-some (Some last) slot above = ltb-true last slot above

-- ---- sync pulses
pub record SyncLater (s : Settings) (sync slot : Option ℕ) (end rise : ℕ) : Type 0 where
  pub behind : reach_behind s sync slot end + 2000 * s.jitter ≤ rise
  pub after_frame : end ≤ rise
  pub after_sync : IfSome sync (λ last. last < rise)

-- by the numbers
later_than : (bit jitter n last high greatest end : ℕ) → 5300 ≤ bit → 16 * jitter ≤ bit → high ≤ greatest → end + 525 * bit + 2000 * jitter ≤ last + 1000 * high + 1050 * (n * bit)
    → end + 2000 * jitter ≤ last + 1000 * greatest + 1050 * (n + 3) * bit
later_than bit jitter n last high greatest end low small le ends = omega (arith, low, small, le, ends)

later_sync : (bit jitter n last greatest : ℕ) → 5300 ≤ bit → 16 * jitter ≤ bit → last + 2000 * bit + 2000 * jitter ≤ last + 1000 * greatest + 1050 * (n + 3) * bit
later_sync bit jitter n last greatest low small = omega (arith, low, small)

pub sync-later : (s : Settings) (slots : SyncSlots) (sync slot : Option ℕ) (end : ℕ) → Bounds s → InRange slots.setup.windows s → EndsIn s slots.setup.windows sync slot end → SyncLater s sync slot end (next_sync s slots sync)
unfolding next_sync
sync-later s slots None slot end bounds range ends = record { behind = omega (arith, bounds); after_frame = omega (arith, ends); after_sync = tt }
sync-later s slots (Some last) None end bounds range ends =
    let later = later_sync s.bit s.jitter (bit_count s) last (last_high 0 slots.setup.windows) bounds.bit_low bounds.jitter_high in
    let some = bounds.bit_low in
    record { behind = later; after_frame = omega (arith, ends, later); after_sync = omega (arith, later, some) }
sync-later s slots (Some last) (Some number) end bounds range ends =
    let windows = slots.setup.windows in
    let high = high-last s.bit (4 * s.bit) windows number (windows-accepted s windows range) ends.0 in
    let later = later_than s.bit s.jitter (bit_count s) last (window_at windows number).high (last_high 0 windows) end bounds.bit_low bounds.jitter_high high ends.1 in
    let more = later_sync s.bit s.jitter (bit_count s) last (last_high 0 windows) bounds.bit_low bounds.jitter_high in
    let some = bounds.bit_low in
    record { behind = later; after_frame = omega (arith, later); after_sync = omega (arith, more, some) }

-- ---- bursts without slots
pub free-behind : (s : Settings) (end : Option ℕ) (word : ℕ) → unwrap_or end 0 + 1050 * s.bit ≤ free_start s end word
unfolding free_start
free-behind s end word = omega arith

-- ---- bursts in slots
pub record SlotWithin (s : Settings) (windows : List Span) (sync : ℕ) (last : Option ℕ) (end number half rise : ℕ) : Type 0 where
  pub is_behind : half ≤ rise
  pub not_early : sync + (1000 * (window_at windows number).low + 2000 * s.jitter) ≤ rise
  pub not_late : rise + 2000 * s.jitter ≤ sync + 1000 * (window_at windows number).high
  pub behind : reach_behind s (Some sync) last end ≤ rise - half
  pub apart : end + 1050 * s.bit ≤ rise - half
  pub ends : rise - half + 2 * bit_count s * half + 525 * s.bit + 2000 * s.jitter ≤ sync + 1000 * (window_at windows number).high + 1050 * (bit_count s * s.bit)

-- the end of a burst that rises in a window
ends_within : (bit jitter n half rise sync high : ℕ) → 1 ≤ n → half ≤ 525 * bit → half ≤ rise → rise + 2000 * jitter ≤ sync + 1000 * high → rise - half + 2 * n * half + 525 * bit + 2000 * jitter ≤ sync + 1000 * high + 1050 * (n * bit)
ends_within bit jitter n half rise sync high some short within late =
    let most : (2 * n - 1) * half ≤ (2 * n - 1) * (525 * bit) = mul-le (2 * n - 1) half (2 * n - 1) (525 * bit) (omega arith) short in
    by_rest (2 * n - 1) (omega (arith, some)) most
  where
    by_rest : (k : ℕ) → 2 * n ≡ k + 1 → k * half ≤ k * (525 * bit) → rise - half + 2 * n * half + 525 * bit + 2000 * jitter ≤ sync + 1000 * high + 1050 * (n * bit)
    by_rest k is most =
        let whole : 2 * n * half ≡ k * half + half = ap (λ m. m * half) is ∙ omega arith in
        let nominal : 1050 * (n * bit) ≡ k * (525 * bit) + 525 * bit = (let doubled : 1050 * (n * bit) ≡ 2 * n * (525 * bit) = omega arith in doubled) ∙ ap (λ m. m * (525 * bit)) is ∙ omega arith in
        omega (arith, whole, nominal, most, within, late)

-- a burst behind one of an earlier slot
apart_later : (bit jitter n end last high low rise half : ℕ) → 20 * high + 21 * (n + 1) * bit ≤ 20 * low → end + 525 * bit + 2000 * jitter ≤ last + 1000 * high + 1050 * (n * bit) → half ≤ 525 * bit → last + (1000 * low + 2000 * jitter) ≤ rise
    → end + 1050 * bit ≤ rise - half
apart_later bit jitter n end last high low rise half far ends short early = omega (arith, far, ends, short, early)

first_later : (bit jitter end sync low rise half : ℕ) → 5300 ≤ bit → 4 * bit ≤ low → end ≤ sync → half ≤ 525 * bit → sync + (1000 * low + 2000 * jitter) ≤ rise → (sync + 2000 * bit ≤ rise - half) × (end + 1050 * bit ≤ rise - half)
first_later bit jitter end sync low rise half some late ends short early = (omega (arith, late, short, early), omega (arith, late, ends, short, early))

-- where the first rise is
rise-near : (s : Settings) (window : Span) (sync word : ℕ) → Bounds s → window.low + s.bit ≤ window.high
    → (sync + (1000 * window.low + 2000 * s.jitter) ≤ rise_in s.jitter window sync word) × (rise_in s.jitter window sync word + 2000 * s.jitter ≤ sync + 1000 * window.high)
unfolding rise_in
rise-near s window sync word bounds long =
    let room = 1000 * (window.high - window.low - 4 * s.jitter) + 1 in
    let below : word % room < room = mod_below word room (omega arith) in
    let small = bounds.jitter_high in
    (omega arith, omega (arith, below, long, small))

some-bits : (s : Settings) → 1 ≤ bit_count s
some-bits s = omega arith

pub slot-within : (s : Settings) (windows : List Span) (sync : ℕ) (last : Option ℕ) (end number half word : ℕ) → Bounds s → InRange windows s → number < length windows → is_above last number ≡ true → EndsIn s windows (Some sync) last end → IsHalf s.bit half
    → SlotWithin s windows sync last end number half (rise_in s.jitter (window_at windows number) sync word)
slot-within s windows sync None end number half word bounds range there above ends is_half =
    let are = windows-accepted s windows range in
    let low = window-low s.bit (4 * s.bit) windows number are there in
    let long = window-long s.bit (4 * s.bit) windows number are there in
    let near = rise-near s (window_at windows number) sync word bounds long in
    let short = is_half.not_above in
    let rise = rise_in s.jitter (window_at windows number) sync word in
    let is_behind : half ≤ rise = omega (arith, near.0, low, short) in
    let later = first_later s.bit s.jitter end sync (window_at windows number).low rise half bounds.bit_low low ends short near.0 in
    record {
      is_behind = is_behind;
      not_early = near.0;
      not_late = near.1;
      behind = later.0;
      apart = later.1;
      ends = ends_within s.bit s.jitter (bit_count s) half rise sync (window_at windows number).high (some-bits s) short is_behind near.1;
    }
slot-within s windows sync (Some last) end number half word bounds range there above ends is_half =
    let are = windows-accepted s windows range in
    let low = window-low s.bit (4 * s.bit) windows number are there in
    let long = window-long s.bit (4 * s.bit) windows number are there in
    let near = rise-near s (window_at windows number) sync word bounds long in
    let short = is_half.not_above in
    let rise = rise_in s.jitter (window_at windows number) sync word in
    let is_behind : half ≤ rise = omega (arith, near.0, low, short) in
    let far = window-apart s windows last number range there (ltb-true last number above) in
    let apart = apart_later s.bit s.jitter (bit_count s) end sync (window_at windows last).high (window_at windows number).low rise half far ends.1 short near.0 in
    record {
      is_behind = is_behind;
      not_early = near.0;
      not_late = near.1;
      behind = omega (arith, apart);
      apart = apart;
      ends = ends_within s.bit s.jitter (bit_count s) half rise sync (window_at windows number).high (some-bits s) short is_behind near.1;
    }

-- The places of a frame's edges, and the times at which they are recorded.
--     AreWithin, frame-within, within-count      the places lie behind one another, up to the frame's end
--     frame-toggled                              the line is low behind them
--     places-orderly, places-last                the recorded times don't go back, and the last is soon behind the end
use Rattle.std.proofs.Common.{◌≡◌, ℕ, suc, ◌+◌, ◌*◌, ◌^◌, ◌<◌, ◌≤◌, Bool, true, false, not, List, [], ◌∷◌, ◌++◌, length, map, refl, subst, sym, ◌∙◌, arith}
use Rattle.std.proofs.lemmas.List.{length-append}
use Rattle.std.proofs.lemmas.Nat.{mul-le}
use Rattle.link_math.specs.Division.{bits_of}
use Rattle.psi5_frame.specs.declared.burst.Payload.{Payload}
use Rattle.psi5_frame.specs.Setup.{Settings, bit_count, check_width}
use Rattle.psi5_frame.specs.Frames.{changed_at, check_number, frame_of, levels_of, payload_bits, waveform}
use Rattle.psi5_frame.proofs.FrameLaws.{length-framed}
use Rattle.link_tolerance.specs.Recorded.{AreRecorded}
use Rattle.sim_base.proofs.OrderlyEdges.{last_time}
use Rattle.psi5_sim.specs.Psi5Sims.{alternating}
use Rattle.psi5_sim.proofs.AlternatingEdges.{AreOrderly, toggled}
use Rattle.psi5_sim.proofs.BurstTimes.{frame-begins, time_at}

-- these places lie behind one another, the first no lower than this, and all below that
abbrev pub AreWithin : ℕ → ℕ → List ℕ → Type 0
AreWithin low high [] = Unit {0}
AreWithin low high (place ∷ places) = (low ≤ place) × (place < high) × AreWithin (suc place) high places

within-lower : (low lower high : ℕ) (places : List ℕ) → lower ≤ low → AreWithin low high places → AreWithin lower high places
within-lower low lower high [] le within = tt
within-lower low lower high (place ∷ places) le within = (omega (arith, within.0), within.1, within.2)

pub within-count : (low high : ℕ) (places : List ℕ) → low ≤ high → AreWithin low high places → low + length places ≤ high
within-count low high [] le within = omega arith
within-count low high (place ∷ places) le within =
    let rest = within-count (suc place) high places (omega (arith, within.1)) within.2 in
    omega (arith, rest, within.0)

-- where levels change
to-high : (place : ℕ) (before level : Bool) (levels : List Bool) → AreWithin (suc place) (suc place + length levels) (changed_at (suc place) level levels) → AreWithin (suc place) (place + suc (length levels)) (changed_at (suc place) level levels)
to-high place before level levels within =
    let same : suc place + length levels ≡ place + suc (length levels) = omega arith in
    subst (λ h. AreWithin (suc place) h (changed_at (suc place) level levels)) same within

pub changed-within : (place : ℕ) (before : Bool) (levels : List Bool) → AreWithin place (place + length levels) (changed_at place before levels)
unfolding changed_at
changed-within place before [] = tt
changed-within place true (true ∷ levels) = within-lower (suc place) place (place + suc (length levels)) (changed_at (suc place) true levels) (omega arith) (to-high place true true levels (changed-within (suc place) true levels))
changed-within place true (false ∷ levels) = (omega arith, omega arith, to-high place true false levels (changed-within (suc place) false levels))
changed-within place false (true ∷ levels) = (omega arith, omega arith, to-high place false true levels (changed-within (suc place) true levels))
changed-within place false (false ∷ levels) = within-lower (suc place) place (place + suc (length levels)) (changed_at (suc place) false levels) (omega arith) (to-high place false false levels (changed-within (suc place) false levels))

pub length-levels : (bits : List Bool) → length (levels_of bits) ≡ 2 * length bits
length-levels [] = refl
length-levels (bit ∷ bits) = omega (arith, length-levels bits)

pub frame-within : (s : Settings) (p : Payload) → AreWithin 1 (2 * bit_count s + 1) (waveform (frame_of s p))
frame-within s p =
    let tail = payload_bits s.parts p ++ bits_of (check_width s.check) (check_number s.check (payload_bits s.parts p)) in
    let levels = levels_of (false ∷ tail) ++ false ∷ [] in
    let count : 2 + length levels ≡ 2 * bit_count s + 1 = omega (arith, length-append (levels_of (false ∷ tail)) (false ∷ []), length-levels (false ∷ tail), length-framed s p) in
    let rest : AreWithin 2 (2 * bit_count s + 1) (changed_at 2 true levels) = subst (λ h. AreWithin 2 h (changed_at 2 true levels)) count (changed-within 2 true levels) in
    subst (AreWithin 1 (2 * bit_count s + 1)) (sym (frame-begins s p)) (omega arith, omega arith, rest)

-- ---- the level behind them
abbrev last_level : Bool → List Bool → Bool
last_level before [] = before
last_level before (level ∷ levels) = last_level level levels

toggled-changed : (place : ℕ) (before : Bool) (levels : List Bool) → toggled before (changed_at place before levels) ≡ last_level before levels
unfolding changed_at
toggled-changed place before [] = refl
toggled-changed place true (true ∷ levels) = toggled-changed (suc place) true levels
toggled-changed place true (false ∷ levels) = toggled-changed (suc place) false levels
toggled-changed place false (true ∷ levels) = toggled-changed (suc place) true levels
toggled-changed place false (false ∷ levels) = toggled-changed (suc place) false levels

last-low : (before : Bool) (levels : List Bool) → last_level before (levels ++ false ∷ []) ≡ false
last-low before [] = refl
last-low before (level ∷ levels) = last-low level levels

pub frame-toggled : (s : Settings) (p : Payload) → toggled false (waveform (frame_of s p)) ≡ false
unfolding waveform
frame-toggled s p = toggled-changed 0 false (levels_of (frame_of s p) ++ false ∷ []) ∙ last-low false (levels_of (frame_of s p))

-- ---- recorded times
pub places-orderly : (jitter start half before end time : ℕ) (places times : List ℕ) → 2000 * jitter ≤ half → start + end * half + 1000 * jitter ≤ 10 ^ 18 → AreWithin (suc before) (suc end) places
    → AreRecorded jitter (map (time_at start half) places) times → 1000 * time ≤ start + before * half + 1000 * jitter → AreOrderly time times
places-orderly jitter start half before end time [] [] room in_time within recorded behind = tt
places-orderly jitter start half before end time [] (t ∷ times) room in_time within recorded behind = absurd recorded
places-orderly jitter start half before end time (place ∷ places) [] room in_time within recorded behind = absurd recorded
places-orderly jitter start half before end time (place ∷ places) (t ∷ times) room in_time within recorded behind =
    let here = recorded.0 in
    let step : (before + 1) * half ≤ place * half = mul-le (before + 1) half place half (omega (arith, within.0)) (omega arith) in
    let most : place * half ≤ end * half = mul-le place half end half (omega (arith, within.1)) (omega arith) in
    (omega (arith, here, step, behind), omega (arith, here, most), places-orderly jitter start half place end t places times room in_time within.2 recorded.1 (omega (arith, here)))

pub places-last : (line : ℕ) (level : Bool) (jitter start half low end time : ℕ) (places times : List ℕ) → AreWithin low (suc end) places → AreRecorded jitter (map (time_at start half) places) times
    → 1000 * time ≤ start + end * half + 1000 * jitter → 1000 * last_time time (alternating line level times) ≤ start + end * half + 1000 * jitter
unfolding alternating
places-last line level jitter start half low end time [] [] within recorded behind = behind
places-last line level jitter start half low end time [] (t ∷ times) within recorded behind = absurd recorded
places-last line level jitter start half low end time (place ∷ places) [] within recorded behind = absurd recorded
places-last line level jitter start half low end time (place ∷ places) (t ∷ times) within recorded behind =
    let here = recorded.0 in
    let most : place * half ≤ end * half = mul-le place half end half (omega (arith, within.1)) (omega arith) in
    places-last line (not level) jitter start half (suc place) end t places times within.2 recorded.1 (omega (arith, here, most))

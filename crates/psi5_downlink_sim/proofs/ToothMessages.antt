-- What is drawn of a message of the tooth gap.
--     message-drawn        its rises and the last of them
--     message-few          there are at most 39
--     message-in_time, message-late      from the first of all up to the last
use Rattle.std.proofs.Common.{◌≡◌, ℕ, zero, suc, ◌+◌, ◌*◌, ◌≤◌, Bool, true, false, Option, None, Some, List, [], ◌∷◌, ◌++◌, length, map, refl, ap, ap₂, ◌∙◌, arith}
use Rattle.std.specs.List.{All}
use Rattle.std.proofs.lemmas.List.{length-append, length-map}
use Rattle.std.proofs.lemmas.List.Elements.{All-cons, All-nil}
use Rattle.std.proofs.lemmas.List.Sums.{sum_by-cons}
use Rattle.link_math.specs.Division.{bits_of}
use Rattle.link_math.specs.Checks.{crc3_of}
use Rattle.link_math.proofs.BitLists.{length-bits_of}
use Rattle.psi5_downlink.specs.declared.down.Down.{Down}
use Rattle.psi5_downlink.specs.declared.down.Form.{Form}
use Rattle.psi5_downlink.specs.declared.down.Form.TheVariants.{Short, Long, XLong}
use Rattle.psi5_downlink.specs.Frames.{checked, field_bits, frame_of, wide, with_ones}
use Rattle.psi5_downlink.specs.Setup.{Settings}
use Rattle.psi5_downlink_tolerance.specs.Trains.{Span, frame_periods, periods_of, rises_behind}
use Rattle.psi5_downlink_sim.specs.ToothSims.{IsDrawnMessage, ToothWords, begins_at, ends_at, ideal_of, length_of, missing_drawn, period_drawn, span_of, spans_of}
use Rattle.psi5_downlink_sim.specs.ToothStates.{IsPulseInTime}
use Rattle.psi5_downlink_sim.proofs.PushedBits.{spans_left}

-- what the code has of a message
pub message-drawn : (s : Settings) (last : Option ℕ) (down : Down) (drawn : ToothWords) (period missing start gap : ℕ) (bits : List Bool) (rises : List ℕ) (end : ℕ)
    → period ≡ period_drawn s.period drawn.period → missing ≡ missing_drawn drawn.gap → start ≡ begins_at s last period → gap ≡ start + (missing + 1) * period → bits ≡ frame_of s.form down
    → rises ≡ (start ∷ gap ∷ []) ++ rises_behind gap (spans_left period 0 bits) → end ≡ gap + length_of (spans_left period 0 bits) → IsDrawnMessage s last down drawn rises end
unfolding ideal_of ends_at rises_behind
message-drawn s last down drawn period missing start gap bits rises end period_is missing_is start_is gap_is bits_are rises_are end_is =
    let frame = map (span_of period) (frame_periods s.form down) in
    let behind : gap ≡ start + suc missing * period = omega (arith, gap_is) in
    let left : spans_left period 0 bits ≡ frame = ap (λ l. map (span_of period) (periods_of zero l)) bits_are in
    let lengths : length_of (span_of period (suc missing) ∷ frame) ≡ suc missing * period + length_of frame = sum_by-cons (λ n. n) (suc missing * period) (map (λ (span : Span). span.length) frame) in
    let total : end ≡ start + length_of (span_of period (suc missing) ∷ frame) = omega (arith, end_is, behind, lengths, ap length_of left) in
    record {
      rises_are = rises_are ∙ ap₂ (λ g l. start ∷ g ∷ rises_behind g l) behind left
          ∙ ap (λ a. a ∷ rises_behind a (spans_of s.form down period missing)) start_is
          ∙ ap₂ (λ p m. begins_at s last p ∷ rises_behind (begins_at s last p) (spans_of s.form down p m)) period_is missing_is;
      end_is = total ∙ ap (λ a. a + length_of (spans_of s.form down period missing)) start_is ∙ ap₂ (λ p m. begins_at s last p + length_of (spans_of s.form down p m)) period_is missing_is;
    }

-- ---- how many there are
periods-few : (since : ℕ) (bits : List Bool) → length (periods_of since bits) ≤ length bits
unfolding periods_of
periods-few since [] = omega arith
periods-few since (false ∷ bits) = omega (arith, periods-few (suc since) bits)
periods-few since (true ∷ bits) = omega (arith, periods-few zero bits)

-- four bits for each three
ones-few : (bits : List Bool) → 3 * length (with_ones bits) ≤ 4 * length bits
unfolding with_ones
ones-few [] = omega arith
ones-few (a ∷ []) = omega arith
ones-few (a ∷ b ∷ []) = omega arith
ones-few (a ∷ b ∷ c ∷ bits) = omega (arith, ones-few bits)

wide-few : (form : Form) → wide form ≤ 9
wide-few Short = omega arith
wide-few Long = omega arith
wide-few XLong = omega arith

fields-few : (form : Form) (down : Down) → length (checked (field_bits form down)) ≤ 27
fields-few form down =
    let n = wide form in
    let fields = field_bits form down in
    let front : length (bits_of 3 down.address ++ bits_of 3 down.function) ≡ 3 + 3 = length-append (bits_of 3 down.address) (bits_of 3 down.function) ∙ ap₂ (λ a b. a + b) (length-bits_of 3 down.address) (length-bits_of 3 down.function) in
    let more : length ((bits_of 3 down.address ++ bits_of 3 down.function) ++ bits_of n down.register) ≡ 6 + n = length-append (bits_of 3 down.address ++ bits_of 3 down.function) (bits_of n down.register) ∙ ap₂ (λ a b. a + b) front (length-bits_of n down.register) in
    let all : length fields ≡ 6 + n + n = length-append ((bits_of 3 down.address ++ bits_of 3 down.function) ++ bits_of n down.register) (bits_of n down.value) ∙ ap₂ (λ a b. a + b) more (length-bits_of n down.value) in
    let whole : length (checked fields) ≡ length fields + 3 = length-append fields (bits_of 3 (crc3_of fields)) ∙ ap (λ b. length fields + b) (length-bits_of 3 (crc3_of fields)) in
    omega (arith, all, whole, wide-few form)

frame-few : (form : Form) (down : Down) → length (frame_periods form down) ≤ 37
unfolding frame_of periods_of
frame-few form down =
    let bits = with_ones (checked (field_bits form down)) in
    omega (arith, periods-few zero bits, ones-few (checked (field_bits form down)), fields-few form down)

length-rises : (time : ℕ) (spans : List Span) → length (rises_behind time spans) ≡ length spans
unfolding rises_behind
length-rises time [] = refl
length-rises time (span ∷ spans) = ap suc (length-rises (time + span.length) spans)

pub message-few : (s : Settings) (last : Option ℕ) (down : Down) (period missing : ℕ) → length (ideal_of s last down period missing) ≤ 39
unfolding ideal_of
message-few s last down period missing =
    let spans = spans_of s.form down period missing in
    let count : length spans ≡ suc (length (frame_periods s.form down)) = length-map (suc missing ∷ frame_periods s.form down) (span_of period) in
    omega (arith, length-rises (begins_at s last period) spans, count, frame-few s.form down)

-- ---- when they are
rises-within : (least most time : ℕ) (spans : List Span) → least ≤ time → time + length_of spans ≤ most → All (λ rise. (least ≤ rise) × (rise ≤ most)) (rises_behind time spans)
unfolding rises_behind
rises-within least most time [] low high = All-nil (λ rise. (least ≤ rise) × (rise ≤ most))
rises-within least most time (span ∷ spans) low high =
    let longer : length_of (span ∷ spans) ≡ span.length + length_of spans = sum_by-cons (λ n. n) span.length (map (λ (span : Span). span.length) spans) in
    All-cons (λ rise. (least ≤ rise) × (rise ≤ most)) (time + span.length) (rises_behind (time + span.length) spans) (omega arith, omega (arith, longer))
    (rises-within least most (time + span.length) spans (omega arith) (omega (arith, longer)))

begins-late : (s : Settings) (last : Option ℕ) (period : ℕ) → IsPulseInTime s.period last → 1000 * s.period ≤ begins_at s last period
begins-late s None period in_time = omega arith
begins-late s (Some last) period in_time = omega (arith, in_time.0)

pub message-late : (s : Settings) (last : Option ℕ) (down : Down) (period missing : ℕ) → IsPulseInTime s.period last → 1000 * s.period ≤ ends_at s last down period missing
unfolding ends_at
message-late s last down period missing in_time = omega (arith, begins-late s last period in_time)

pub message-in_time : (s : Settings) (last : Option ℕ) (down : Down) (period missing : ℕ) → IsPulseInTime s.period last
    → All (λ rise. (1000 * s.period ≤ rise) × (rise ≤ ends_at s last down period missing)) (ideal_of s last down period missing)
unfolding ends_at ideal_of
message-in_time s last down period missing in_time =
    let low = begins-late s last period in_time in
    All-cons (λ rise. (1000 * s.period ≤ rise) × (rise ≤ ends_at s last down period missing)) (begins_at s last period) (rises_behind (begins_at s last period) (spans_of s.form down period missing)) (low, omega arith)
    (rises-within (1000 * s.period) (ends_at s last down period missing) (begins_at s last period) (spans_of s.form down period missing) low (omega arith))

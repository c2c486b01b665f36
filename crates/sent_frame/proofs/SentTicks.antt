-- The ticks of a frame, and the pulses that are sent with them.
--     front_ticks       the first ticks of a frame are 56, and 12 and the value for each of its values
--     are_carried       pulses of 12 ticks and a value carry the values
--     is_sent_frame     pulses with the ticks of a frame are that frame
use Rattle.std.proofs.Common.{◌≡◌, ℕ, suc, ◌+◌, ◌*◌, ◌<◌, ◌≤◌, List, [], ◌∷◌, ◌++◌, length, map, take, if◌then◌else◌, refl, ap, sym, ◌∙◌, subst, append_assoc, arith}
use Rattle.std.proofs.lemmas.List.{length-append, length-map, map-append, take_at}
use Rattle.std.proofs.lemmas.List.Elements.{All-append, All-cons, All-head, All-nil, All-same, All-tail}
use Rattle.std.specs.List.{All}
use Rattle.link_math.proofs.Nibbles.{crc_small, crc_legacy_small}
use Rattle.link_math.proofs.Thresholds.{both_le}
use Rattle.sent_frame.specs.declared.frame.SentFrame.{SentFrame}
use Rattle.sent_frame.specs.declared.setup.CrcForm.{CrcForm}
use Rattle.sent_frame.specs.declared.setup.CrcForm.TheVariants as crc
use Rattle.sent_frame.specs.Setup.{Settings, InRange}
use Rattle.sent_frame.specs.Pulses.{Pulse}
use Rattle.sent_frame.specs.Reading.{crc_of, place_at}
use Rattle.sent_frame.specs.Frames.{AreCarried, HaveTicks, IsFrameAt, ticks_of}

-- the status, the data nibbles and the CRC of a frame
abbrev values_in : Settings → SentFrame → List ℕ
values_in s frame = frame.status ∷ (frame.nibbles ++ crc_of s.crc frame.nibbles ∷ [])

-- the ticks of pulses that carry these values
abbrev pub value_ticks : List ℕ → List ℕ
value_ticks values = map (λ value. 12 + value) values

crc_below : (form : CrcForm) (nibbles : List ℕ) → crc_of form nibbles < 16
crc_below crc.New nibbles = crc_small nibbles
crc_below crc.Legacy nibbles = crc_legacy_small nibbles

-- the ticks of a frame are those of its calibration pulse, its values and its pause
ticks_apart : (s : Settings) (frame : SentFrame) (pause : ℕ) → ticks_of s frame pause ≡ (56 ∷ value_ticks (values_in s frame)) ++ (if s.pause then pause ∷ [] else [])
ticks_apart s frame pause =
    let last = 12 + crc_of s.crc frame.nibbles in
    let after = if s.pause then pause ∷ [] else [] in
    ap (λ rest. 56 ∷ (12 + frame.status) ∷ rest)
    (sym (append_assoc (value_ticks frame.nibbles) (last ∷ []) after)
    ∙ ap (λ front. front ++ after) (sym (map-append (λ value. 12 + value) frame.nibbles (crc_of s.crc frame.nibbles ∷ []))))

-- the first ticks of a frame, without a pause
front_ticks : (s : Settings) (frame : SentFrame) (pause : ℕ) → length frame.nibbles ≡ s.nibbles → take (s.nibbles + 3) (ticks_of s frame pause) ≡ 56 ∷ value_ticks (values_in s frame)
front_ticks s frame pause as_many =
    let all = 56 ∷ value_ticks (values_in s frame) in
    ap (take (s.nibbles + 3)) (ticks_apart s frame pause)
    ∙ take_at all (if s.pause then pause ∷ [] else []) (s.nibbles + 3)
    (omega (arith, length-map (values_in s frame) (λ value. 12 + value), length-append frame.nibbles (crc_of s.crc frame.nibbles ∷ [])))

-- pulses of 12 ticks and a value carry the values, after a calibration pulse of 56 ticks
are_carried : (tick : ℕ) (pulses : List Pulse) (values : List ℕ) → 1 ≤ tick → All (λ value. value < 16) values → HaveTicks tick (value_ticks values) pulses → AreCarried (56 * tick) pulses values
are_carried tick [] [] some small e = tt
are_carried tick [] (value ∷ values) some small e = absurd (cc)
are_carried tick (pulse ∷ pulses) [] some small e = absurd (cc)
are_carried tick (pulse ∷ pulses) (value ∷ values) some small e =
    let first : pulse.length ≡ (12 + value) * tick = cc in
    let rest : HaveTicks tick (value_ticks values) pulses = cc in
    let below = All-head (λ v. v < 16) value values small in (
      record { is_nibble = below; not_below = omega (arith, first); not_above = omega (arith, first) },
      are_carried tick pulses values some (All-tail (λ v. v < 16) value values small) rest,
    )

-- pulses with the ticks of a frame, of 4/5 to 6/5 of the nominal tick each, are that frame
pub is_sent_frame : (s : Settings) (frame : SentFrame) (pause : ℕ) (ticks nibbles : List ℕ) → ticks ≡ ticks_of s frame pause → nibbles ≡ frame.nibbles → InRange s.tick s.jitter s.nibbles
    → length frame.nibbles ≡ s.nibbles → frame.status < 16 → All (λ nibble. nibble < 16) nibbles
    → (tick : ℕ) (calibration : Pulse) (others : List Pulse) → 4 * s.tick ≤ 5 * tick → 5 * tick ≤ 6 * s.tick → HaveTicks tick (take (s.nibbles + 3) ticks) (calibration ∷ others)
    → IsFrameAt s calibration others frame (place_at others (suc s.nibbles))
is_sent_frame s frame pause ticks nibbles are same range as_many status small tick calibration others low high e =
    let front : take (s.nibbles + 3) ticks ≡ 56 ∷ value_ticks (values_in s frame) = ap (take (s.nibbles + 3)) are ∙ front_ticks s frame pause as_many in
    let lengths : HaveTicks tick (56 ∷ value_ticks (values_in s frame)) (calibration ∷ others) = e ∙ ap (map (λ n. n * tick)) front in
    let long : calibration.length ≡ 56 * tick = cc in
    let rest : HaveTicks tick (value_ticks (values_in s frame)) others = cc in
    let values = All-cons (λ v. v < 16) frame.status (frame.nibbles ++ crc_of s.crc frame.nibbles ∷ []) status
    (All-append (λ v. v < 16) frame.nibbles (crc_of s.crc frame.nibbles ∷ []) (All-same (λ v. v < 16) frame.nibbles nibbles (sym same) small)
    (All-cons (λ v. v < 16) (crc_of s.crc frame.nibbles) [] (crc_below s.crc frame.nibbles) (All-nil (λ v. v < 16)))) in
    record {
      calibrates = both_le (224 * s.tick) (5 * calibration.length + 10 * s.jitter) (5 * calibration.length) (336 * s.tick + 10 * s.jitter) (omega (arith, long)) (omega (arith, long));
      as_many = as_many;
      carried = subst (λ (c : ℕ). AreCarried c others (values_in s frame)) (sym long) (are_carried tick others (values_in s frame) (omega (arith, range.tick_low)) values rest);
      ends = refl;
    }

-- An answer whose pulses are heard with jitter is read.
--     values_small        its values are below 16
--     length_values       and there are as many as the setup says
--     answer_is           it is good
use Rattle.std.proofs.Common.{◌≡◌, ℕ, suc, ◌+◌, ◌*◌, ◌<◌, ◌≤◌, List, [], ◌∷◌, ◌++◌, true, Some, length, map, take, slice_index, refl, ap, ap₂, ◌∙◌, sym, eq-eqb, cond, arith}
use Rattle.std.proofs.lemmas.List.{get_or_at, length-append, length-map, take_at}
use Rattle.std.proofs.lemmas.List.Elements.{All-append, All-cons, All-head, All-nil, All-tail}
use Rattle.std.specs.List.{All}
use Rattle.line_base.specs.Edges.{NumberedEdge}
use Rattle.line_base.specs.declared.rule.Rule.TheVariants as rule
use Rattle.link_math.specs.Sent.{value_of}
use Rattle.link_math.proofs.Nibbles.{crc_small, crc_legacy_small}
use Rattle.sent_frame.specs.declared.frame.SentFrame.{SentFrame}
use Rattle.sent_frame.specs.declared.frame.SentStep.TheVariants as sent
use Rattle.sent_frame.specs.declared.setup.CrcForm.{CrcForm}
use Rattle.sent_frame.specs.declared.setup.CrcForm.TheVariants as crc
use Rattle.sent_frame.specs.Setup as frame
use Rattle.sent_frame.specs.Pulses.{Pulse}
use Rattle.sent_frame.specs.Reading.{Carried, values_of, with_value, checked_over, covered, crc_of, may_calibrate, place_at}
use Rattle.spc_link.specs.declared.step.SpcStep.TheVariants.{Bad, Good}
use Rattle.spc_link.specs.Setup.{Settings}
use Rattle.spc_link.specs.Reading.{answer_of, answered, at_fall, frame_of}
use Rattle.link_tolerance.specs.Recorded.{IsHeard}
use Rattle.link_tolerance.specs.Ticks.{IsTick, IsOwnTick}
use Rattle.link_tolerance.proofs.HeardPulses.{calibration_heard, value_heard}
use Rattle.spc_tolerance.specs.Trains.{FitsSetup, IsAnswerSent, SentAnswer, Trigger, pulses_sent, values_in}
use Rattle.link_tolerance.specs.Pulses.{lengths_of}

-- ---- the values of an answer
crc_below : (form : CrcForm) (nibbles : List ℕ) → crc_of form nibbles < 16
crc_below crc.New nibbles = crc_small nibbles
crc_below crc.Legacy nibbles = crc_legacy_small nibbles

pub values_small : (s : Settings) (frame : SentFrame) → FitsSetup s frame → All (λ value. value < 16) (values_in s frame)
values_small s frame fits =
    let check = crc_of s.sent.crc (covered s.cover frame.status frame.nibbles) in
    All-cons (λ v. v < 16) frame.status (frame.nibbles ++ check ∷ []) fits.status
    (All-append (λ v. v < 16) frame.nibbles (check ∷ []) fits.nibbles
    (All-cons (λ v. v < 16) check [] (crc_below s.sent.crc (covered s.cover frame.status frame.nibbles)) (All-nil (λ v. v < 16))))

pub length_values : (s : Settings) (frame : SentFrame) → FitsSetup s frame → length (values_in s frame) ≡ suc (suc s.sent.nibbles)
length_values s frame fits = omega (arith, fits.as_many, length-append frame.nibbles (crc_of s.sent.crc (covered s.cover frame.status frame.nibbles) ∷ []))

pub length_own : (s : Settings) (trigger : Trigger) (answer : SentAnswer) → IsAnswerSent s trigger answer → length answer.own_ticks ≡ suc (suc s.sent.nibbles)
length_own s trigger answer is_sent = omega (arith, is_sent.one_for_each, length-map (values_in s answer.frame) (λ value. 12 + value), length_values s answer.frame is_sent.fits)

-- ---- its pulses
-- the first of these pulses are heard of pulses of these lengths in ps, one by one
abbrev pub BeginHeard : ℕ → List ℕ → List Pulse → Type 0
BeginHeard jitter [] pulses = Unit {0}
BeginHeard jitter (sent ∷ lengths) [] = ⊥
BeginHeard jitter (sent ∷ lengths) (pulse ∷ pulses) = IsHeard jitter sent pulse.length × BeginHeard jitter lengths pulses

values_heard : (nominal jitter tick calibration : ℕ) → 1 ≤ jitter → 10 * jitter ≤ nominal → IsTick nominal tick → IsHeard jitter (56 * tick) calibration
    → (values own : List ℕ) (pulses : List Pulse) → All (λ value. value < 16) values → All (IsOwnTick tick) own → length own ≡ length values
    → BeginHeard jitter (lengths_of (map (λ value. 12 + value) values) own) pulses → values_of calibration (length values) pulses ≡ Carried values
unfolding values_of
values_heard nominal jitter tick calibration some small is_tick long [] own pulses below are_own as_many heard = refl
values_heard nominal jitter tick calibration some small is_tick long (value ∷ values) [] pulses below are_own as_many heard = absurd (omega arith)
values_heard nominal jitter tick calibration some small is_tick long (value ∷ values) (own ∷ owns) [] below are_own as_many heard = absurd heard
values_heard nominal jitter tick calibration some small is_tick long (value ∷ values) (own ∷ owns) (pulse ∷ pulses) below are_own as_many heard =
    let first : value_of pulse.length calibration ≡ Some value =
    value_heard nominal jitter tick own value calibration pulse.length some small is_tick (All-head (IsOwnTick tick) own owns are_own) (All-head (λ v. v < 16) value values below) long heard.0 in
    ap₂ (with_value pulse) first
    (values_heard nominal jitter tick calibration some small is_tick long values owns pulses (All-tail (λ v. v < 16) value values below) (All-tail (IsOwnTick tick) own owns are_own) (omega arith) heard.1)

good_if_checked : (s : Settings) (frame : SentFrame) (place : ℕ) → length frame.nibbles ≡ s.sent.nibbles → checked_over s.cover s.sent place (values_in s frame) ≡ sent.Good place frame
good_if_checked s frame place as_many =
    let check = crc_of s.sent.crc (covered s.cover frame.status frame.nibbles) in
    let front : take s.sent.nibbles (frame.nibbles ++ check ∷ []) ≡ frame.nibbles = take_at frame.nibbles (check ∷ []) s.sent.nibbles as_many in
    let last : slice_index (frame.nibbles ++ check ∷ []) s.sent.nibbles ≡ check = get_or_at frame.nibbles check [] 0 s.sent.nibbles as_many in
    rw (front, last, eq-eqb check check refl) refl

-- a good answer, whose CRC pulse ends with the pulse of this number
pub answer_is : (s : Settings) → frame.InRange s.sent.tick s.sent.jitter s.sent.nibbles → (trigger : Trigger) (answer : SentAnswer) → IsAnswerSent s trigger answer → (code : ℕ) (edges : List NumberedEdge) (pulses : List Pulse)
    → BeginHeard s.sent.jitter (pulses_sent s answer) pulses
    → answer_of s code edges pulses ≡ at_fall (Good (place_at pulses (suc (suc s.sent.nibbles))) code answer.frame) (suc (suc s.sent.nibbles)) edges
answer_is s range trigger answer is_sent code edges [] heard = absurd heard
answer_is s range trigger answer is_sent code edges (calibration ∷ pulses) heard =
    let count = suc (suc s.sent.nibbles) in
    let values = values_in s answer.frame in
    let as_many : length values ≡ count = length_values s answer.frame is_sent.fits in
    let calibrates : may_calibrate s.sent calibration ≡ true = calibration_heard s.sent.tick s.sent.jitter answer.tick calibration.length is_sent.tick heard.0 in
    let own : length answer.own_ticks ≡ length values = length_own s trigger answer is_sent ∙ sym as_many in
    let carried : values_of calibration.length count pulses ≡ Carried values =
    ap (λ n. values_of calibration.length n pulses) (sym as_many)
    ∙ values_heard s.sent.tick s.sent.jitter answer.tick calibration.length range.jitter_low range.jitter_high is_sent.tick heard.0 values answer.own_ticks pulses
    (values_small s answer.frame is_sent.fits) is_sent.own_ticks own heard.1 in
    ap (λ b. cond b (frame_of s code edges pulses (values_of calibration.length count pulses)) (at_fall (Bad calibration.place rule.NoCalibration) 0 edges)) calibrates
    ∙ ap (frame_of s code edges pulses) carried
    ∙ ap (λ step. at_fall (answered code step) count edges) (good_if_checked s answer.frame (place_at pulses (suc s.sent.nibbles)) is_sent.fits.as_many)

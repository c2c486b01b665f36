-- What the pulses after a calibration pulse say, in the pulses themselves.
--     values_mean      the values that a list of pulses carries, or the pulse that carries none
--     is_sent          as many values as a frame has are a frame and its last nibble
--     checks-good, checks-wrong      the frame that they come to by its check
use Rattle.std.proofs.Common.{◌≡◌, ℕ, zero, suc, ◌+◌, ◌<◌, List, [], ◌∷◌, ◌++◌, true, false, ◌==◌, Option, None, Some, length, take, slice_index, refl, ap, sym, ◌∙◌, subst, arith}
use Rattle.std.proofs.lemmas.Bool.{eqb-false, eqb-true}
use Rattle.std.proofs.lemmas.List.{length-take-le, take_all, take_more}
use Rattle.link_math.specs.Sent.{Carries, value_of}
use Rattle.link_math.proofs.Nibbles.{value_carries, no_value}
use Rattle.sent_frame.specs.declared.crc.Cover.{Cover}
use Rattle.sent_frame.specs.Setup.{Settings}
use Rattle.sent_frame.specs.Pulses.{Pulse}
use Rattle.sent_frame.specs.Reading.{Values, Carried, Broken, Short, values_of, with_value, may_calibrate, covered, crc_of, place_at}
use Rattle.sent_frame.specs.Frames.{AreCarried, IsFrameOver, IsSent, IsWrongOver}

-- so many pulses are there at the front, and carry these values
pub record IsCarried (c count : ℕ) (pulses : List Pulse) (values : List ℕ) : Type 0 where
  pub as_many : length values ≡ count
  pub carried : AreCarried c (take count pulses) values

-- fewer pulses than this at the front carry a value, and the next is this one and carries none
pub record IsBroken (c count : ℕ) (pulses : List Pulse) (broken : Pulse) : Type 0 where
  pub others : List Pulse
  pub after : List Pulse
  pub stands : pulses ≡ others ++ broken ∷ after
  pub too_few : length others < count
  pub values : List ℕ
  pub carried : AreCarried c others values
  pub none : (value : ℕ) → Carries broken.length c value → ⊥

-- what the values of so many pulses say of these pulses
abbrev pub ValuesMean : ℕ → ℕ → List Pulse → Values → Type 0
ValuesMean c count pulses (Carried values) = IsCarried c count pulses values
ValuesMean c count pulses (Broken used broken) = IsBroken c count pulses broken
ValuesMean c count pulses Short = Unit {0}

with_first : (c count : ℕ) (pulse : Pulse) (pulses : List Pulse) (answer : Option ℕ) (values : Values) → value_of pulse.length c ≡ answer → ValuesMean c count pulses values → ValuesMean c (suc count) (pulse ∷ pulses) (with_value pulse answer values)
with_first c count pulse pulses None values nothing mean = record {
  others = [];
  after = pulses;
  stands = refl;
  too_few = omega arith;
  values = [];
  carried = tt;
  none = no_value pulse.length c nothing;
}
with_first c count pulse pulses (Some v) (Carried values) found mean = record {
  as_many = ap suc mean.as_many;
  carried = (value_carries pulse.length c v found, mean.carried);
}
with_first c count pulse pulses (Some v) (Broken used broken) found mean = record {
  others = pulse ∷ mean.others;
  after = mean.after;
  stands = ap (λ rest. pulse ∷ rest) mean.stands;
  too_few = omega (arith, mean.too_few);
  values = v ∷ mean.values;
  carried = (value_carries pulse.length c v found, mean.carried);
  none = mean.none;
}
with_first c count pulse pulses (Some v) Short found mean = tt

pub values_mean : (c count : ℕ) (pulses : List Pulse) → ValuesMean c count pulses (values_of c count pulses)
unfolding values_of
values_mean c zero pulses = record { as_many = refl; carried = tt }
values_mean c (suc count) [] = tt
values_mean c (suc count) (pulse ∷ pulses) = with_first c count pulse pulses (value_of pulse.length c) (values_of c count pulses) refl (values_mean c count pulses)

place_in_front : (index count : ℕ) (pulses : List Pulse) → index < count → place_at (take count pulses) index ≡ place_at pulses index
place_in_front index zero pulses below = absurd (omega arith)
place_in_front index (suc count) [] below = refl
place_in_front zero (suc count) (pulse ∷ pulses) below = refl
place_in_front (suc index) (suc count) (pulse ∷ pulses) below = place_in_front index count pulses (omega arith)

last_apart : (n : ℕ) (values : List ℕ) → length values ≡ suc n → values ≡ take n values ++ slice_index values n ∷ []
last_apart n values e = sym (take_all (n + 1) values (omega arith)) ∙ take_more values n 0 (omega arith)

-- a status and what comes after it are a frame, and its last nibble
pub is_sent : (s : Settings) (calibration : Pulse) (pulses : List Pulse) (status : ℕ) (values : List ℕ) → may_calibrate s calibration ≡ true → IsCarried calibration.length (suc (suc s.nibbles)) pulses (status ∷ values)
    → IsSent s calibration (take (suc (suc s.nibbles)) pulses) (record { status = status; nibbles = take s.nibbles values }) (slice_index values s.nibbles) (place_at pulses (suc s.nibbles))
is_sent s calibration pulses status values calibrates there =
    let all : length (status ∷ values) ≡ suc (suc s.nibbles) = there.as_many in
    record {
      calibrates = calibrates;
      as_many = length-take-le s.nibbles values (omega arith);
      carried = subst (λ (rest : List ℕ). AreCarried calibration.length (take (suc (suc s.nibbles)) pulses) (status ∷ rest)) (last_apart s.nibbles values (omega arith)) there.carried;
      ends = place_in_front (suc s.nibbles) (suc (suc s.nibbles)) pulses (omega arith);
    }

-- where the last nibble is the CRC of what it covers, they are the frame
pub checks-good : (cover : Cover) (s : Settings) (calibration : Pulse) (pulses : List Pulse) (status : ℕ) (values : List ℕ) → may_calibrate s calibration ≡ true → IsCarried calibration.length (suc (suc s.nibbles)) pulses (status ∷ values)
    → (crc_of s.crc (covered cover status (take s.nibbles values)) == slice_index values s.nibbles) ≡ true
    → IsFrameOver cover s calibration (take (suc (suc s.nibbles)) pulses) (record { status = status; nibbles = take s.nibbles values }) (place_at pulses (suc s.nibbles))
checks-good cover s calibration pulses status values calibrates there right =
    subst (λ (crc : ℕ). IsSent s calibration (take (suc (suc s.nibbles)) pulses) (record { status = status; nibbles = take s.nibbles values }) crc (place_at pulses (suc s.nibbles)))
    (sym (eqb-true (crc_of s.crc (covered cover status (take s.nibbles values))) (slice_index values s.nibbles) right)) (is_sent s calibration pulses status values calibrates there)

-- and else their check is wrong
pub checks-wrong : (cover : Cover) (s : Settings) (calibration : Pulse) (pulses : List Pulse) (status : ℕ) (values : List ℕ) → may_calibrate s calibration ≡ true → IsCarried calibration.length (suc (suc s.nibbles)) pulses (status ∷ values)
    → (crc_of s.crc (covered cover status (take s.nibbles values)) == slice_index values s.nibbles) ≡ false → IsWrongOver cover s calibration (take (suc (suc s.nibbles)) pulses) (place_at pulses (suc s.nibbles))
checks-wrong cover s calibration pulses status values calibrates there wrong = record {
  frame = record { status = status; nibbles = take s.nibbles values };
  crc = slice_index values s.nibbles;
  sent = is_sent s calibration pulses status values calibrates there;
  wrong = λ same. eqb-false (crc_of s.crc (covered cover status (take s.nibbles values))) (slice_index values s.nibbles) wrong (sym same);
}

-- The pulses between recorded falls.
--     heard_cut             recorded falls, but for the first ones, end pulses that are heard
--     length_recorded       as many falls as were sent
--     pulses-drop           the pulses behind so many falls
--     place_is              the places of pulses are the numbers of the falls
use Rattle.std.proofs.Common.{◌≡◌, ℕ, zero, suc, ◌+◌, List, [], ◌∷◌, length, map, drop, slice_index, refl, ap, sym, subst, arith}
use Rattle.std.proofs.lemmas.List.{drop_all}
use Rattle.sent_frame.specs.Pulses.{Fall, pulses_after, pulses_between}
use Rattle.sent_frame.specs.Reading.{place_at}
use Rattle.link_tolerance.specs.Recorded.{AreRecorded, IsRecorded}
use Rattle.link_tolerance.proofs.HeardPulses.{heard_between}
use Rattle.link_tolerance.specs.Pulses.{falls_behind}
use Rattle.sent_tolerance.proofs.HeardFrames.{AreHeard}

-- the times of falls
abbrev pub times_of : List Fall → List ℕ
times_of falls = map (λ (fall : Fall). fall.time) falls

-- the numbers of falls
abbrev pub numbers_of : List Fall → List ℕ
numbers_of falls = map (λ (fall : Fall). fall.number) falls

heard_after : (jitter ideal before : ℕ) (lengths : List ℕ) (falls : List Fall) → IsRecorded jitter ideal before → AreRecorded jitter (falls_behind ideal lengths) (times_of falls) → AreHeard jitter lengths (pulses_after before falls)
unfolding falls_behind
heard_after jitter ideal before [] [] first recorded = tt
heard_after jitter ideal before [] (fall ∷ falls) first recorded = absurd recorded
heard_after jitter ideal before (sent ∷ lengths) [] first recorded = absurd recorded
heard_after jitter ideal before (sent ∷ lengths) (fall ∷ falls) first recorded =
    (heard_between jitter ideal sent before fall.time first recorded.0, heard_after jitter (ideal + sent) fall.time lengths falls recorded.0 recorded.1)

pub nothing_recorded : (jitter : ℕ) (falls : List Fall) → AreRecorded jitter [] (times_of falls) → AreHeard jitter [] (pulses_between falls)
nothing_recorded jitter [] recorded = tt
nothing_recorded jitter (fall ∷ falls) recorded = absurd recorded

pub heard_cut : (jitter start cut : ℕ) (lengths : List ℕ) (falls : List Fall) → AreRecorded jitter (drop cut (start ∷ falls_behind start lengths)) (times_of falls) → AreHeard jitter (drop cut lengths) (pulses_between falls)
unfolding falls_behind
heard_cut jitter start zero lengths [] recorded = absurd recorded
heard_cut jitter start zero lengths (fall ∷ falls) recorded = heard_after jitter start fall.time lengths falls recorded.0 recorded.1
heard_cut jitter start (suc cut) [] falls recorded =
    nothing_recorded jitter falls (subst (λ (ideals : List ℕ). AreRecorded jitter ideals (times_of falls)) (drop_all cut [] (omega arith)) recorded)
heard_cut jitter start (suc cut) (sent ∷ lengths) falls recorded = heard_cut jitter (start + sent) cut lengths falls recorded

pub length_recorded : (jitter : ℕ) (ideals times : List ℕ) → AreRecorded jitter ideals times → length ideals ≡ length times
length_recorded jitter [] [] recorded = refl
length_recorded jitter [] (time ∷ times) recorded = absurd recorded
length_recorded jitter (ideal ∷ ideals) [] recorded = absurd recorded
length_recorded jitter (ideal ∷ ideals) (time ∷ times) recorded = ap suc (length_recorded jitter ideals times recorded.1)

pub pulses-drop : (count : ℕ) (falls : List Fall) → drop count (pulses_between falls) ≡ pulses_between (drop count falls)
pulses-drop zero falls = refl
pulses-drop (suc count) [] = refl
pulses-drop (suc count) (fall ∷ []) = subst (λ (rest : List Fall). [] ≡ pulses_between rest) (sym (drop_all count [] (omega arith))) refl
pulses-drop (suc count) (fall ∷ next ∷ falls) = pulses-drop count (next ∷ falls)

place_after : (before : ℕ) (index : ℕ) (falls : List Fall) → place_at (pulses_after before falls) index ≡ slice_index (numbers_of falls) index
place_after before index [] = refl
place_after before zero (fall ∷ falls) = refl
place_after before (suc index) (fall ∷ falls) = place_after fall.time index falls

pub place_is : (index : ℕ) (falls : List Fall) → place_at (pulses_between falls) index ≡ slice_index (numbers_of falls) (suc index)
place_is index [] = refl
place_is index (fall ∷ falls) = place_after fall.time index falls

-- Ideal times and when they are recorded.
--     length-words             as many words as are asked for
--     recorded-near            within the jitter
--     are_recorded             one by one
--     recorded-append          one train behind another
--     falls-append, falls-within
use Rattle.std.proofs.Common.{◌≡◌, ℕ, zero, suc, ◌+◌, ◌-◌, ◌*◌, ◌/◌, ◌%◌, ◌<◌, ◌≤◌, List, [], ◌∷◌, ◌++◌, length, sum, refl, ap, ◌∙◌, add-zero, add_assoc, sym, arith}
use Rattle.std.proofs.lemmas.List.Sums.{sum_by-cons}
use Rattle.std.proofs.lemmas.Nat.{mod_below}
use Rattle.rand_pcg.specs.Lcg.{Lcg}
use Rattle.link_tolerance.specs.Pulses.{falls_behind}
use Rattle.link_tolerance.specs.Recorded.{AreRecorded, IsRecorded}
use Rattle.sim_base.specs.Recordings.{recorded_at, recorded_by}
use Rattle.sim_base.specs.Wobbles.{behind_word, words}

pub length-words : (count : ℕ) (g : Lcg) → length (words count g) ≡ count
unfolding words
length-words zero g = refl
length-words (suc count) g = ap suc (length-words count (behind_word g))

near : (jitter ideal pick : ℕ) → 1 ≤ jitter → pick < 2 * jitter → IsRecorded jitter ideal (ideal / 1000 + pick - (jitter - 1))
near jitter ideal pick some below = record { not_too_early = omega arith; not_too_late = omega arith }

pub recorded-near : (jitter ideal word : ℕ) → 1 ≤ jitter → IsRecorded jitter ideal (recorded_at jitter ideal word)
unfolding recorded_at
recorded-near jitter ideal word some = near jitter ideal (word % (2 * jitter)) some (mod_below word (2 * jitter) (omega arith))

pub are_recorded : (jitter : ℕ) (ideals words : List ℕ) → 1 ≤ jitter → length words ≡ length ideals → AreRecorded jitter ideals (recorded_by jitter ideals words)
unfolding recorded_by
are_recorded jitter [] words some as_many = tt
are_recorded jitter (ideal ∷ ideals) [] some as_many = absurd (omega arith)
are_recorded jitter (ideal ∷ ideals) (word ∷ words) some as_many = (recorded-near jitter ideal word some, are_recorded jitter ideals words some (omega arith))

pub recorded-append : (jitter : ℕ) (ideals more times later : List ℕ) → AreRecorded jitter ideals times → AreRecorded jitter more later → AreRecorded jitter (ideals ++ more) (times ++ later)
recorded-append jitter [] more [] later first second = second
recorded-append jitter [] more (time ∷ times) later first second = absurd first
recorded-append jitter (ideal ∷ ideals) more [] later first second = absurd first
recorded-append jitter (ideal ∷ ideals) more (time ∷ times) later first second = (first.0, recorded-append jitter ideals more times later first.1 second)

pub falls-append : (time : ℕ) (pulses more : List ℕ) → falls_behind time (pulses ++ more) ≡ falls_behind time pulses ++ falls_behind (time + sum pulses) more
unfolding falls_behind
falls-append time [] more = ap (λ t. falls_behind t more) (sym (add-zero time))
falls-append time (pulse ∷ pulses) more =
    let same : time + pulse + sum pulses ≡ time + sum (pulse ∷ pulses) = add_assoc time pulse (sum pulses) ∙ ap (λ n. time + n) (sym (sum_by-cons (λ n. n) pulse pulses)) in
    ap (λ l. (time + pulse) ∷ l) (falls-append (time + pulse) pulses more ∙ ap (λ t. falls_behind (time + pulse) pulses ++ falls_behind t more) same)

pub length-falls : (time : ℕ) (pulses : List ℕ) → length (falls_behind time pulses) ≡ length pulses
unfolding falls_behind
length-falls time [] = refl
length-falls time (pulse ∷ pulses) = ap suc (length-falls (time + pulse) pulses)

pub length-recorded : (jitter : ℕ) (ideals words : List ℕ) → length words ≡ length ideals → length (recorded_by jitter ideals words) ≡ length ideals
unfolding recorded_by
length-recorded jitter [] words as_many = refl
length-recorded jitter (ideal ∷ ideals) [] as_many = absurd (omega arith)
length-recorded jitter (ideal ∷ ideals) (word ∷ words) as_many = ap suc (length-recorded jitter ideals words (omega arith))

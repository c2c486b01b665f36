-- Pulses that are added one by one.
--     AddsPulses       what is there so far, and what the pulses that are left come to
--     adds-next        one pulse more
--     adds-end         no pulse is left
--     pulse_short      how long a pulse is at most
use Rattle.std.proofs.Common.{◌≡◌, ℕ, ◌+◌, ◌*◌, ◌^◌, ◌<◌, ◌≤◌, List, [], ◌∷◌, ◌++◌, length, drop, get_or, sum, refl, ap, sym, subst, ◌∙◌, append_assoc, append-nil, add-zero, add_assoc, add-one, drop-cons, arith}
use Rattle.std.proofs.lemmas.List.Sums.{sum_by-cons}
use Rattle.std.proofs.lemmas.List.{drop_all}
use Rattle.std.proofs.lemmas.Nat.{mul-le}
use Rattle.rand_pcg.specs.Lcg.{Lcg}
use Rattle.link_tolerance.specs.Pulses.{falls_behind, lengths_of}
use Rattle.link_tolerance.specs.Ticks.{IsOwnTick}
use Rattle.sim_base.specs.DrawnTicks.{own_tick, own_ticks}
use Rattle.sim_base.specs.Wobbles.{behind_word, past, word, words}

-- the lengths of pulses of so many ticks, by the words of a generator
abbrev pub drawn_lengths : ℕ → List ℕ → Lcg → List ℕ
drawn_lengths tick counts g = lengths_of counts (own_ticks tick (words (length counts) g))

pub record AddsPulses (tick : ℕ) (counts falls : List ℕ) (time : ℕ) (g : Lcg) (all : List ℕ) (last : ℕ) (end : Lcg) : Type 0 where
  pub falls_are : falls ++ falls_behind time (drawn_lengths tick counts g) ≡ all
  pub last_is : time + sum (drawn_lengths tick counts g) ≡ last
  pub ends : past (length counts) g ≡ end

adds-one : (tick count : ℕ) (counts falls : List ℕ) (time : ℕ) (g : Lcg) (all : List ℕ) (last : ℕ) (end : Lcg) → AddsPulses tick (count ∷ counts) falls time g all last end
    → AddsPulses tick counts (falls ++ (time + count * own_tick tick (word g)) ∷ []) (time + count * own_tick tick (word g)) (behind_word g) all last end
unfolding words past falls_behind
adds-one tick count counts falls time g all last end so_far =
    let pulse = count * own_tick tick (word g) in
    let others = drawn_lengths tick counts (behind_word g) in
    record {
      falls_are = append_assoc falls ((time + pulse) ∷ []) (falls_behind (time + pulse) others) ∙ so_far.falls_are;
      last_is = add_assoc time pulse (sum others) ∙ ap (λ n. time + n) (sym (sum_by-cons (λ n. n) pulse others)) ∙ so_far.last_is;
      ends = so_far.ends;
    }

adds-all : (tick : ℕ) (falls : List ℕ) (time : ℕ) (g : Lcg) (all : List ℕ) (last : ℕ) (end : Lcg) → AddsPulses tick [] falls time g all last end → (falls ≡ all) × (time ≡ last) × (g ≡ end)
unfolding words past falls_behind
adds-all tick falls time g all last end so_far = (sym (append-nil falls) ∙ so_far.falls_are, sym (add-zero time) ∙ so_far.last_is, so_far.ends)

-- the pulse at this place of a list
pub adds-next : (tick count own : ℕ) (counts : List ℕ) (place : ℕ) (falls more : List ℕ) (time : ℕ) (g behind : Lcg) (all : List ℕ) (last : ℕ) (end : Lcg) → place < length counts
    → AddsPulses tick (drop place counts) falls time g all last end → count ≡ get_or counts place 0 → own ≡ own_tick tick (word g) → more ≡ falls ++ (time + count * own) ∷ [] → behind ≡ behind_word g
    → AddsPulses tick (drop (place + 1) counts) more (time + count * own) behind all last end
adds-next tick count own counts place falls more time g behind all last end within so_far count_is own_is more_is behind_is =
    let here : drop place counts ≡ count ∷ drop (place + 1) counts = rw (add-one, drop-cons counts place 0, count_is) refl in
    let next = adds-one tick count (drop (place + 1) counts) falls time g all last end (subst (λ l. AddsPulses tick l falls time g all last end) here so_far) in
    let to_own = subst (λ o. AddsPulses tick (drop (place + 1) counts) (falls ++ (time + count * o) ∷ []) (time + count * o) (behind_word g) all last end) (sym own_is) next in
    let to_behind = subst (λ b. AddsPulses tick (drop (place + 1) counts) (falls ++ (time + count * own) ∷ []) (time + count * own) b all last end) (sym behind_is) to_own in
    subst (λ l. AddsPulses tick (drop (place + 1) counts) l (time + count * own) behind all last end) (sym more_is) to_behind

-- at the end of a list
pub adds-end : (tick : ℕ) (counts : List ℕ) (place : ℕ) (falls : List ℕ) (time : ℕ) (g : Lcg) (all : List ℕ) (last : ℕ) (end : Lcg) → length counts ≤ place
    → AddsPulses tick (drop place counts) falls time g all last end → (falls ≡ all) × (time ≡ last) × (g ≡ end)
adds-end tick counts place falls time g all last end past_all so_far =
    adds-all tick falls time g all last end (subst (λ l. AddsPulses tick l falls time g all last end) (drop_all place counts past_all) so_far)

-- a pulse isn't longer than 2^57 ps
pub pulse_short : (tick count own : ℕ) → tick < 2 ^ 40 → count < 2 ^ 16 → IsOwnTick tick own → count * own ≤ 2 ^ 57
pulse_short tick count own small few near = omega (arith, mul-le count own (2 ^ 16) (2 ^ 41) (omega arith) (omega arith))

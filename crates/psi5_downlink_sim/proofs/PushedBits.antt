-- Bits whose rises are added one by one.
--     AddsBits         what is there so far, and what the bits that are left come to
--     adds-clear, adds-set     a bit more
--     adds-end         no bit is left
use Rattle.std.proofs.Common.{◌≡◌, ℕ, zero, suc, ◌+◌, ◌*◌, ◌<◌, ◌≤◌, Bool, true, false, List, [], ◌∷◌, ◌++◌, length, drop, get_or, map, refl, ap, sym, subst, ◌∙◌, append_assoc, append-nil, add-zero, add-one, drop-cons, arith}
use Rattle.std.proofs.lemmas.List.{drop_all}
use Rattle.std.proofs.lemmas.List.Sums.{sum_by-cons}
use Rattle.psi5_downlink_tolerance.specs.Trains.{Span, periods_of, rises_behind}
use Rattle.psi5_downlink_sim.specs.ToothSims.{length_of, span_of}

-- the intervals of bits that are left, so many 0s behind the last rise
abbrev pub spans_left : ℕ → ℕ → List Bool → List Span
spans_left period since bits = map (span_of period) (periods_of since bits)

pub record AddsBits (period : ℕ) (bits : List Bool) (rises : List ℕ) (last time : ℕ) (all : List ℕ) (end : ℕ) : Type 0 where
  pub since : ℕ
  pub rises_are : rises ++ rises_behind last (spans_left period since bits) ≡ all
  pub end_is : last + length_of (spans_left period since bits) ≡ end
  pub time_is : time ≡ last + since * period

pub adds-start : (period : ℕ) (bits : List Bool) (rises : List ℕ) (start : ℕ) → AddsBits period bits rises start start (rises ++ rises_behind start (spans_left period 0 bits)) (start + length_of (spans_left period 0 bits))
adds-start period bits rises start = record { since = 0; rises_are = refl; end_is = refl; time_is = omega arith }

module _ (period : ℕ) (bits : List Bool) (place : ℕ) (within : place < length bits) (rises : List ℕ) (last time : ℕ) (all : List ℕ) (end : ℕ) (so_far : AddsBits period (drop place bits) rises last time all end) where
  here : (bit : Bool) → bit ≡ get_or bits place false → drop place bits ≡ bit ∷ drop (place + 1) bits
  here bit is = rw (add-one, drop-cons bits place false, is) refl

  pub adds-clear : get_or bits place false ≡ false → AddsBits period (drop (place + 1) bits) rises last (time + period) all end
  unfolding periods_of
  adds-clear clear =
      let moved = subst (λ l. AddsBits period l rises last time all end) (here false (sym clear)) so_far in
      record { since = suc moved.since; rises_are = moved.rises_are; end_is = moved.end_is; time_is = omega (arith, moved.time_is) }

  pub adds-set : get_or bits place false ≡ true → AddsBits period (drop (place + 1) bits) (rises ++ (time + period) ∷ []) (time + period) (time + period) all end
  unfolding periods_of rises_behind
  adds-set set =
      let moved = subst (λ l. AddsBits period l rises last time all end) (here true (sym set)) so_far in
      let later = spans_left period zero (drop (place + 1) bits) in
      let next : last + suc moved.since * period ≡ time + period = omega (arith, moved.time_is) in
      let lengths : length_of (span_of period (suc moved.since) ∷ later) ≡ suc moved.since * period + length_of later = sum_by-cons (λ n. n) (suc moved.since * period) (map (λ (span : Span). span.length) later) in
      record {
        since = zero;
        rises_are = append_assoc rises ((time + period) ∷ []) (rises_behind (time + period) later) ∙ ap (λ t. rises ++ t ∷ rises_behind t later) (sym next) ∙ moved.rises_are;
        end_is = omega (arith, next, lengths, moved.end_is);
        time_is = omega arith;
      }

pub adds-end : (period : ℕ) (bits : List Bool) (place : ℕ) (rises : List ℕ) (last time : ℕ) (all : List ℕ) (end : ℕ) → length bits ≤ place → AddsBits period (drop place bits) rises last time all end → (rises ≡ all) × (last ≡ end)
unfolding periods_of rises_behind
adds-end period bits place rises last time all end past_all so_far =
    let moved = subst (λ l. AddsBits period l rises last time all end) (drop_all place bits past_all) so_far in
    (sym (append-nil rises) ∙ moved.rises_are, sym (add-zero last) ∙ moved.end_is)

-- by other names
pub adds-same : {period : ℕ} {bits : List Bool} {rises rises' : List ℕ} {last last' time : ℕ} {all : List ℕ} {end : ℕ} → AddsBits period bits rises last time all end → rises' ≡ rises → last' ≡ last → AddsBits period bits rises' last' time all end
adds-same {period} {bits} {rises} {rises'} {last} {last'} {time} {all} {end} so_far rises_are last_is =
    subst (λ l. AddsBits period bits l last' time all end) (sym rises_are) (subst (λ n. AddsBits period bits rises n time all end) (sym last_is) so_far)

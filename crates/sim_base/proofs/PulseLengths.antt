-- How long pulses are, and where their falls are.
--     within           falls behind a time come behind it, up to the last
--     lengths-least    pulses of so many ticks at least are so long at least
--     owns-long        own ticks are at least 798/1000 of the nominal one
--     many-long        pulses that are so long come to so much together
use Rattle.std.proofs.Common.{ℕ, ◌+◌, ◌*◌, ◌≤◌, ◌≡◌, List, [], ◌∷◌, length, sum, arith}
use Rattle.std.specs.List.{All}
use Rattle.std.proofs.lemmas.List.Elements.{All-cons, All-head, All-nil, All-tail}
use Rattle.std.proofs.lemmas.List.Sums.{sum_by-cons}
use Rattle.std.proofs.lemmas.Nat.{mul-le}
use Rattle.link_tolerance.specs.Pulses.{falls_behind, lengths_of}
use Rattle.link_tolerance.specs.Ticks.{IsOwnTick, IsTick}

-- falls behind a time come behind it
pub within : (least most time : ℕ) (pulses : List ℕ) → least ≤ time → time + sum pulses ≤ most → All (λ fall. (least ≤ fall) × (fall ≤ most)) (falls_behind time pulses)
unfolding falls_behind
within least most time [] low high = All-nil (λ fall. (least ≤ fall) × (fall ≤ most))
within least most time (pulse ∷ pulses) low high =
    let longer : sum (pulse ∷ pulses) ≡ pulse + sum pulses = sum_by-cons (λ n. n) pulse pulses in
    All-cons (λ fall. (least ≤ fall) × (fall ≤ most)) (time + pulse) (falls_behind (time + pulse) pulses) (omega arith, omega (arith, longer))
    (within least most (time + pulse) pulses (omega arith) (omega (arith, longer)))

-- pulses of so many ticks at least, of such ticks, are so long at least
pub lengths-least : (least tick : ℕ) (counts ticks : List ℕ) → All (λ count. least ≤ count) counts → All (λ t. tick ≤ t) ticks → All (λ length. least * tick ≤ length) (lengths_of counts ticks)
lengths-least least tick [] ticks many long = All-nil (λ length. least * tick ≤ length)
lengths-least least tick (count ∷ counts) [] many long = All-nil (λ length. least * tick ≤ length)
lengths-least least tick (count ∷ counts) (t ∷ ticks) many long =
    All-cons (λ length. least * tick ≤ length) (count * t) (lengths_of counts ticks)
    (mul-le least tick count t (All-head (λ count. least ≤ count) count counts many) (All-head (λ t. tick ≤ t) t ticks long))
    (lengths-least least tick counts ticks (All-tail (λ count. least ≤ count) count counts many) (All-tail (λ t. tick ≤ t) t ticks long))

-- own ticks are long
pub owns-long : (nominal tick : ℕ) (ticks : List ℕ) → IsTick nominal tick → All (IsOwnTick tick) ticks → All (λ t. 798 * nominal ≤ t) ticks
owns-long nominal tick [] is_tick near = All-nil (λ t. 798 * nominal ≤ t)
owns-long nominal tick (own ∷ ticks) is_tick near =
    let here : IsOwnTick tick own = All-head (IsOwnTick tick) own ticks near in
    All-cons (λ t. 798 * nominal ≤ t) own ticks (omega arith) (owns-long nominal tick ticks is_tick (All-tail (IsOwnTick tick) own ticks near))

-- so long that so many fit into their sum
pub many-long : (least : ℕ) (pulses : List ℕ) → All (λ pulse. least ≤ pulse) pulses → length pulses * least ≤ sum pulses
many-long least [] long = omega arith
many-long least (pulse ∷ pulses) long =
    let longer : sum (pulse ∷ pulses) ≡ pulse + sum pulses = sum_by-cons (λ n. n) pulse pulses in
    omega (arith, longer, All-head (λ pulse. least ≤ pulse) pulse pulses long, many-long least pulses (All-tail (λ pulse. least ≤ pulse) pulse pulses long))

-- How long pulses are at most.
--     lengths-most     pulses of at most so many ticks come to at most so much together
--     owns-short       own ticks are at most 1203/1000 of the nominal one
--     values-few       a value below 16 is sent in at most so many ticks
use Rattle.std.proofs.Common.{ℕ, ◌+◌, ◌*◌, ◌<◌, ◌≤◌, ◌≡◌, List, [], ◌∷◌, length, map, sum, arith}
use Rattle.std.specs.List.{All}
use Rattle.std.proofs.lemmas.List.Elements.{All-cons, All-head, All-nil, All-tail}
use Rattle.std.proofs.lemmas.List.Sums.{sum_by-cons}
use Rattle.std.proofs.lemmas.Nat.{mul-le}
use Rattle.link_tolerance.specs.Pulses.{lengths_of}
use Rattle.link_tolerance.specs.Ticks.{IsOwnTick, IsTick}

-- pulses of at most so many ticks, each tick at most so long, are so long together
pub lengths-most : (most tick : ℕ) (counts ticks : List ℕ) → All (λ count. count ≤ most) counts → All (λ t. t ≤ tick) ticks → sum (lengths_of counts ticks) ≤ length counts * (most * tick)
lengths-most most tick [] ticks few short = omega arith
lengths-most most tick (count ∷ counts) [] few short = omega arith
lengths-most most tick (count ∷ counts) (t ∷ ticks) few short =
    let longer : sum (count * t ∷ lengths_of counts ticks) ≡ count * t + sum (lengths_of counts ticks) = sum_by-cons (λ n. n) (count * t) (lengths_of counts ticks) in
    let here : count * t ≤ most * tick = mul-le count t most tick (All-head (λ count. count ≤ most) count counts few) (All-head (λ t. t ≤ tick) t ticks short) in
    let more = lengths-most most tick counts ticks (All-tail (λ count. count ≤ most) count counts few) (All-tail (λ t. t ≤ tick) t ticks short) in
    omega (arith, longer, here, more)

-- own ticks, off by a 400th from a tick of at most 6/5 of the nominal one, are at most 1203/1000 of it
pub owns-short : (nominal tick : ℕ) (ticks : List ℕ) → IsTick nominal tick → All (IsOwnTick tick) ticks → All (λ t. t ≤ 1203 * nominal) ticks
owns-short nominal tick [] is_tick near = All-nil (λ t. t ≤ 1203 * nominal)
owns-short nominal tick (own ∷ ticks) is_tick near =
    let here : IsOwnTick tick own = All-head (IsOwnTick tick) own ticks near in
    All-cons (λ t. t ≤ 1203 * nominal) own ticks (omega arith) (owns-short nominal tick ticks is_tick (All-tail (IsOwnTick tick) own ticks near))

-- a value below 16 is sent in at most 27 ticks
pub values-few : (most : ℕ) (values : List ℕ) → 27 ≤ most → All (λ value. value < 16) values → All (λ count. count ≤ most) (map (λ value. 12 + value) values)
values-few most [] room small = All-nil (λ count. count ≤ most)
values-few most (value ∷ values) room small =
    let here : value < 16 = All-head (λ value. value < 16) value values small in
    All-cons (λ count. count ≤ most) (12 + value) (map (λ value. 12 + value) values) (omega arith) (values-few most values room (All-tail (λ value. value < 16) value values small))

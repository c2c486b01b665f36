-- Ticks that are drawn stay within their bounds.
--     drifts           the tick of a frame may follow that of the frame before
--     stays_tick       and is a tick
--     own-near         own ticks are near
--     pause-within     a pause has 12 to 768 ticks
use Rattle.std.proofs.Common.{ℕ, ◌+◌, ◌-◌, ◌*◌, ◌/◌, ◌%◌, ◌<◌, ◌≤◌, min, max, List, arith}
use Rattle.std.specs.List.{All}
use Rattle.std.proofs.lemmas.List.Elements.{All-map}
use Rattle.std.proofs.lemmas.Nat.{mod_below}
use Rattle.link_tolerance.specs.Ticks.{FollowsTick, IsOwnTick, IsTick}
use Rattle.sim_base.specs.DrawnTicks.{any_tick, next_tick, own_tick, own_ticks, pause_ticks}

follows : (nominal tick most pick : ℕ) → IsTick nominal tick → 200 * most ≤ tick → pick ≤ 2 * most → FollowsTick tick (max (800 * nominal) (min (1200 * nominal) (tick + pick - most)))
follows nominal tick most pick is_tick part below = record { not_below = omega arith; not_above = omega arith }

pub drifts : (nominal tick word : ℕ) → IsTick nominal tick → FollowsTick tick (next_tick nominal tick word)
unfolding next_tick
drifts nominal tick word is_tick =
    let below : word % (2 * (tick / 200) + 1) < 2 * (tick / 200) + 1 = mod_below word (2 * (tick / 200) + 1) (omega arith) in
    follows nominal tick (tick / 200) (word % (2 * (tick / 200) + 1)) is_tick (omega arith) (omega arith)

pub stays_tick : (nominal tick word : ℕ) → IsTick nominal (next_tick nominal tick word)
unfolding next_tick
stays_tick nominal tick word = record { not_below = omega arith; not_above = omega arith }

near : (tick most pick : ℕ) → 400 * most ≤ tick → pick ≤ 2 * most → IsOwnTick tick (tick + pick - most)
near tick most pick part below = record { not_below = omega arith; not_above = omega arith }

pub own-near : (tick word : ℕ) → IsOwnTick tick (own_tick tick word)
unfolding own_tick
own-near tick word =
    let below : word % (2 * (tick / 400) + 1) < 2 * (tick / 400) + 1 = mod_below word (2 * (tick / 400) + 1) (omega arith) in
    near tick (tick / 400) (word % (2 * (tick / 400) + 1)) (omega arith) (omega arith)

pub all-near : (tick : ℕ) (words : List ℕ) → All (IsOwnTick tick) (own_ticks tick words)
all-near tick words = All-map (IsOwnTick tick) (own_tick tick) words (λ k d within. own-near tick _)

pub pause-within : (word : ℕ) → (12 ≤ pause_ticks word) × (pause_ticks word ≤ 768)
unfolding pause_ticks
pause-within word =
    let below : word % 757 < 757 = mod_below word 757 (omega arith) in
    (omega arith, omega arith)

pub any-is_tick : (nominal word : ℕ) → IsTick nominal (any_tick nominal word)
unfolding any_tick
any-is_tick nominal word =
    let below : word % (400 * nominal + 1) < 400 * nominal + 1 = mod_below word (400 * nominal + 1) (omega arith) in
    record { not_below = omega arith; not_above = omega arith }

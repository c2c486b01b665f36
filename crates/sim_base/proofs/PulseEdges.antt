-- Edges with the edge back: when they are orderly, and what is heard of them.
--     AreSpaced, spaced        edges far enough apart
--     pulses-orderly, pulses-level, pulses-other, pulses-last, length-edges
--     fall_times, falls-heard, times-append
use Rattle.std.proofs.Common.{◌≡◌, ℕ, ◌+◌, ◌*◌, ◌^◌, ◌≤◌, Bool, true, false, not, Option, Some, List, [], ◌∷◌, ◌++◌, length, map, sum, refl, ap, sym, subst, ◌∙◌, if◌then◌else◌, eqb, eq-eqb, arith}
use Rattle.std.specs.List.{All, Contains}
use Rattle.std.proofs.lemmas.Bool.{false≢true}
use Rattle.std.proofs.lemmas.List.Elements.{All-head, All-tail}
use Rattle.std.proofs.lemmas.List.Sums.{sum_by-cons}
use Rattle.line_base.specs.declared.edge.Edge.{Edge}
use Rattle.line_base.specs.declared.edge.Item.TheVariants as item
use Rattle.line_base.specs.Orderly.{Alternates, IsOrderlyFrom, levels_with}
use Rattle.sent_frame.specs.Pulses.{Fall, falls_in}
use Rattle.link_tolerance.specs.Pulses.{falls_behind}
use Rattle.link_tolerance.specs.Recorded.{AreRecorded}
use Rattle.receiver_core.specs.Traces.{numbered}
use Rattle.sim_base.specs.Recordings.{pulses_at}
use Rattle.sim_base.proofs.OrderlyEdges.{last_time, levels_behind}

-- ---- falls far enough apart
-- each of these falls comes no earlier than the rise before, the first no earlier than this time, and its rise is in range
abbrev pub AreSpaced : ℕ → ℕ → List ℕ → Type 0
AreSpaced low time [] = Unit {0}
AreSpaced low time (fall ∷ falls) = (time ≤ fall) × (fall + low ≤ 10 ^ 15) × AreSpaced low (fall + low) falls

-- the pulses leave room for the rises and the jitter
abbrev pub LeaveRoom : ℕ → ℕ → List ℕ → Type 0
LeaveRoom jitter low pulses = All (λ pulse. 1000 * low + 2000 * jitter ≤ pulse) pulses

-- the rise behind a fall that is ideal at this time isn't later than this
pub record IsBehind (jitter low ideal time : ℕ) : Type 0 where
  pub not_late : 1000 * time ≤ ideal + 1000 * jitter + 1000 * low

pub spaced : (jitter low time ideal : ℕ) (pulses times : List ℕ) → LeaveRoom jitter low pulses → AreRecorded jitter (falls_behind ideal pulses) times → IsBehind jitter low ideal time
    → ideal + sum pulses ≤ 9 * 10 ^ 17 → jitter + low ≤ 10 ^ 13 → AreSpaced low time times
unfolding falls_behind
spaced jitter low time ideal [] [] room recorded behind in_time short = tt
spaced jitter low time ideal [] (fall ∷ times) room recorded behind in_time short = absurd recorded
spaced jitter low time ideal (pulse ∷ pulses) [] room recorded behind in_time short = absurd recorded
spaced jitter low time ideal (pulse ∷ pulses) (fall ∷ times) room recorded behind in_time short =
    let long : 1000 * low + 2000 * jitter ≤ pulse = All-head (λ pulse. 1000 * low + 2000 * jitter ≤ pulse) pulse pulses room in
    let here = recorded.0 in
    let longer : sum (pulse ∷ pulses) ≡ pulse + sum pulses = sum_by-cons (λ n. n) pulse pulses in (
      omega arith,
      omega (arith, longer),
      spaced jitter low (fall + low) (ideal + pulse) pulses times (All-tail (λ pulse. 1000 * low + 2000 * jitter ≤ pulse) pulse pulses room) recorded.1 (record { not_late = omega arith }) (omega (arith, longer)) short,
    )

-- ---- orderly edges
-- the level of the line that an edge is of
pub level-here : (levels : ℕ → Option Bool) (line : ℕ) (level : Bool) → levels_with levels line level line ≡ Some level
level-here levels line level = ap (λ b. if b then Some level else levels line) (eq-eqb line line refl)

-- the other level may follow
pub alternates : (before : Option Bool) (level next : Bool) → before ≡ Some level → (level ≡ next → ⊥) → Alternates before next
alternates before level next is differs = subst (λ b. Alternates b next) (sym is) differs

not-same : (level : Bool) → not level ≡ level → ⊥
not-same false same = false≢true (sym same)
not-same true same = false≢true same

pub pulses-orderly : (lines : List ℕ) (line : ℕ) (level : Bool) (width : ℕ) → Contains lines line → (number time : ℕ) (levels : ℕ → Option Bool) (times : List ℕ) → levels line ≡ Some (not level) → number + 2 * length times ≤ 2 ^ 40
    → AreSpaced width time times → IsOrderlyFrom lines number time levels (map item.Edge (pulses_at line level width times))
unfolding IsOrderlyFrom pulses_at
pulses-orderly lines line level width has number time levels [] before few apart = tt
pulses-orderly lines line level width has number time levels (first ∷ times) before few apart =
    let here = levels_with levels line level in
    let back = levels_with here line (not level) in (
      record { on_a_line = has; numbered = omega arith; not_earlier = apart.0; in_range = omega (arith, apart.1); alternates = alternates (levels line) (not level) level before (not-same level) },
      (
        record { on_a_line = has; numbered = omega arith; not_earlier = omega arith; in_range = apart.1; alternates = alternates (here line) level (not level) (level-here levels line level) (λ same. not-same level (sym same)) },
        pulses-orderly lines line level width has (number + 1 + 1) (first + width) back times (level-here here line (not level)) (omega arith) apart.2,
      ),
    )

pub pulses-level : (line : ℕ) (level : Bool) (width : ℕ) (levels : ℕ → Option Bool) (times : List ℕ) → levels line ≡ Some (not level) → levels_behind levels (pulses_at line level width times) line ≡ Some (not level)
unfolding pulses_at
pulses-level line level width levels [] before = before
pulses-level line level width levels (first ∷ times) before = pulses-level line level width (levels_with (levels_with levels line level) line (not level)) times (level-here (levels_with levels line level) line (not level))

-- other lines keep their levels
pub pulses-other : (line other : ℕ) (level : Bool) (width : ℕ) (levels : ℕ → Option Bool) (times : List ℕ) → eqb other line ≡ false → levels_behind levels (pulses_at line level width times) other ≡ levels other
unfolding pulses_at
pulses-other line other level width levels [] differs = refl
pulses-other line other level width levels (first ∷ times) differs =
    let here = levels_with levels line level in
    pulses-other line other level width (levels_with here line (not level)) times differs ∙ ap (λ b. if b then Some (not level) else here other) differs ∙ ap (λ b. if b then Some level else levels other) differs

pub pulses-last : (line : ℕ) (level : Bool) (jitter width time ideal : ℕ) (pulses times : List ℕ) → AreRecorded jitter (falls_behind ideal pulses) times → IsBehind jitter width ideal time
    → IsBehind jitter width (ideal + sum pulses) (last_time time (pulses_at line level width times))
unfolding falls_behind pulses_at
pulses-last line level jitter width time ideal [] [] recorded behind = record { not_late = omega arith }
pulses-last line level jitter width time ideal [] (first ∷ times) recorded behind = absurd recorded
pulses-last line level jitter width time ideal (pulse ∷ pulses) [] recorded behind = absurd recorded
pulses-last line level jitter width time ideal (pulse ∷ pulses) (first ∷ times) recorded behind =
    let here = recorded.0 in
    let longer : sum (pulse ∷ pulses) ≡ pulse + sum pulses = sum_by-cons (λ n. n) pulse pulses in
    let next = pulses-last line level jitter width (first + width) (ideal + pulse) pulses times recorded.1 (record { not_late = omega arith }) in
    record { not_late = omega (arith, longer, next.not_late) }

pub length-edges : (line : ℕ) (level : Bool) (width : ℕ) (times : List ℕ) → length (pulses_at line level width times) ≡ 2 * length times
unfolding pulses_at
length-edges line level width [] = refl
length-edges line level width (first ∷ times) = omega (arith, length-edges line level width times)

-- ---- what is heard
-- the times of the falls among these edges
abbrev pub fall_times : List Edge → List ℕ
fall_times [] = []
fall_times (edge ∷ edges) = if edge.level then fall_times edges else edge.time ∷ fall_times edges

pub times-append : (edges more : List Edge) → fall_times (edges ++ more) ≡ fall_times edges ++ fall_times more
times-append [] more = refl
times-append (edge ∷ edges) more =
    elim edge.level as (λ b. (if b then fall_times (edges ++ more) else edge.time ∷ fall_times (edges ++ more)) ≡ (if b then fall_times edges else edge.time ∷ fall_times edges) ++ fall_times more)
    [ true ↦ times-append edges more | false ↦ ap (λ l. edge.time ∷ l) (times-append edges more) ]

pub times-heard : (line low : ℕ) (times : List ℕ) → fall_times (pulses_at line false low times) ≡ times
unfolding pulses_at
times-heard line low [] = refl
times-heard line low (fall ∷ times) = ap (λ l. fall ∷ l) (times-heard line low times)

-- whatever numbers they have
pub falls-heard : (number : ℕ) (edges : List Edge) → map (λ (fall : Fall). fall.time) (falls_in (numbered number edges)) ≡ fall_times edges
unfolding numbered
falls-heard number [] = refl
falls-heard number (edge ∷ edges) =
    elim edge.level as (λ b. map (λ (fall : Fall). fall.time) (if b then falls_in (numbered (number + 1) edges) else record { number = number; time = edge.time } ∷ falls_in (numbered (number + 1) edges)) ≡ (if b then fall_times edges else edge.time ∷ fall_times edges))
    [ true ↦ falls-heard (number + 1) edges | false ↦ ap (λ l. edge.time ∷ l) (falls-heard (number + 1) edges) ]

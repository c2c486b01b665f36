-- The edges of a line that alternate.
--     AreOrderly, alternating-orderly      their times don't go back
--     toggled, alternating-level           the level behind them
--     alternating-other                    other lines keep their levels
--     length-alternating
use Rattle.std.proofs.Common.{◌≡◌, ℕ, suc, ◌+◌, ◌^◌, ◌≤◌, Bool, true, false, not, Option, Some, List, [], ◌∷◌, length, map, refl, ap, sym, ◌∙◌, if◌then◌else◌, eqb, arith}
use Rattle.std.specs.List.{Contains}
use Rattle.std.proofs.lemmas.Bool.{false≢true}
use Rattle.line_base.specs.declared.edge.Item.TheVariants as item
use Rattle.line_base.specs.Orderly.{IsOrderlyFrom, levels_with}
use Rattle.sim_base.proofs.OrderlyEdges.{levels_behind}
use Rattle.sim_base.proofs.PulseEdges.{alternates, level-here}
use Rattle.psi5_sim.specs.Psi5Sims.{alternating}

-- these times don't go back behind this one, and are at most 10^15
abbrev pub AreOrderly : ℕ → List ℕ → Type 0
AreOrderly time [] = Unit {0}
AreOrderly time (next ∷ times) = (time ≤ next) × (next ≤ 10 ^ 15) × AreOrderly next times

not-same : (level : Bool) → not level ≡ level → ⊥
not-same false same = false≢true (sym same)
not-same true same = false≢true same

not-not : (level : Bool) → level ≡ not (not level)
not-not false = refl
not-not true = refl

pub alternating-orderly : (lines : List ℕ) (line : ℕ) → Contains lines line → (level : Bool) (number time : ℕ) (levels : ℕ → Option Bool) (times : List ℕ) → levels line ≡ Some (not level) → number + length times ≤ 2 ^ 40
    → AreOrderly time times → IsOrderlyFrom lines number time levels (map item.Edge (alternating line level times))
unfolding IsOrderlyFrom alternating
alternating-orderly lines line has level number time levels [] before few order = tt
alternating-orderly lines line has level number time levels (next ∷ times) before few order = (
  record { on_a_line = has; numbered = omega arith; not_earlier = order.0; in_range = order.1; alternates = alternates (levels line) (not level) level before (not-same level) },
  alternating-orderly lines line has (not level) (number + 1) next (levels_with levels line level) times (level-here levels line level ∙ ap (λ b. Some b) (not-not level)) (omega arith) order.2,
)

-- the level behind as many changes as this list has elements
abbrev pub toggled : Bool → List ℕ → Bool
toggled before [] = before
toggled before (x ∷ xs) = toggled (not before) xs

pub toggled-length : (before : Bool) (xs ys : List ℕ) → length xs ≡ length ys → toggled before xs ≡ toggled before ys
toggled-length before [] [] same = refl
toggled-length before [] (y ∷ ys) same = absurd (omega (arith, same))
toggled-length before (x ∷ xs) [] same = absurd (omega (arith, same))
toggled-length before (x ∷ xs) (y ∷ ys) same = toggled-length (not before) xs ys (omega (arith, same))

pub alternating-level : (line : ℕ) (before : Bool) (levels : ℕ → Option Bool) (times : List ℕ) → levels line ≡ Some before → levels_behind levels (alternating line (not before) times) line ≡ Some (toggled before times)
unfolding alternating
alternating-level line before levels [] is = is
alternating-level line before levels (next ∷ times) is = alternating-level line (not before) (levels_with levels line (not before)) times (level-here levels line (not before))

pub alternating-other : (line other : ℕ) (level : Bool) (levels : ℕ → Option Bool) (times : List ℕ) → eqb other line ≡ false → levels_behind levels (alternating line level times) other ≡ levels other
unfolding alternating
alternating-other line other level levels [] differs = refl
alternating-other line other level levels (next ∷ times) differs =
    alternating-other line other (not level) (levels_with levels line level) times differs ∙ ap (λ b. if b then Some level else levels other) differs

pub length-alternating : (line : ℕ) (level : Bool) (times : List ℕ) → length (alternating line level times) ≡ length times
unfolding alternating
length-alternating line level [] = refl
length-alternating line level (next ∷ times) = ap suc (length-alternating line (not level) times)

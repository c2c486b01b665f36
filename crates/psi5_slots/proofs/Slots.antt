-- Windows that don't overlap, and the flags that say which of them were answered.
--     placed-found, answered-found      a start in a window
--     placed-none, more-none      a start in no window
--     answered-none      no start
use Rattle.std.proofs.Common.{◌≡◌, ℕ, zero, suc, ◌+◌, ◌<◌, ◌≤◌, Bool, true, false, ◌||◌, nat_lt, if◌then◌else◌, Option, None, Some, option_map, slice_set, slice_index_or, List, [], ◌∷◌, ◌++◌, length, replicate, refl, sym, ◌∙◌, ap, rules, arith}
use Rattle.std.proofs.lemmas.Bool.Decides.{nat_tests}
use Rattle.std.proofs.lemmas.List.Folds.{list_any-append}
use Rattle.line_base.specs.declared.edge.Span.{Span}
use Rattle.line_base.specs.declared.rule.Rule.TheVariants as rule
use Rattle.line_base.specs.Spans.{is_in}
use Rattle.psi5_frame.specs.Setup as frames
use Rattle.psi5_slots.specs.declared.placed.Placed.TheVariants.{Slot, Bad}
use Rattle.psi5_slots.specs.Setup.{InRange, are_apart, last_high}
use Rattle.psi5_slots.specs.History.{is_answered, placed_behind, slot_from}
use Rattle.psi5_slots.specs.Kept.{AnsweredIn, window_in}

-- ---- the number of a window
behind-first : (found : Option ℕ) (number : ℕ) → option_map (λ n. suc n) found ≡ Some (suc number) → found ≡ Some number
behind-first None number e = grind (arith, e)
behind-first (Some n) number e = search (rules, e)

never-first : (found : Option ℕ) → option_map (λ n. suc n) found ≡ Some zero → ⊥
never-first None e = grind (arith, e)
never-first (Some n) e = grind (arith, e)

never-found : (found : Option ℕ) → option_map (λ n. suc n) found ≡ None → found ≡ None
never-found None e = refl
never-found (Some n) e = grind (arith, e)

-- ---- windows that don't overlap
-- an offset that isn't behind a window lies in none of those behind it
outside-behind : (frame : frames.Settings) (before : Span) (windows : List Span) (offset : ℕ) → are_apart frame before windows ≡ true → offset ≤ before.high → window_in windows offset ≡ None
outside-behind frame before [] offset apart low = refl
outside-behind frame before (window ∷ windows) offset apart low =
    let outside : is_in window offset ≡ false = grind (arith, nat_tests, apart, low) in
    let more : offset ≤ window.high = grind (arith, nat_tests, apart, low) in
    let later : are_apart frame window windows ≡ true = grind (arith, apart) in
    rw (outside, outside-behind frame window windows offset later more) refl

-- the last window ends behind the one before
last-above : (frame : frames.Settings) (before : Span) (windows : List Span) → are_apart frame before windows ≡ true → before.high ≤ last_high before.high windows
last-above frame before [] apart = omega arith
last-above frame before (window ∷ windows) apart =
    let more : before.high ≤ window.high = grind (arith, nat_tests, apart) in
    let later : are_apart frame window windows ≡ true = grind (arith, apart) in
    omega (arith, more, last-above frame window windows later)

-- each window lies apart from the one before it
abbrev AllApart : frames.Settings → List Span → Type 0
AllApart frame [] = Unit {0}
AllApart frame (window ∷ windows) = are_apart frame window windows ≡ true

behind-apart : (frame : frames.Settings) (before : Span) (windows : List Span) → are_apart frame before windows ≡ true → AllApart frame windows
behind-apart frame before [] apart = tt
behind-apart frame before (window ∷ windows) apart = grind (arith, apart)

slots-apart : (frame : frames.Settings) (windows : List Span) → InRange windows frame → AllApart frame windows
slots-apart frame [] range = tt
slots-apart frame (window ∷ windows) range = grind (arith, range.slots)

-- an offset that lies in one of the windows isn't above the last
below-last : (frame : frames.Settings) (high : ℕ) (windows : List Span) (number offset : ℕ) → AllApart frame windows → window_in windows offset ≡ Some number → offset ≤ last_high high windows
below-last frame high [] number offset apart found = grind (arith, found)
below-last frame high (window ∷ windows) number offset apart found =
    by_test (is_in window offset) refl number found (λ n later. below-last frame window.high windows n offset (behind-apart frame window windows apart) later)
  where
    by_test : (inside : Bool) → is_in window offset ≡ inside → (number : ℕ) → window_in (window ∷ windows) offset ≡ Some number
        → ((n : ℕ) → window_in windows offset ≡ Some n → offset ≤ last_high window.high windows)
        → offset ≤ last_high high (window ∷ windows)
    by_test true inside number found later =
        let low : offset ≤ window.high = grind (arith, nat_tests, inside) in
        omega (arith, low, last-above frame window windows apart)
    by_test false outside zero found later = absurd (never-first (window_in windows offset) (rw outside at found))
    by_test false outside (suc n) found later = later n (behind-first (window_in windows offset) n (rw outside at found))

-- ---- the place of a start
slot-found : (first number : ℕ) (windows : List Span) (flags : List Bool) (earlier : List ℕ) (offset : ℕ) → AnsweredIn windows flags earlier → window_in windows offset ≡ Some number
    → slot_from first windows earlier offset ≡ (if slice_index_or flags number false then Bad rule.SlotTwice else Slot (first + number))
slot-found first number [] flags earlier offset answered found = grind (arith, found)
slot-found first number (window ∷ windows) [] earlier offset answered found = absurd answered
slot-found first number (window ∷ windows) (flag ∷ flags) earlier offset answered found =
    by_test (is_in window offset) refl number found (λ n later. slot-found (suc first) n windows flags earlier offset answered.1 later)
  where
    by_test : (inside : Bool) → is_in window offset ≡ inside → (number : ℕ) → window_in (window ∷ windows) offset ≡ Some number
        → ((n : ℕ) → window_in windows offset ≡ Some n → slot_from (suc first) windows earlier offset ≡ (if slice_index_or flags n false then Bad rule.SlotTwice else Slot (suc first + n)))
        → slot_from first (window ∷ windows) earlier offset ≡ (if slice_index_or (flag ∷ flags) number false then Bad rule.SlotTwice else Slot (first + number))
    by_test true inside zero found later = let e : first ≡ first + 0 = omega arith in rw (inside, sym answered.0) (ap (λ n. if flag then Bad rule.SlotTwice else Slot n) e)
    by_test true inside (suc n) found later = absurd (grind (arith, rw inside at found))
    by_test false outside zero found later = absurd (never-first (window_in windows offset) (rw outside at found))
    by_test false outside (suc n) found later =
        let e : suc first + n ≡ first + suc n = omega arith in
        rw outside (later n (behind-first (window_in windows offset) n (rw outside at found)) ∙ ap (λ m. if slice_index_or flags n false then Bad rule.SlotTwice else Slot m) e)

slot-none : (first : ℕ) (windows : List Span) (earlier : List ℕ) (offset : ℕ) → window_in windows offset ≡ None → slot_from first windows earlier offset ≡ Bad rule.NoSlot
slot-none first [] earlier offset none = refl
slot-none first (window ∷ windows) earlier offset none = by_test (is_in window offset) refl (slot-none (suc first) windows earlier offset)
  where
    by_test : (inside : Bool) → is_in window offset ≡ inside → (window_in windows offset ≡ None → slot_from (suc first) windows earlier offset ≡ Bad rule.NoSlot)
        → slot_from first (window ∷ windows) earlier offset ≡ Bad rule.NoSlot
    by_test true inside later = absurd (grind (arith, rw inside at none))
    by_test false outside later = rw outside (later (never-found (window_in windows offset) (rw outside at none)))

-- ---- one start more
one-more : (window : Span) (earlier : List ℕ) (offset : ℕ) → is_answered (earlier ++ offset ∷ []) window ≡ (is_answered earlier window || is_in window offset)
one-more window earlier offset = list_any-append (is_in window) earlier (offset ∷ []) ∙ ap (λ b. is_answered earlier window || b) (or_false (is_in window offset))
  where
    or_false : (b : Bool) → (b || false) ≡ b
    or_false true = refl
    or_false false = refl

and_more : (answered : Bool) → answered ≡ (answered || false)
and_more true = refl
and_more false = refl

and_now : (answered : Bool) → true ≡ (answered || true)
and_now true = refl
and_now false = refl

pub more-none : (windows : List Span) (flags : List Bool) (earlier : List ℕ) (offset : ℕ) → AnsweredIn windows flags earlier → window_in windows offset ≡ None → AnsweredIn windows flags (earlier ++ offset ∷ [])
more-none [] flags earlier offset answered none = tt
more-none (window ∷ windows) [] earlier offset answered none = absurd answered
more-none (window ∷ windows) (flag ∷ flags) earlier offset answered none =
    by_test (is_in window offset) refl (more-none windows flags earlier offset answered.1)
  where
    by_test : (inside : Bool) → is_in window offset ≡ inside → (window_in windows offset ≡ None → AnsweredIn windows flags (earlier ++ offset ∷ []))
        → AnsweredIn (window ∷ windows) (flag ∷ flags) (earlier ++ offset ∷ [])
    by_test true inside later = absurd (grind (arith, rw inside at none))
    by_test false outside later = (
      answered.0 ∙ and_more (is_answered earlier window) ∙ ap (λ b. is_answered earlier window || b) (sym outside) ∙ sym (one-more window earlier offset),
      later (never-found (window_in windows offset) (rw outside at none)),
    )

more-found : (frame : frames.Settings) (windows : List Span) (flags : List Bool) (earlier : List ℕ) (number offset : ℕ) → AllApart frame windows
    → AnsweredIn windows flags earlier → window_in windows offset ≡ Some number → AnsweredIn windows (slice_set flags number true) (earlier ++ offset ∷ [])
more-found frame [] flags earlier number offset apart answered found = tt
more-found frame (window ∷ windows) [] earlier number offset apart answered found = absurd answered
more-found frame (window ∷ windows) (flag ∷ flags) earlier number offset apart answered found =
    by_test (is_in window offset) refl number found (λ n later. more-found frame windows flags earlier n offset (behind-apart frame window windows apart) answered.1 later)
  where
    by_test : (inside : Bool) → is_in window offset ≡ inside → (number : ℕ) → window_in (window ∷ windows) offset ≡ Some number
        → ((n : ℕ) → window_in windows offset ≡ Some n → AnsweredIn windows (slice_set flags n true) (earlier ++ offset ∷ []))
        → AnsweredIn (window ∷ windows) (slice_set (flag ∷ flags) number true) (earlier ++ offset ∷ [])
    by_test true inside zero found later =
        let low : offset ≤ window.high = grind (arith, nat_tests, inside) in (
          and_now (is_answered earlier window) ∙ ap (λ b. is_answered earlier window || b) (sym inside) ∙ sym (one-more window earlier offset),
          more-none windows flags earlier offset answered.1 (outside-behind frame window windows offset apart low),
        )
    by_test true inside (suc n) found later = absurd (grind (arith, rw inside at found))
    by_test false outside zero found later = absurd (never-first (window_in windows offset) (rw outside at found))
    by_test false outside (suc n) found later = (
      answered.0 ∙ and_more (is_answered earlier window) ∙ ap (λ b. is_answered earlier window || b) (sym outside) ∙ sym (one-more window earlier offset),
      later n (behind-first (window_in windows offset) n (rw outside at found)),
    )

-- ---- a setup's windows
-- a start in a window: its place, and what is answered from then on
pub placed-found : (frame : frames.Settings) (windows : List Span) (flags : List Bool) (earlier : List ℕ) (number offset : ℕ) → InRange windows frame → AnsweredIn windows flags earlier
    → window_in windows offset ≡ Some number → placed_behind windows earlier offset ≡ (if slice_index_or flags number false then Bad rule.SlotTwice else Slot number)
placed-found frame windows flags earlier number offset range answered found =
    let low : offset ≤ last_high 0 windows = below-last frame 0 windows number offset (slots-apart frame windows range) found in
    let within : nat_lt (last_high 0 windows) offset ≡ false = grind (arith, nat_tests, low) in
    let e : 0 + number ≡ number = omega arith in
    rw within (slot-found 0 number windows flags earlier offset answered found ∙ ap (λ n. if slice_index_or flags number false then Bad rule.SlotTwice else Slot n) e)

pub answered-found : (frame : frames.Settings) (windows : List Span) (flags : List Bool) (earlier : List ℕ) (number offset : ℕ) → InRange windows frame → AnsweredIn windows flags earlier
    → window_in windows offset ≡ Some number → AnsweredIn windows (slice_set flags number true) (earlier ++ offset ∷ [])
answered-found frame windows flags earlier number offset range answered found =
    more-found frame windows flags earlier number offset (slots-apart frame windows range) answered found

-- a start in no window
pub placed-none : (windows : List Span) (earlier : List ℕ) (offset : ℕ) → nat_lt (last_high 0 windows) offset ≡ false → window_in windows offset ≡ None → placed_behind windows earlier offset ≡ Bad rule.NoSlot
placed-none windows earlier offset within none = rw within (slot-none 0 windows earlier offset none)

-- no start
fresh : (windows : List Span) (more : ℕ) → length windows ≤ more → AnsweredIn windows (replicate more false) []
fresh [] more few = tt
fresh (window ∷ windows) zero few = absurd (omega (arith, few))
fresh (window ∷ windows) (suc more) few = (refl, fresh windows more (omega (arith, few)))

few-slots : (frame : frames.Settings) (windows : List Span) → InRange windows frame → length windows ≤ 8
few-slots frame [] range = omega arith
few-slots frame (window ∷ windows) range = let few : length windows < 8 = grind (arith, nat_tests, range.slots) in omega (arith, few)

pub answered-none : (frame : frames.Settings) (windows : List Span) → InRange windows frame → AnsweredIn windows (false ∷ false ∷ false ∷ false ∷ false ∷ false ∷ false ∷ false ∷ []) []
answered-none frame windows range = fresh windows 8 (few-slots frame windows range)

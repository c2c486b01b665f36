-- What a place stands for.
--     place-stands      each place of a start
use Rattle.std.proofs.Common.{◌≡◌, ℕ, zero, suc, ◌+◌, ◌-◌, ◌<◌, Bool, true, false, nat_lt, Option, None, Some, List, [], ◌∷◌, length, refl, ◌∙◌, ap, arith}
use Rattle.std.proofs.lemmas.Bool.Decides.{nat_tests}
use Rattle.line_base.specs.declared.edge.Span.{Span}
use Rattle.line_base.specs.declared.rule.Rule.TheVariants as rule
use Rattle.line_base.specs.Spans.{is_in}
use Rattle.psi5_slots.specs.declared.placed.Placed.{Placed}
use Rattle.psi5_slots.specs.declared.placed.Placed.TheVariants.{Slot, Bad}
use Rattle.psi5_slots.specs.Setup.{last_high}
use Rattle.psi5_slots.specs.History.{Event, is_answered, last_sync, offsets_from, placed_behind, placed_in, slot_from, starts_since}
use Rattle.psi5_slots.specs.Meanings.{IsInSlot, OffsetStands, PlaceStands, window_at}

-- the same among the windows from one on, which has this number
data FromStands (first : ℕ) (windows : List Span) (earlier : List ℕ) (offset : ℕ) (place : Placed) : Type 0 where
  InSlot : (slot : ℕ) → place ≡ Slot (first + slot) → IsInSlot windows earlier offset slot false → FromStands first windows earlier offset place
  Twice : (slot : ℕ) → place ≡ Bad rule.SlotTwice → IsInSlot windows earlier offset slot true → FromStands first windows earlier offset place
  Outside : place ≡ Bad rule.NoSlot → ((slot : ℕ) → slot < length windows → is_in (window_at windows slot) offset ≡ false) → FromStands first windows earlier offset place

one-later : (window : Span) (windows : List Span) (earlier : List ℕ) (offset slot : ℕ) (answered : Bool) → IsInSlot windows earlier offset slot answered → IsInSlot (window ∷ windows) earlier offset (suc slot) answered
one-later window windows earlier offset slot answered h = record { is_window = omega (arith, h.is_window); inside = h.inside; before = h.before }

later-stands : (first : ℕ) (window : Span) (windows : List Span) (earlier : List ℕ) (offset : ℕ) (place : Placed) → is_in window offset ≡ false → FromStands (suc first) windows earlier offset place → FromStands first (window ∷ windows) earlier offset place
later-stands first window windows earlier offset place outside (InSlot slot is h) =
    let e : suc first + slot ≡ first + suc slot = omega arith in
    InSlot (suc slot) (is ∙ ap (λ n. Slot n) e) (one-later window windows earlier offset slot false h)
later-stands first window windows earlier offset place outside (Twice slot is h) = Twice (suc slot) is (one-later window windows earlier offset slot true h)
later-stands first window windows earlier offset place outside (Outside is none) = Outside is each
  where
    each : (slot : ℕ) → slot < length (window ∷ windows) → is_in (window_at (window ∷ windows) slot) offset ≡ false
    each zero few = outside
    each (suc slot) few = none slot (omega (arith, few))

from-stands : (first : ℕ) (windows : List Span) (earlier : List ℕ) (offset : ℕ) → FromStands first windows earlier offset (slot_from first windows earlier offset)
from-stands first [] earlier offset = Outside refl (λ slot few. absurd (omega (arith, few)))
from-stands first (window ∷ windows) earlier offset = by_tests (is_in window offset) refl (is_answered earlier window) refl (from-stands (suc first) windows earlier offset)
  where
    here : (answered : Bool) → is_in window offset ≡ true → is_answered earlier window ≡ answered → IsInSlot (window ∷ windows) earlier offset 0 answered
    here answered inside before = record { is_window = omega arith; inside = inside; before = before }

    by_tests : (inside : Bool) → is_in window offset ≡ inside → (answered : Bool) → is_answered earlier window ≡ answered → FromStands (suc first) windows earlier offset (slot_from (suc first) windows earlier offset)
        → FromStands first (window ∷ windows) earlier offset (slot_from first (window ∷ windows) earlier offset)
    by_tests true inside true answered later = rw (inside, answered) (Twice 0 refl (here true inside answered))
    by_tests true inside false answered later = rw (inside, answered) (let e : first ≡ first + 0 = omega arith in InSlot 0 (ap (λ n. Slot n) e) (here false inside answered))
    by_tests false inside answered is later = rw inside (later-stands first window windows earlier offset (slot_from (suc first) windows earlier offset) inside later)

within-stands : (windows : List Span) (earlier : List ℕ) (offset : ℕ) (place : Placed) → nat_lt (last_high 0 windows) offset ≡ false → FromStands 0 windows earlier offset place → OffsetStands windows earlier offset place
within-stands windows earlier offset place within (InSlot slot is h) = let e : 0 + slot ≡ slot = omega arith in rw (is, e) h
within-stands windows earlier offset place within (Twice slot is h) = rw is (slot, h)
within-stands windows earlier offset place within (Outside is none) = rw is (record { not_above = grind (arith, nat_tests, within); outside = none })

offset-stands : (windows : List Span) (earlier : List ℕ) (offset : ℕ) → OffsetStands windows earlier offset (placed_behind windows earlier offset)
offset-stands windows earlier offset = by_test (nat_lt (last_high 0 windows) offset) refl
  where
    by_test : (above : Bool) → nat_lt (last_high 0 windows) offset ≡ above → OffsetStands windows earlier offset (placed_behind windows earlier offset)
    by_test true above = let more : last_high 0 windows < offset = grind (arith, nat_tests, above) in rw above more
    by_test false within = rw within (within-stands windows earlier offset (slot_from 0 windows earlier offset) within (from-stands 0 windows earlier offset))

since-stands : (windows : List Span) (last : Option ℕ) (history : List Event) (time : ℕ) → last_sync history ≡ last → PlaceStands windows history time (placed_in windows history time)
unfolding placed_in
since-stands windows None history time none = rw none refl
since-stands windows (Some sync) history time some = rw some (offset-stands windows (offsets_from sync (starts_since history)) (time - sync))

pub place-stands : (windows : List Span) (history : List Event) (time : ℕ) → PlaceStands windows history time (placed_in windows history time)
place-stands windows history time = since-stands windows (last_sync history) history time refl

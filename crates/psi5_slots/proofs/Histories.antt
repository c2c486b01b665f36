-- One sync pulse or one start more.
--     has-last      there is a sync pulse where there is a last one
--     last-sync, starts-sync      behind one sync pulse more
--     last-start, starts-start      behind one start more
--     placed-first, placed-after      where a start is placed
--     answered-start      the slots that are answered behind it
use Rattle.std.proofs.Common.{◌≡◌, ℕ, ◌-◌, Bool, true, false, if◌then◌else◌, None, Some, List, [], ◌∷◌, ◌++◌, is_some, refl, sym}
use Rattle.std.proofs.lemmas.List.{map-append}
use Rattle.line_base.specs.declared.edge.Span.{Span}
use Rattle.psi5_slots.specs.declared.placed.Placed.TheVariants.{Before}
use Rattle.psi5_slots.specs.History.{Event, has_sync, last_sync, offsets_from, placed_behind, placed_in, starts_since}
use Rattle.psi5_slots.specs.History.Event.{Sync, Start}
use Rattle.psi5_slots.specs.Kept.{AnsweredIn, AnsweredSince}

pub has-last : (history : List Event) → is_some (last_sync history) ≡ has_sync history
has-last [] = refl
has-last (Sync time ∷ events) = by_test (has_sync events) (has-last events)
  where
    by_test : (has : Bool) → is_some (last_sync events) ≡ has → is_some (if has then last_sync events else Some time) ≡ true
    by_test true later = later
    by_test false later = refl
has-last (Start time ∷ events) = has-last events

has-sync : (history : List Event) (time : ℕ) → has_sync (history ++ Sync time ∷ []) ≡ true
has-sync [] time = refl
has-sync (Sync before ∷ events) time = refl
has-sync (Start before ∷ events) time = has-sync events time

has-start : (history : List Event) (time : ℕ) → has_sync (history ++ Start time ∷ []) ≡ has_sync history
has-start [] time = refl
has-start (Sync before ∷ events) time = refl
has-start (Start before ∷ events) time = has-start events time

pub last-sync : (history : List Event) (time : ℕ) → last_sync (history ++ Sync time ∷ []) ≡ Some time
last-sync [] time = refl
last-sync (Sync before ∷ events) time = rw (has-sync events time) (last-sync events time)
last-sync (Start before ∷ events) time = last-sync events time

pub last-start : (history : List Event) (time : ℕ) → last_sync (history ++ Start time ∷ []) ≡ last_sync history
last-start [] time = refl
last-start (Sync before ∷ events) time = rw (has-start events time, last-start events time) refl
last-start (Start before ∷ events) time = last-start events time

pub starts-sync : (history : List Event) (time : ℕ) → starts_since (history ++ Sync time ∷ []) ≡ []
starts-sync [] time = refl
starts-sync (Sync before ∷ events) time = starts-sync events time
starts-sync (Start before ∷ events) time = rw (has-sync events time) (starts-sync events time)

pub starts-start : (history : List Event) (time : ℕ) → starts_since (history ++ Start time ∷ []) ≡ starts_since history ++ time ∷ []
starts-start [] time = refl
starts-start (Sync before ∷ events) time = starts-start events time
starts-start (Start before ∷ events) time = rw (has-start events time, starts-start events time) (by_test (has_sync events))
  where
    by_test : (has : Bool) → (if has then starts_since events ++ time ∷ [] else before ∷ starts_since events ++ time ∷ []) ≡ (if has then starts_since events else before ∷ starts_since events) ++ time ∷ []
    by_test true = refl
    by_test false = refl

-- ---- where a start is placed
pub placed-first : (windows : List Span) (history : List Event) (time : ℕ) → None ≡ last_sync history → Before ≡ placed_in windows history time
unfolding placed_in
placed-first windows history time none = rw (sym none) refl

pub placed-after : (windows : List Span) (history : List Event) (sync time : ℕ) → Some sync ≡ last_sync history
    → placed_behind windows (offsets_from sync (starts_since history)) (time - sync) ≡ placed_in windows history time
unfolding placed_in
placed-after windows history sync time some = rw (sym some) refl

-- ---- what is answered
pub answered-start : (windows : List Span) (flags : List Bool) (history : List Event) (sync time : ℕ) → Some sync ≡ last_sync history
    → AnsweredIn windows flags (offsets_from sync (starts_since history) ++ (time - sync) ∷ [])
    → AnsweredSince windows flags (last_sync (history ++ Start time ∷ [])) (starts_since (history ++ Start time ∷ []))
answered-start windows flags history sync time some answered =
    rw (last-start history time, sym some, starts-start history time, map-append (λ t. t - sync) (starts_since history) (time ∷ [])) answered

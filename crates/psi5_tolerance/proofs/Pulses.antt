-- What the slots were told: the sync pulses, and the starts behind each.
--     last-pulse, has-pulse      the last sync pulse
--     starts-last      the starts since
--     pulses-append, starts-pulses, starts-here, starts-beyond      with sync pulses more, and with a start more
use Rattle.std.proofs.Common.{◌≡◌, ℕ, zero, suc, ◌<◌, Bool, true, false, if◌then◌else◌, Option, None, Some, is_some, List, [], ◌∷◌, ◌++◌, length, map, refl, sym, ◌∙◌, ap, arith}
use Rattle.psi5_slots.specs.History.{Event, has_sync, last_sync, starts_since}
use Rattle.psi5_slots.specs.History.Event.{Sync, Start}
use Rattle.psi5_slots.proofs.Histories.{has-last}

-- the times of the sync pulses
abbrev pub pulses_in : List Event → List ℕ
pulses_in [] = []
pulses_in (Sync time ∷ events) = time ∷ pulses_in events
pulses_in (Start time ∷ events) = pulses_in events

-- the times of the starts behind so many sync pulses and no more
abbrev pub starts_at : ℕ → List Event → List ℕ
starts_at count [] = []
starts_at zero (Sync time ∷ events) = []
starts_at (suc count) (Sync time ∷ events) = starts_at count events
starts_at zero (Start time ∷ events) = time ∷ starts_at zero events
starts_at (suc count) (Start time ∷ events) = starts_at (suc count) events

-- ---- the last sync pulse
abbrev last_from : Option ℕ → List ℕ → Option ℕ
last_from last [] = last
last_from last (time ∷ times) = last_from (Some time) times

has_or : (last : Option ℕ) (history : List Event) → (if has_sync history then last_sync history else last) ≡ last_from last (pulses_in history)
has_or last [] = refl
has_or last (Sync time ∷ events) = has_or (Some time) events
has_or last (Start time ∷ events) = has_or last events

if_some : (o : Option ℕ) (b : Bool) → is_some o ≡ b → o ≡ (if b then o else None)
if_some None true e = refl
if_some None false e = refl
if_some (Some n) true e = refl
if_some (Some n) false e = absurd cc

last-from : (history : List Event) → last_sync history ≡ last_from None (pulses_in history)
last-from history = if_some (last_sync history) (has_sync history) (has-last history) ∙ has_or None history

last_pushed : (last : Option ℕ) (front : List ℕ) (time : ℕ) → last_from last (front ++ time ∷ []) ≡ Some time
last_pushed last [] time = refl
last_pushed last (x ∷ front) time = last_pushed (Some x) front time

pub last-pulse : (history : List Event) (front : List ℕ) (time : ℕ) → pulses_in history ≡ front ++ time ∷ [] → last_sync history ≡ Some time
last-pulse history front time is = last-from history ∙ ap (last_from None) is ∙ last_pushed None front time

pub no-pulse : (history : List Event) → pulses_in history ≡ [] → last_sync history ≡ None
no-pulse history is = last-from history ∙ ap (last_from None) is

pub has-pulse : (history : List Event) (front : List ℕ) (time : ℕ) → pulses_in history ≡ front ++ time ∷ [] → has_sync history ≡ true
has-pulse history front time is = sym (has-last history) ∙ ap is_some (last-pulse history front time is)

pub has-none : (history : List Event) → pulses_in history ≡ [] → has_sync history ≡ false
has-none history is = sym (has-last history) ∙ ap is_some (no-pulse history is)

-- ---- the starts since
has_some : (history : List Event) (time : ℕ) (times : List ℕ) → pulses_in history ≡ time ∷ times → has_sync history ≡ true
has_some [] time times e = absurd cc
has_some (Sync first ∷ events) time times e = refl
has_some (Start first ∷ events) time times e = has_some events time times e

pub starts-last : (history : List Event) → starts_since history ≡ starts_at (length (pulses_in history)) history
starts-last [] = refl
starts-last (Sync time ∷ events) = starts-last events
starts-last (Start time ∷ events) = by_pulses (pulses_in events) refl (starts-last events)
  where
    by_pulses : (times : List ℕ) → pulses_in events ≡ times → starts_since events ≡ starts_at (length (pulses_in events)) events
        → (if has_sync events then starts_since events else time ∷ starts_since events) ≡ starts_at (length (pulses_in events)) (Start time ∷ events)
    by_pulses [] is rest = rw (has-none events is) (ap (λ l. time ∷ l) (rest ∙ ap (λ l. starts_at (length l) events) is) ∙ sym (ap (λ l. starts_at (length l) (Start time ∷ events)) is))
    by_pulses (first ∷ times) is rest =
        rw (has_some events first times is) (rest ∙ ap (λ l. starts_at (length l) events) is ∙ sym (ap (λ l. starts_at (length l) (Start time ∷ events)) is))

-- ---- with more
pub pulses-append : (xs ys : List Event) → pulses_in (xs ++ ys) ≡ pulses_in xs ++ pulses_in ys
pulses-append [] ys = refl
pulses-append (Sync time ∷ xs) ys = ap (λ l. time ∷ l) (pulses-append xs ys)
pulses-append (Start time ∷ xs) ys = pulses-append xs ys

pub pulses-all : (times : List ℕ) → pulses_in (map (λ time. Sync time) times) ≡ times
pulses-all [] = refl
pulses-all (time ∷ times) = ap (λ l. time ∷ l) (pulses-all times)

no_starts : (count : ℕ) (times : List ℕ) → starts_at count (map (λ time. Sync time) times) ≡ []
no_starts count [] = refl
no_starts zero (time ∷ times) = refl
no_starts (suc count) (time ∷ times) = no_starts count times

pub starts-pulses : (count : ℕ) (history : List Event) (times : List ℕ) → starts_at count (history ++ map (λ time. Sync time) times) ≡ starts_at count history
starts-pulses count [] times = no_starts count times
starts-pulses zero (Sync time ∷ events) times = refl
starts-pulses (suc count) (Sync time ∷ events) times = starts-pulses count events times
starts-pulses zero (Start time ∷ events) times = ap (λ l. time ∷ l) (starts-pulses zero events times)
starts-pulses (suc count) (Start time ∷ events) times = starts-pulses (suc count) events times

pub starts-here : (history : List Event) (count time : ℕ) → count ≡ length (pulses_in history) → starts_at count (history ++ Start time ∷ []) ≡ starts_at count history ++ time ∷ []
starts-here [] zero time e = refl
starts-here [] (suc count) time e = absurd (omega (arith, e))
starts-here (Sync first ∷ events) zero time e = absurd (omega (arith, e))
starts-here (Sync first ∷ events) (suc count) time e = starts-here events count time (omega (arith, e))
starts-here (Start first ∷ events) zero time e = ap (λ l. first ∷ l) (starts-here events zero time e)
starts-here (Start first ∷ events) (suc count) time e = starts-here events (suc count) time e

pub starts-beyond : (history : List Event) (count time : ℕ) → length (pulses_in history) < count → starts_at count (history ++ Start time ∷ []) ≡ starts_at count history
starts-beyond [] zero time less = absurd (omega (arith, less))
starts-beyond [] (suc count) time less = refl
starts-beyond (Sync first ∷ events) zero time less = absurd (omega (arith, less))
starts-beyond (Sync first ∷ events) (suc count) time less = starts-beyond events count time (omega (arith, less))
starts-beyond (Start first ∷ events) zero time less = absurd (omega (arith, less))
starts-beyond (Start first ∷ events) (suc count) time less = starts-beyond events (suc count) time less

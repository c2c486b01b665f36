-- The windows of slots that are accepted: where they lie, and which of them an offset is in.
--     windows-accepted      they are long, and lie one behind the other
--     window-low, window-long, window-behind      a window, and one behind it
--     placed-there      a start in a window that none before it lies in
use Rattle.std.proofs.Common.{◌≡◌, ℕ, zero, suc, ◌+◌, ◌-◌, ◌*◌, ◌≤◌, ◌<◌, true, false, Option, None, Some, List, [], ◌∷◌, ◌++◌, length, refl, sym, ◌∙◌, ap, subst, arith}
use Rattle.std.specs.Option.{IfSome}
use Rattle.std.proofs.lemmas.Bool.Decides.{nat_tests}
use Rattle.std.proofs.lemmas.Bool.{le-ltb}
use Rattle.line_base.specs.declared.edge.Span.{Span}
use Rattle.link_math.proofs.Thresholds.{both_le, first_above, second_above}
use Rattle.psi5_frame.specs.Setup as frames
use Rattle.psi5_slots.specs.declared.placed.Placed.TheVariants.{Slot}
use Rattle.psi5_slots.specs.Setup.{InRange, are_apart, last_high}
use Rattle.psi5_slots.specs.History.{is_answered, offsets_from, placed_behind, slot_from}
use Rattle.psi5_slots.specs.Meanings.{window_at}

-- each window is at least a bit time long and begins behind the one before it, the first no earlier than this
abbrev pub AreWindows : ℕ → ℕ → List Span → Type 0
AreWindows bit low [] = Unit {0}
AreWindows bit low (window ∷ windows) = (low ≤ window.low) × (window.low + bit ≤ window.high) × AreWindows bit (suc window.high) windows

windows_behind : (frame : frames.Settings) (before : Span) (windows : List Span) → are_apart frame before windows ≡ true → AreWindows frame.bit (suc before.high) windows
windows_behind frame before [] apart = tt
windows_behind frame before (window ∷ windows) apart =
    let low : suc before.high ≤ window.low = grind (arith, nat_tests, apart) in
    let long : window.low + frame.bit ≤ window.high = grind (arith, nat_tests, apart) in
    let later : are_apart frame window windows ≡ true = grind (arith, apart) in
    (low, long, windows_behind frame window windows later)

pub windows-accepted : (frame : frames.Settings) (windows : List Span) → InRange windows frame → AreWindows frame.bit (4 * frame.bit) windows
windows-accepted frame [] range = tt
windows-accepted frame (window ∷ windows) range =
    let low : 4 * frame.bit ≤ window.low = grind (arith, nat_tests, range.slots) in
    let long : window.low + frame.bit ≤ window.high = grind (arith, nat_tests, range.slots) in
    let later : are_apart frame window windows ≡ true = grind (arith, range.slots) in
    (low, long, windows_behind frame window windows later)

-- ---- one window, and one behind it
pub window-low : (bit low : ℕ) (windows : List Span) (number : ℕ) → AreWindows bit low windows → number < length windows → low ≤ (window_at windows number).low
window-low bit low [] number are few = absurd (omega (arith, few))
window-low bit low (window ∷ windows) zero are few = are.0
window-low bit low (window ∷ windows) (suc number) are few =
    let later = window-low bit (suc window.high) windows number are.2 (omega (arith, few)) in
    omega (arith, later, are.0, are.1)

pub window-long : (bit low : ℕ) (windows : List Span) (number : ℕ) → AreWindows bit low windows → number < length windows → (window_at windows number).low + bit ≤ (window_at windows number).high
window-long bit low [] number are few = absurd (omega (arith, few))
window-long bit low (window ∷ windows) zero are few = are.1
window-long bit low (window ∷ windows) (suc number) are few = window-long bit (suc window.high) windows number are.2 (omega (arith, few))

pub window-behind : (bit low : ℕ) (windows : List Span) (before number : ℕ) → AreWindows bit low windows → number < length windows → before < number → (window_at windows before).high < (window_at windows number).low
window-behind bit low [] before number are few less = absurd (omega (arith, few))
window-behind bit low (window ∷ windows) before zero are few less = absurd (omega (arith, less))
window-behind bit low (window ∷ windows) zero (suc number) are few less = window-low bit (suc window.high) windows number are.2 (omega (arith, few))
window-behind bit low (window ∷ windows) (suc before) (suc number) are few less = window-behind bit (suc window.high) windows before number are.2 (omega (arith, few)) (omega (arith, less))

ends-behind : (bit low high : ℕ) (windows : List Span) → AreWindows bit low windows → high ≤ low → high ≤ last_high high windows
ends-behind bit low high [] are le = omega arith
ends-behind bit low high (window ∷ windows) are le =
    let later = ends-behind bit (suc window.high) window.high windows are.2 (omega arith) in
    omega (arith, later, are.0, are.1, le)

window-ends : (bit low high : ℕ) (windows : List Span) (number : ℕ) → AreWindows bit low windows → number < length windows → (window_at windows number).high ≤ last_high high windows
window-ends bit low high [] number are few = absurd (omega (arith, few))
window-ends bit low high (window ∷ windows) zero are few = ends-behind bit (suc window.high) window.high windows are.2 (omega arith)
window-ends bit low high (window ∷ windows) (suc number) are few = window-ends bit (suc window.high) window.high windows number are.2 (omega (arith, few))

-- ---- where a start is placed
slot-there : (bit low first : ℕ) (windows : List Span) (number : ℕ) (earlier : List ℕ) (offset : ℕ) → AreWindows bit low windows → number < length windows
    → (window_at windows number).low ≤ offset → offset ≤ (window_at windows number).high → is_answered earlier (window_at windows number) ≡ false → slot_from first windows earlier offset ≡ Slot (first + number)
slot-there bit low first [] number earlier offset are few above below free = absurd (omega (arith, few))
slot-there bit low first (window ∷ windows) zero earlier offset are few above below free =
    let e : first ≡ first + 0 = omega arith in
    rw (both_le window.low offset offset window.high above below, free) (ap (λ n. Slot n) e)
slot-there bit low first (window ∷ windows) (suc number) earlier offset are few above below free =
    let past = window-low bit (suc window.high) windows number are.2 (omega (arith, few)) in
    let e : suc first + number ≡ first + suc number = omega arith in
    rw (second_above window.low offset offset window.high (omega (arith, past, above)))
    (slot-there bit (suc window.high) (suc first) windows number earlier offset are.2 (omega (arith, few)) above below free ∙ ap (λ n. Slot n) e)

pub placed-there : (bit low : ℕ) (windows : List Span) (number : ℕ) (earlier : List ℕ) (offset : ℕ) → AreWindows bit low windows → number < length windows
    → (window_at windows number).low ≤ offset → offset ≤ (window_at windows number).high → is_answered earlier (window_at windows number) ≡ false → placed_behind windows earlier offset ≡ Slot number
placed-there bit low windows number earlier offset are few above below free =
    let e : 0 + number ≡ number = omega arith in
    let ends = window-ends bit low 0 windows number are few in
    rw (le-ltb (last_high 0 windows) offset (omega (arith, ends, below))) (slot-there bit low 0 windows number earlier offset are few above below free ∙ ap (λ n. Slot n) e)

-- ---- starts that are below a window
-- these starts are at most so far behind the sync pulse
abbrev pub AreBelow : ℕ → ℕ → List ℕ → Type 0
AreBelow high sync [] = Unit {0}
AreBelow high sync (start ∷ starts) = (start - sync ≤ high) × AreBelow high sync starts

-- none behind the sync pulse yet, or none above the window of the last slot
abbrev pub StartsTo : List Span → Option ℕ → ℕ → List ℕ → Type 0
StartsTo windows None sync starts = starts ≡ []
StartsTo windows (Some last) sync starts = AreBelow (window_at windows last).high sync starts

pub below-higher : (high higher sync : ℕ) (starts : List ℕ) → high ≤ higher → AreBelow high sync starts → AreBelow higher sync starts
below-higher high higher sync [] le below = tt
below-higher high higher sync (start ∷ starts) le below = (omega (arith, below.0, le), below-higher high higher sync starts le below.1)

pub below-push : (high sync : ℕ) (starts : List ℕ) (start : ℕ) → AreBelow high sync starts → start - sync ≤ high → AreBelow high sync (starts ++ start ∷ [])
below-push high sync [] start below le = (le, tt)
below-push high sync (x ∷ starts) start below le = (below.0, below-push high sync starts start below.1 le)

free-below : (high sync : ℕ) (starts : List ℕ) (window : Span) → AreBelow high sync starts → high < window.low → is_answered (offsets_from sync starts) window ≡ false
free-below high sync [] window below less = refl
free-below high sync (start ∷ starts) window below less =
    rw (first_above window.low (start - sync) (start - sync) window.high (omega (arith, below.0, less))) (free-below high sync starts window below.1 less)

-- a later slot is free
pub slot-free : (bit low : ℕ) (windows : List Span) (last : Option ℕ) (number sync : ℕ) (starts : List ℕ) → AreWindows bit low windows → number < length windows → IfSome last (λ n. n < number)
    → StartsTo windows last sync starts → is_answered (offsets_from sync starts) (window_at windows number) ≡ false
slot-free bit low windows None number sync starts are few less none = rw none refl
slot-free bit low windows (Some last) number sync starts are few less below =
    free-below (window_at windows last).high sync starts (window_at windows number) below (window-behind bit low windows last number are few less)

-- and is the last one then
pub slot-taken : (bit low : ℕ) (windows : List Span) (last : Option ℕ) (number sync : ℕ) (starts : List ℕ) (start : ℕ) → AreWindows bit low windows → number < length windows → IfSome last (λ n. n < number)
    → StartsTo windows last sync starts → start - sync ≤ (window_at windows number).high → AreBelow (window_at windows number).high sync (starts ++ start ∷ [])
slot-taken bit low windows None number sync starts start are few less none le =
    subst (λ (l : List ℕ). AreBelow (window_at windows number).high sync (l ++ start ∷ [])) (sym none) (le, tt)
slot-taken bit low windows (Some last) number sync starts start are few less below le =
    let long = window-long bit low windows number are few in
    let behind = window-behind bit low windows last number are few less in
    below-push (window_at windows number).high sync starts start
    (below-higher (window_at windows last).high (window_at windows number).high sync starts (omega (arith, long, behind)) below) le

-- the same of a slot whose start was not seen
pub slot-passed : (bit low : ℕ) (windows : List Span) (last : Option ℕ) (number sync : ℕ) (starts : List ℕ) → AreWindows bit low windows → number < length windows → IfSome last (λ n. n < number)
    → StartsTo windows last sync starts → AreBelow (window_at windows number).high sync starts
slot-passed bit low windows None number sync starts are few less none = subst (λ (l : List ℕ). AreBelow (window_at windows number).high sync l) (sym none) tt
slot-passed bit low windows (Some last) number sync starts are few less below =
    let long = window-long bit low windows number are few in
    let behind = window-behind bit low windows last number are few less in
    below-higher (window_at windows last).high (window_at windows number).high sync starts (omega (arith, long, behind)) below

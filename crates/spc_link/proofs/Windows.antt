-- A width in one window is in no other.
--     window-asks      so it asks for that window's number
use Rattle.std.proofs.Common.{◌≡◌, ℕ, zero, suc, ◌+◌, ◌*◌, ◌<◌, ◌≤◌, List, [], ◌∷◌, Bool, true, false, not, ◌&&◌, cond, nat_le, nat_lt, None, Some, length, get_or, refl, ap, ◌∙◌, arith}
use Rattle.std.proofs.Math.Nat.{mul-le-mul_left}
use Rattle.std.proofs.lemmas.Bool.{lt-ltb}
use Rattle.std.proofs.lemmas.Bool.Decides.{nat_tests}
use Rattle.std.proofs.lemmas.List.Sums.{position_or_len_is}
use Rattle.std.specs.List.{position_or_len}
use Rattle.line_base.specs.Spans.{no_span}
use Rattle.line_base.specs.declared.edge.Span.{Span}
use Rattle.line_base.specs.declared.faults.SetupFault.TheVariants as fault
use Rattle.spc_link.specs.Setup.{Settings, are_apart, are_windows, fault_of, is_behind, is_wide}
use Rattle.spc_link.specs.Reading.{code_of, lasts}
use Rattle.spc_link.specs.Transactions.{IsInWindow}

both_parts : (a b : Bool) → (a && b) ≡ true → (a ≡ true) × (b ≡ true)
both_parts true true e = (refl, refl)
both_parts true false e = absurd (cc)
both_parts false b e = absurd (cc)

-- a first window, and those behind it
record FirstBehind (before : ℕ) (window : Span) (windows : List Span) : Type 0 where
  above : before < window.low
  wide : window.low + 10 ≤ window.high
  rest : are_apart window.high windows ≡ true

first_behind : (before : ℕ) (window : Span) (windows : List Span) → are_apart before (window ∷ windows) ≡ true → FirstBehind before window windows
unfolding are_apart
first_behind before window windows apart =
    let outer = both_parts (is_behind before window) (are_apart window.high windows) apart in
    let inner = both_parts (nat_lt before window.low) (is_wide window) outer.0 in
    let wide = both_parts (nat_le 10 window.low) (nat_le (window.low + 10) window.high) inner.1 in
    record { above = grind (arith, nat_tests, inner.0); wide = grind (arith, nat_tests, wide.1); rest = outer.1 }

low_behind : (before : ℕ) (windows : List Span) (k : ℕ) → are_apart before windows ≡ true → k < length windows → before < (get_or windows k no_span).low
low_behind before [] k apart there = absurd (omega (arith, there))
low_behind before (window ∷ windows) zero apart there = (first_behind before window windows apart).above
low_behind before (window ∷ windows) (suc k) apart there =
    let first = first_behind before window windows apart in
    let later = low_behind window.high windows k first.rest (omega (arith, there)) in
    omega (arith, first.above, first.wide, later)

ends_before : (before : ℕ) (windows : List Span) (i k : ℕ) → are_apart before windows ≡ true → i < k → k < length windows → (get_or windows i no_span).high < (get_or windows k no_span).low
ends_before before [] i k apart below there = absurd (omega (arith, there))
ends_before before (window ∷ windows) i zero apart below there = absurd (omega (arith, below))
ends_before before (window ∷ windows) zero (suc k) apart below there = low_behind window.high windows k (first_behind before window windows apart).rest (omega (arith, there))
ends_before before (window ∷ windows) (suc i) (suc k) apart below there =
    ends_before window.high windows i k (first_behind before window windows apart).rest (omega (arith, below)) (omega (arith, there))

above_it : (tick low high tenths : ℕ) → 1 ≤ tick → high < low → low * tick ≤ tenths → high * tick < tenths
above_it tick low high tenths some below reached =
    let more : tick * suc high ≤ tick * low = mul-le-mul_left tick (omega (arith, below)) in
    grind (arith, some, more, reached)

outside_before : (tick width : ℕ) (early late : Span) → 1 ≤ tick → early.high < late.low → lasts tick late width ≡ true → lasts tick early width ≡ false
outside_before tick width early late some below inside =
    let reached = both_parts (nat_le (late.low * tick) (10 * width)) (nat_le (10 * width) (late.high * tick)) inside in
    let beyond = above_it tick late.low early.high (10 * width) some below (grind (arith, nat_tests, reached.0)) in
    grind (arith, nat_tests, beyond)

windows_of : (pause windows delay quiet : Bool)
    → cond pause (Some fault.Pause) (cond (not windows) (Some fault.Windows) (cond (not delay) (Some fault.Delay) (cond quiet (Some fault.Quiet) None))) ≡ None → windows ≡ true
windows_of true windows delay quiet e = absurd (cc)
windows_of false true delay quiet e = refl
windows_of false false delay quiet e = absurd (cc)

apart_of : (s : Settings) → fault_of s.sent s.windows s.delay s.quiet ≡ None → are_apart 0 s.windows ≡ true
apart_of s accepted =
    let fits = windows_of s.sent.pause (are_windows s.windows) (is_wide s.delay) _ accepted in
    let counted = both_parts (nat_le 1 (length s.windows)) (nat_le (length s.windows) 8 && are_apart 0 s.windows) fits in
    (both_parts (nat_le (length s.windows) 8) (are_apart 0 s.windows) counted.1).1

pub window-asks : (s : Settings) (code width : ℕ) → fault_of s.sent s.windows s.delay s.quiet ≡ None → 1 ≤ s.sent.tick → IsInWindow s code width → code_of s width ≡ Some code
window-asks s code width accepted some window =
    let p : Span → Bool = λ (w : Span). lasts s.sent.tick w width in
    let first : position_or_len p s.windows ≡ code =
    position_or_len_is p s.windows code no_span (omega (arith, window.there))
    (λ k below. outside_before s.sent.tick width (get_or s.windows k no_span) (get_or s.windows code no_span) some (ends_before 0 s.windows k code (apart_of s accepted) below window.there) window.inside)
    (λ there. window.inside) in
    ap (λ n. cond (nat_lt n (length s.windows)) (Some n) None) first ∙ ap (λ b. cond b (Some code) None) (lt-ltb code (length s.windows) window.there)

-- What it means for a channel that its setup has no fault.
--     channel-accepted      its lines are two, and its slots are accepted for its frames
--     high-last             no window ends behind the last one
--     window-apart          from one window to a later one
use Rattle.std.proofs.Common.{◌≡◌, ℕ, zero, suc, ◌+◌, ◌-◌, ◌*◌, ◌<◌, ◌≤◌, Bool, true, false, not, Option, None, Some, List, [], ◌∷◌, length, refl, ap, subst, ◌∙◌, if◌then◌else◌, eqb-true, arith}
use Rattle.std.specs.Prelude.{◌&&◌, ◌||◌, nat_eq, nat_lt}
use Rattle.std.proofs.lemmas.Bool.Decides.{nat_tests}
use Rattle.line_base.specs.declared.edge.Span.{Span}
use Rattle.line_base.specs.declared.faults.SetupFault.TheVariants as fault
use Rattle.psi5_frame.specs.Setup.{Settings, bit_count}
use Rattle.psi5_frame.specs.declared.setup.Parts.{Parts}
use Rattle.psi5_frame.specs.declared.setup.Check.{Check}
use Rattle.psi5_frame.specs.declared.setup.Check.TheVariants as check
use Rattle.psi5_slots.specs.Setup.{InRange, are_apart, are_slots, last_high}
use Rattle.psi5_slots.specs.Meanings.{window_at}
use Rattle.psi5_tolerance.specs.Traces.{AreSlots}
use Rattle.psi5_tolerance.proofs.Windows.{AreWindows}
use Rattle.receiver_core.specs.declared.setup.ChannelSetup.TheVariants.{Psi5}
use Rattle.receiver_core.specs.declared.setup.SyncSlots.{SyncSlots}
use Rattle.receiver_core.specs.Psi5Traces.{windows_of}
use Rattle.receiver_core.specs.Setups.{are_other_slots, are_wrong_lines, are_wrong_repeats, same_check, same_parts, same_setup, setup_fault_of}
use Rattle.sim_base.proofs.FittingNibbles.{both}
use Rattle.psi5_sim.specs.Psi5States.{AreAccepted}

-- ---- the same setup
checks-same : (one other : Check) → same_check one other ≡ true → one ≡ other
checks-same check.Parity check.Parity same = refl
checks-same check.Parity check.Crc same = absurd cc
checks-same check.Crc check.Parity same = absurd cc
checks-same check.Crc check.Crc same = refl

parts-same : (p q : Parts) → same_parts p q ≡ true → p ≡ q
parts-same p q same =
    let fifth = both (nat_eq p.m q.m && nat_eq p.f q.f && nat_eq p.s q.s && nat_eq p.b q.b) (nat_eq p.a q.a) same in
    let fourth = both (nat_eq p.m q.m && nat_eq p.f q.f && nat_eq p.s q.s) (nat_eq p.b q.b) fifth.0 in
    let third = both (nat_eq p.m q.m && nat_eq p.f q.f) (nat_eq p.s q.s) fourth.0 in
    let second = both (nat_eq p.m q.m) (nat_eq p.f q.f) third.0 in
    ap (λ m. record { m = m; f = p.f; s = p.s; b = p.b; a = p.a }) (eqb-true p.m q.m second.0)
    ∙ ap (λ f. record { m = q.m; f = f; s = p.s; b = p.b; a = p.a }) (eqb-true p.f q.f second.1)
    ∙ ap (λ s. record { m = q.m; f = q.f; s = s; b = p.b; a = p.a }) (eqb-true p.s q.s third.1)
    ∙ ap (λ b. record { m = q.m; f = q.f; s = q.s; b = b; a = p.a }) (eqb-true p.b q.b fourth.1)
    ∙ ap (λ a. record { m = q.m; f = q.f; s = q.s; b = q.b; a = a }) (eqb-true p.a q.a fifth.1)

setups-same : (s t : Settings) → same_setup s t ≡ true → s ≡ t
setups-same s t same =
    let third = both (nat_eq s.bit t.bit && same_parts s.parts t.parts && same_check s.check t.check) (nat_eq s.jitter t.jitter) same in
    let second = both (nat_eq s.bit t.bit && same_parts s.parts t.parts) (same_check s.check t.check) third.0 in
    let first = both (nat_eq s.bit t.bit) (same_parts s.parts t.parts) second.0 in
    ap (λ b. record { bit = b; parts = s.parts; check = s.check; jitter = s.jitter }) (eqb-true s.bit t.bit first.0)
    ∙ ap (λ p. record { bit = t.bit; parts = p; check = s.check; jitter = s.jitter }) (parts-same s.parts t.parts first.1)
    ∙ ap (λ c. record { bit = t.bit; parts = t.parts; check = c; jitter = s.jitter }) (checks-same s.check t.check second.1)
    ∙ ap (λ j. record { bit = t.bit; parts = t.parts; check = t.check; jitter = j }) (eqb-true s.jitter t.jitter third.1)

-- ---- a channel
by_tests : (a b c : Bool) → (if a then Some fault.Lines else (if b then Some fault.Slots else (if c then Some fault.Repeats else None))) ≡ None → (a ≡ false) × (b ≡ false)
by_tests true b c e = absurd cc
by_tests false true c e = absurd cc
by_tests false false true e = absurd cc
by_tests false false false e = (refl, refl)

is-so : (b : Bool) → not b ≡ false → b ≡ true
is-so true e = refl
is-so false e = absurd cc

last-false : (a b c : Bool) → (a || b || c) ≡ false → c ≡ false
last-false true true c e = absurd cc
last-false true false c e = absurd cc
last-false false true c e = absurd cc
last-false false false c e = e

-- the sync line, if there is one, is another line
abbrev pub AreTwoLines : ℕ → Option SyncSlots → Type 0
AreTwoLines line None = Unit {0}
AreTwoLines line (Some sync) = nat_eq sync.line line ≡ false

slots-none : (b : Bool) → (if b then None else Some fault.Slots) ≡ None → b ≡ true
slots-none true e = refl
slots-none false e = absurd cc

pub channel-accepted : (line : ℕ) (s : Settings) (sync : Option SyncSlots) (init : Option ℕ) → AreAccepted sync → setup_fault_of (Psi5 line s sync init) ≡ None → AreSlots s (windows_of sync) × AreTwoLines line sync
channel-accepted line s None init accepted no_fault = (tt, tt)
channel-accepted line s (Some sync) init accepted no_fault =
    let tests = by_tests (are_wrong_lines line (Some sync)) (are_other_slots s (Some sync)) (are_wrong_repeats s init) no_fault in
    let same : sync.setup.frame ≡ s = setups-same sync.setup.frame s (is-so (same_setup sync.setup.frame s) tests.1) in
    let are : are_slots sync.setup.windows sync.setup.frame ≡ true = slots-none (are_slots sync.setup.windows sync.setup.frame) accepted in (
      record { slots = subst (λ (f : Settings). are_slots sync.setup.windows f ≡ true) same are },
      last-false (nat_lt 15 line) (nat_lt 15 sync.line) (nat_eq sync.line line) tests.0,
    )

-- ---- windows
high-behind : (bit low high : ℕ) (windows : List Span) (number : ℕ) → AreWindows bit low windows → number < length windows → (window_at windows number).high ≤ last_high high windows
high-behind bit low high [] number are few = absurd (omega (arith, few))
high-behind bit low high (window ∷ windows) (suc number) are few = high-behind bit (suc window.high) window.high windows number are.2 (omega (arith, few))
high-behind bit low high (window ∷ []) zero are few = omega arith
high-behind bit low high (window ∷ next ∷ windows) zero are few =
    let later = high-behind bit (suc window.high) window.high (next ∷ windows) 0 are.2 (omega arith) in
    omega (arith, later, are.2.0, are.2.1)

pub high-last : (bit low : ℕ) (windows : List Span) (number : ℕ) → AreWindows bit low windows → number < length windows → (window_at windows number).high ≤ last_high 0 windows
high-last bit low windows number are few = high-behind bit low 0 windows number are few

-- each window is so far behind the one before it, the first behind this
abbrev AreFar : ℕ → ℕ → List Span → Type 0
AreFar gap before [] = Unit {0}
AreFar gap before (window ∷ windows) = (before + gap ≤ 20 * window.low) × (window.low ≤ window.high) × AreFar gap (20 * window.high) windows

far-apart : (s : Settings) (before : Span) (windows : List Span) → are_apart s before windows ≡ true → AreFar (21 * (bit_count s + 1) * s.bit) (20 * before.high) windows
far-apart s before [] apart = tt
far-apart s before (window ∷ windows) apart =
    let less : before.high < window.low = grind (arith, nat_tests, apart) in
    let far : 21 * (bit_count s + 1) * s.bit ≤ 20 * (window.low - before.high) = grind (arith, nat_tests, apart) in
    let long : window.low + s.bit ≤ window.high = grind (arith, nat_tests, apart) in
    let later : are_apart s window windows ≡ true = grind (arith, apart) in
    (omega (arith, less, far), omega (arith, long), far-apart s window windows later)

far-later : (gap before : ℕ) (windows : List Span) (number : ℕ) → AreFar gap before windows → number < length windows → before + gap ≤ 20 * (window_at windows number).low
far-later gap before [] number far few = absurd (omega (arith, few))
far-later gap before (window ∷ windows) zero far few = far.0
far-later gap before (window ∷ windows) (suc number) far few =
    let later = far-later gap (20 * window.high) windows number far.2 (omega (arith, few)) in
    omega (arith, later, far.0, far.1)

far-between : (gap before : ℕ) (windows : List Span) (number later : ℕ) → AreFar gap before windows → later < length windows → number < later → 20 * (window_at windows number).high + gap ≤ 20 * (window_at windows later).low
far-between gap before [] number later far few less = absurd (omega (arith, few))
far-between gap before (window ∷ windows) number zero far few less = absurd (omega (arith, less))
far-between gap before (window ∷ windows) zero (suc later) far few less = far-later gap (20 * window.high) windows later far.2 (omega (arith, few))
far-between gap before (window ∷ windows) (suc number) (suc later) far few less = far-between gap (20 * window.high) windows number later far.2 (omega (arith, few)) (omega (arith, less))

pub window-apart : (s : Settings) (windows : List Span) (number later : ℕ) → InRange windows s → later < length windows → number < later
    → 20 * (window_at windows number).high + 21 * (bit_count s + 1) * s.bit ≤ 20 * (window_at windows later).low
window-apart s [] number later range few less = absurd (omega (arith, few))
window-apart s (window ∷ windows) number later range few less =
    let apart : are_apart s window windows ≡ true = grind (arith, range.slots) in
    let long : window.low + s.bit ≤ window.high = grind (arith, nat_tests, range.slots) in
    first number later few less (far-apart s window windows apart)
  where
    first : (number later : ℕ) → later < length (window ∷ windows) → number < later → AreFar (21 * (bit_count s + 1) * s.bit) (20 * window.high) windows
        → 20 * (window_at (window ∷ windows) number).high + 21 * (bit_count s + 1) * s.bit ≤ 20 * (window_at (window ∷ windows) later).low
    first number zero few less far = absurd (omega (arith, less))
    first zero (suc later) few less far = far-later (21 * (bit_count s + 1) * s.bit) (20 * window.high) windows later far (omega (arith, few))
    first (suc number) (suc later) few less far = far-between (21 * (bit_count s + 1) * s.bit) (20 * window.high) windows number later far (omega (arith, few)) (omega (arith, less))

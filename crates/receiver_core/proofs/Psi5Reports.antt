-- What is told of the bursts of a PSI5 channel, one list after another.
--     told-parts      more bursts at more places
--     reports-append, past-append      the reports of what is told
use Rattle.std.proofs.Common.{◌≡◌, ℕ, ◌≤◌, Option, List, [], ◌∷◌, ◌++◌, length, drop, refl, ap, sym, ◌∙◌, append_assoc, append-nil, arith}
use Rattle.psi5_frame.specs.Setup.{Settings}
use Rattle.psi5_frame.specs.declared.burst.Burst.{Burst}
use Rattle.receiver_core.specs.declared.psi5_burst.BurstPlace.{BurstPlace}
use Rattle.receiver_core.specs.declared.psi5_burst.Told.{Told}
use Rattle.receiver_core.specs.Psi5Reports.{told_of, told_at, told_with, told_past, told_reports, burst_reports}

-- more bursts are told at the places behind those of the bursts before them
pub told-parts : (places later : List BurstPlace) (bursts more : List Burst) → length bursts ≤ length places
    → told_at (places ++ later) (bursts ++ more) ≡ told_at places bursts ++ told_at (drop (length bursts) places ++ later) more
unfolding told_at
told-parts [] later [] more few = refl
told-parts [] later (b ∷ bursts) more few = absurd (omega (arith, few))
told-parts (p ∷ places) later [] more few = refl
told-parts (p ∷ places) later (b ∷ bursts) more few =
    ap (λ l. told_of p b ++ l) (told-parts places later bursts more (omega (arith, few)))
    ∙ sym (append_assoc (told_of p b) (told_at places bursts) (told_at (drop (length bursts) places ++ later) more))

-- no burst is told at any places
pub told-none : (places : List BurstPlace) → told_at places [] ≡ []
unfolding told_at
told-none [] = refl
told-none (p ∷ places) = refl

-- one burst is told at the first place
pub told-one : (place : BurstPlace) (later : List BurstPlace) (burst : Burst) → told_at (place ∷ later) (burst ∷ []) ≡ told_of place burst
unfolding told_at
told-one place [] burst = append-nil (told_of place burst)
told-one place (p ∷ later) burst = append-nil (told_of place burst)

-- the reports of what is told next come behind the good bursts since the last break
pub reports-append : (s : Settings) (init : Option ℕ) (since xs ys : List Told) → burst_reports s init since (xs ++ ys) ≡ burst_reports s init since xs ++ burst_reports s init (told_past since xs) ys
unfolding burst_reports told_past
reports-append s init since [] ys = refl
reports-append s init since (x ∷ xs) ys =
    let here = told_reports s init since x in
    let next = told_with since x in
    ap (λ l. here ++ l) (reports-append s init next xs ys) ∙ sym (append_assoc here (burst_reports s init next xs) (burst_reports s init (told_past next xs) ys))

-- and so do the good bursts since then
pub past-append : (since xs ys : List Told) → told_past since (xs ++ ys) ≡ told_past (told_past since xs) ys
unfolding told_past
past-append since [] ys = refl
past-append since (x ∷ xs) ys = past-append (told_with since x) xs ys

-- what is told at once
pub reports-one : (s : Settings) (init : Option ℕ) (since : List Told) (next : Told) → burst_reports s init since (next ∷ []) ≡ told_reports s init since next
unfolding burst_reports
reports-one s init since next = append-nil (told_reports s init since next)

pub reports-nil : (s : Settings) (init : Option ℕ) (since : List Told) → burst_reports s init since [] ≡ []
unfolding burst_reports
reports-nil s init since = refl

pub past-one : (since : List Told) (next : Told) → told_past since (next ∷ []) ≡ told_with since next
unfolding told_past
past-one since next = refl

pub past-nil : (since : List Told) → told_past since [] ≡ since
unfolding told_past
past-nil since = refl

-- How many start bits are set, or clear, before the first that isn't.
--     set_here, set_none, clear_here, clear_none      by the first status
--     all_set-first, all_set-later, all_clear-first, all_clear-later      where all are
--     set_before-le, clear_before-le      no more than there are statuses
--     set-append, clear-append      where all of a front are
--     set-stays, clear-stays      where not all of a front are
--     set-number      the number of set start bits
use Rattle.std.proofs.Common.{◌≡◌, ℕ, suc, ◌+◌, ◌<◌, ◌≤◌, List, [], ◌∷◌, ◌++◌, true, false, length, refl, inl, inr, arith}
use Rattle.std.proofs.lemmas.Bool.{cases_Bool}
use Rattle.sent_serial.specs.Statuses.{start_bit, clear_before, set_before}

pub set_here : (status : ℕ) (later : List ℕ) → start_bit status ≡ true → set_before (status ∷ later) ≡ suc (set_before later)
unfolding set_before
set_here status later e = rw e refl

pub set_none : (status : ℕ) (later : List ℕ) → start_bit status ≡ false → set_before (status ∷ later) ≡ 0
unfolding set_before
set_none status later e = rw e refl

pub clear_here : (status : ℕ) (later : List ℕ) → start_bit status ≡ false → clear_before (status ∷ later) ≡ suc (clear_before later)
unfolding clear_before
clear_here status later e = rw e refl

pub clear_none : (status : ℕ) (later : List ℕ) → start_bit status ≡ true → clear_before (status ∷ later) ≡ 0
unfolding clear_before
clear_none status later e = rw e refl

pub no_set : set_before [] ≡ 0
unfolding set_before
no_set = refl

pub no_clear : clear_before [] ≡ 0
unfolding clear_before
no_clear = refl

pub set_before-le : (statuses : List ℕ) → set_before statuses ≤ length statuses
set_before-le [] = omega (arith, no_set)
set_before-le (status ∷ later) =
    elim (cases_Bool (start_bit status)) [
      | inl set ↦ omega (arith, set_here status later set, set_before-le later)
      | inr clear ↦ omega (arith, set_none status later clear)
    ]

pub clear_before-le : (statuses : List ℕ) → clear_before statuses ≤ length statuses
clear_before-le [] = omega (arith, no_clear)
clear_before-le (status ∷ later) =
    elim (cases_Bool (start_bit status)) [
      | inl set ↦ omega (arith, clear_none status later set)
      | inr clear ↦ omega (arith, clear_here status later clear, clear_before-le later)
    ]

pub all_set-first : (status : ℕ) (later : List ℕ) → set_before (status ∷ later) ≡ length (status ∷ later) → start_bit status ≡ true
all_set-first status later all =
    elim (cases_Bool (start_bit status)) [ inl set ↦ set | inr clear ↦ absurd (omega (arith, set_none status later clear)) ]

pub all_set-later : (status : ℕ) (later : List ℕ) → set_before (status ∷ later) ≡ length (status ∷ later) → set_before later ≡ length later
all_set-later status later all = omega (arith, set_here status later (all_set-first status later all))

pub all_clear-first : (status : ℕ) (later : List ℕ) → clear_before (status ∷ later) ≡ length (status ∷ later) → start_bit status ≡ false
all_clear-first status later all =
    elim (cases_Bool (start_bit status)) [ inl set ↦ absurd (omega (arith, clear_none status later set)) | inr clear ↦ clear ]

pub all_clear-later : (status : ℕ) (later : List ℕ) → clear_before (status ∷ later) ≡ length (status ∷ later) → clear_before later ≡ length later
all_clear-later status later all = omega (arith, clear_here status later (all_clear-first status later all))

pub set-append : (front back : List ℕ) → set_before front ≡ length front → set_before (front ++ back) ≡ length front + set_before back
set-append [] back all = omega arith
set-append (status ∷ front) back all =
    omega (arith, set_here status (front ++ back) (all_set-first status front all), set-append front back (all_set-later status front all))

pub clear-append : (front back : List ℕ) → clear_before front ≡ length front → clear_before (front ++ back) ≡ length front + clear_before back
clear-append [] back all = omega arith
clear-append (status ∷ front) back all =
    omega (arith, clear_here status (front ++ back) (all_clear-first status front all), clear-append front back (all_clear-later status front all))

pub set-stays : (front back : List ℕ) → set_before front < length front → set_before (front ++ back) ≡ set_before front
set-stays [] back fewer = absurd (omega arith)
set-stays (status ∷ front) back fewer =
    elim (cases_Bool (start_bit status)) [
      | inl set ↦
          let later : set_before (front ++ back) ≡ set_before front = set-stays front back (omega (arith, set_here status front set)) in
          omega (arith, set_here status front set, set_here status (front ++ back) set)
      | inr clear ↦ omega (arith, set_none status front clear, set_none status (front ++ back) clear)
    ]

pub clear-stays : (front back : List ℕ) → clear_before front < length front → clear_before (front ++ back) ≡ clear_before front
clear-stays [] back fewer = absurd (omega arith)
clear-stays (status ∷ front) back fewer =
    elim (cases_Bool (start_bit status)) [
      | inl set ↦ omega (arith, clear_none status front set, clear_none status (front ++ back) set)
      | inr clear ↦
          let later : clear_before (front ++ back) ≡ clear_before front = clear-stays front back (omega (arith, clear_here status front clear)) in
          omega (arith, clear_here status front clear, clear_here status (front ++ back) clear)
    ]

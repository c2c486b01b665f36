-- Codes that are drawn say signals.
--     signal-is        which one
use Rattle.std.proofs.Common.{◌≡◌, ℕ, ◌+◌, ◌-◌, ◌%◌, ◌<◌, ◌≤◌, true, false, nat_eq, pos, ◌-ℤ◌, ap, inl, inr, arith}
use Rattle.std.proofs.lemmas.Bool.{cases_lt}
use Rattle.std.proofs.lemmas.Bool.Decides.{nat_tests}
use Rattle.std.proofs.lemmas.Int.{ints}
use Rattle.std.proofs.lemmas.Nat.{mod_below}
use Rattle.psi5_init.specs.Codes.{class_in, is_among}
use Rattle.psi5_init.specs.declared.code.Code.TheVariants.{Signal}
use Rattle.sensor_script.specs.Draws.{signal_code}

not_among : (first last code : ℕ) → last < code → is_among first last code ≡ false
not_among first last code above = grind (arith, nat_tests)

among : (first last code : ℕ) → first ≤ code → code ≤ last → is_among first last code ≡ true
among first last code low high = grind (arith, nat_tests)

other : (a b : ℕ) → a < b → nat_eq b a ≡ false
other a b below = grind (arith, nat_tests)

-- of at least 0
high : (pick : ℕ) → 480 ≤ pick → pick < 961 → class_in ((pick + 544) % 1024) ≡ Signal (pos pick -ℤ pos 480)
unfolding class_in
high pick not_low below =
    let code = (pick + 544) % 1024 in
    let is : code ≡ pick - 480 = omega arith in
    let signal : pos code ≡ pos pick -ℤ pos 480 = omega (arith, ints, is) in
    rw (among 0x000 0x1E0 code (omega arith) (omega (arith, is))) (ap Signal signal)

-- below 0
low : (pick : ℕ) → pick < 480 → class_in ((pick + 544) % 1024) ≡ Signal (pos pick -ℤ pos 480)
unfolding class_in
low pick below =
    let code = (pick + 544) % 1024 in
    let is : code ≡ pick + 544 = omega arith in
    let signal : pos code -ℤ pos 0x400 ≡ pos pick -ℤ pos 480 = omega (arith, ints, is) in
    rw (
      not_among 0x000 0x1E0 code (omega (arith, is)),
      other 0x1E7 code (omega (arith, is)),
      other 0x1E8 code (omega (arith, is)),
      other 0x1F4 code (omega (arith, is)),
      not_among 0x200 0x20F code (omega (arith, is)),
      not_among 0x210 0x21F code (omega (arith, is)),
      among 0x220 0x3FF code (omega (arith, is)) (omega (arith, is)),
    ) (ap Signal signal)

by-half : (pick : ℕ) → pick < 961 → class_in ((pick + 544) % 1024) ≡ Signal (pos pick -ℤ pos 480)
by-half pick below = elim (cases_lt pick 480) [
  | inl small ↦ low pick small
  | inr large ↦ high pick large below
]

pub signal-is : (word : ℕ) → class_in (signal_code word) ≡ Signal (pos (word % 961) -ℤ pos 480)
unfolding signal_code
signal-is word = by-half (word % 961) (mod_below word 961 (omega arith))

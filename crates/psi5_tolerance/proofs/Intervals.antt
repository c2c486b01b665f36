-- What the intervals of an honest data line count as.
--     bounds-accepted      the bit time and the jitter of a setup that is accepted
--     one_half, two_halves      between two edges of a frame
--     between_frames      from a frame to the next
--     from_opening      from an opening within a frame to its next edge
use Rattle.std.proofs.Common.{◌≡◌, ℕ, ◌+◌, ◌-◌, ◌*◌, ◌<◌, ◌≤◌, Bool, true, false, ◌||◌, not, nat_eq, nat_lt, cond, if◌then◌else◌, None, Some, refl, arith}
use Rattle.std.proofs.lemmas.Nat.{mul-le}
use Rattle.std.proofs.lemmas.Bool.{le-ltb, lt-ltb}
use Rattle.std.proofs.lemmas.Bool.Decides.{nat_tests}
use Rattle.line_base.specs.declared.faults.SetupFault.TheVariants as fault
use Rattle.link_math.specs.declared.manchester.Halves.TheVariants.{Short, One, Two, Quiet}
use Rattle.link_math.specs.Manchester.{halves_in}
use Rattle.psi5_frame.specs.Intervals.{is_quiet}
use Rattle.psi5_frame.specs.Setup.{Settings, fault_of, are_refused}
use Rattle.link_tolerance.specs.Recorded.{IsRecorded}
use Rattle.psi5_tolerance.specs.Trains.{IsHalf}

-- ---- the setup
pub record AreBounds (bit jitter : ℕ) : Type 0 where
  pub some : 5300 ≤ bit
  pub least : 1 ≤ jitter
  pub small : 16 * jitter ≤ bit

by_tests : (a b c : Bool) → (if a then Some fault.Bit else (if b then Some fault.Parts else (if c then Some fault.Jitter else None))) ≡ None → (a ≡ false) × (c ≡ false)
by_tests true b c e = absurd cc
by_tests false true c e = absurd cc
by_tests false false true e = absurd cc
by_tests false false false e = (refl, refl)

bit_is : (bit : ℕ) → not (nat_eq bit 8000 || nat_eq bit 5300) ≡ false → 5300 ≤ bit
bit_is bit e = grind (arith, nat_tests)

jitter_is : (bit jitter : ℕ) → (nat_lt jitter 1 || nat_lt bit (16 * jitter)) ≡ false → (1 ≤ jitter) × (16 * jitter ≤ bit)
jitter_is bit jitter e = (grind (arith, nat_tests), grind (arith, nat_tests))

pub bounds-accepted : (s : Settings) → fault_of s.bit s.parts s.jitter ≡ None → AreBounds s.bit s.jitter
bounds-accepted s accepted =
    let tests = by_tests (not (nat_eq s.bit 8000 || nat_eq s.bit 5300)) (are_refused s.parts) (nat_lt s.jitter 1 || nat_lt s.bit (16 * s.jitter)) accepted in
    let jitter = jitter_is s.bit s.jitter tests.1 in
    record { some = bit_is s.bit tests.0; least = jitter.0; small = jitter.1 }

-- ---- by inequalities
is_one : (m bit : ℕ) → bit ≤ 4 * m → 4 * m < 3 * bit → halves_in m bit ≡ One
is_one m bit low high = rw (le-ltb (4 * m) bit low, lt-ltb (4 * m) (3 * bit) high) refl

is_two : (m bit : ℕ) → 3 * bit ≤ 4 * m → 4 * m < 5 * bit → halves_in m bit ≡ Two
is_two m bit low high = rw (le-ltb (4 * m) bit (omega (arith, low)), le-ltb (4 * m) (3 * bit) low, lt-ltb (4 * m) (5 * bit) high) refl

quiet_above : (m bit : ℕ) → 5 * bit ≤ 4 * m → halves_in m bit ≡ Quiet
quiet_above m bit low = rw (le-ltb (4 * m) bit (omega (arith, low)), le-ltb (4 * m) (3 * bit) (omega (arith, low)), le-ltb (4 * m) (5 * bit) low) refl

never_quiet : (a b : Bool) → is_quiet (cond a Short (cond b One Two)) ≡ false
never_quiet true b = refl
never_quiet false true = refl
never_quiet false false = refl

not_quiet : (m bit : ℕ) → 4 * m < 5 * bit → is_quiet (halves_in m bit) ≡ false
not_quiet m bit high = rw (lt-ltb (4 * m) (5 * bit) high) (never_quiet (nat_lt (4 * m) bit) (nat_lt (4 * m) (3 * bit)))

-- ---- of recorded times
pub one_half : (bit jitter half ideal r next : ℕ) → AreBounds bit jitter → IsHalf bit half → IsRecorded jitter ideal r → IsRecorded jitter (ideal + half) next → halves_in (next - r) bit ≡ One
one_half bit jitter half ideal r next b h at after = is_one (next - r) bit (omega arith) (omega arith)

pub two_halves : (bit jitter half ideal r next : ℕ) → AreBounds bit jitter → IsHalf bit half → IsRecorded jitter ideal r → IsRecorded jitter (ideal + 2 * half) next → halves_in (next - r) bit ≡ Two
two_halves bit jitter half ideal r next b h at after = is_two (next - r) bit (omega arith) (omega arith)

-- from a time that is at most the jitter behind the end of a frame to the first edge of the next
pub between_frames : (bit jitter half end r start next : ℕ) → AreBounds bit jitter → IsHalf bit half → 1000 * r ≤ end + 1000 * jitter → end + 1050 * bit ≤ start → IsRecorded jitter (start + half) next → halves_in (next - r) bit ≡ Quiet
between_frames bit jitter half end r start next b h before apart at = quiet_above (next - r) bit (omega arith)

-- from an opening behind an edge that is left out to the next edge, one or two half-bits behind it
pub from_opening : (bit jitter half ideal opening next k : ℕ) → AreBounds bit jitter → IsHalf bit half → k ≤ 2 → ideal ≤ 1000 * (opening + jitter) → IsRecorded jitter (ideal + k * half) next
    → is_quiet (halves_in (next - opening) bit) ≡ false
from_opening bit jitter half ideal opening next k b h few opens at = not_quiet (next - opening) bit (omega (arith, mul-le k half 2 half few (omega arith)))

-- How long a calibration pulse is at least and at most.
use Rattle.std.proofs.Common.{◌≡◌, ℕ, ◌^◌, ◌≤◌, true, arith}
use Rattle.std.proofs.lemmas.Bool.Decides.{nat_tests}
use Rattle.link_math.specs.Sent.{is_calibration}
use Rattle.sent_frame.specs.Setup.{InRange}

-- at least 1 ns
pub calibration-low : (c tick jitter nibbles : ℕ) → InRange tick jitter nibbles → is_calibration c tick jitter ≡ true → 1 ≤ c
calibration-low c tick jitter nibbles range e = grind (arith, nat_tests)

-- at most 10^15 ns
pub calibration-high : (c tick jitter nibbles : ℕ) → InRange tick jitter nibbles → is_calibration c tick jitter ≡ true → c ≤ 10 ^ 15
calibration-high c tick jitter nibbles range e = grind (arith, nat_tests)

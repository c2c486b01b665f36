-- What the length of a SENT pulse means (SAE J2716), as inequalities between whole numbers of ns.
use Rattle.std.specs.Prelude.{ℕ, ◌+◌, ◌*◌, ◌<◌, ◌≤◌, Bool, ◌&&◌, nat_le, nat_lt, Option, [], ◌∷◌, find}

-- a pulse may be a calibration pulse, at this nominal tick and jitter (all in ns): it has 56 ticks give or take a fifth, and each of its two edges may be off by the jitter
abbrev pub is_calibration : ℕ → ℕ → ℕ → Bool
is_calibration pulse tick jitter = nat_le (224 * tick) (5 * pulse + 10 * jitter) && nat_le (5 * pulse) (336 * tick + 10 * jitter)

-- a pulse carries this nibble after a calibration pulse (both in ns): it has 12 ticks and the nibble's value, to the nearest tick, where a tick is a 56th of the calibration pulse
pub record Carries (pulse calibration value : ℕ) : Type 0 where
  pub is_nibble : value < 16
  pub not_below : (23 + 2 * value) * calibration ≤ 112 * pulse
  pub not_above : 112 * pulse < (25 + 2 * value) * calibration

-- the same as a test, but for the limit on the value: a pulse has 12 ticks and this value, to the nearest tick, after a calibration pulse (both in ns)
abbrev pub carries : ℕ → ℕ → ℕ → Bool
carries pulse calibration value = nat_le ((23 + 2 * value) * calibration) (112 * pulse) && nat_lt (112 * pulse) ((25 + 2 * value) * calibration)

-- the one nibble that a pulse carries after a calibration pulse (both in ns), if it carries one of the sixteen
unfoldable pub value_of : ℕ → ℕ → Option ℕ
value_of pulse calibration = find (carries pulse calibration) (0 ∷ 1 ∷ 2 ∷ 3 ∷ 4 ∷ 5 ∷ 6 ∷ 7 ∷ 8 ∷ 9 ∷ 10 ∷ 11 ∷ 12 ∷ 13 ∷ 14 ∷ 15 ∷ [])

-- the calibration pulses of two frames in a row (in ns, the earlier first) differ by at most a 64th of the earlier
abbrev pub is_steady : ℕ → ℕ → Bool
is_steady earlier later = nat_le (64 * later) (65 * earlier) && nat_le (63 * earlier) (64 * later)

-- a pulse may be a pause pulse after a calibration pulse (both in ns): it has 12 to 768 ticks, or up to half a tick less or 6 ticks more
abbrev pub is_pause : ℕ → ℕ → Bool
is_pause pulse calibration = nat_le (23 * calibration) (112 * pulse) && nat_le (112 * pulse) (1548 * calibration)

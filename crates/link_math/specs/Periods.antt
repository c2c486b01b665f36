-- How many sync periods lie between two pulses of a sync line (the tooth-gap downlink: PSI5 V2.1, base standard); the thresholds are this project's own.
use Rattle.std.specs.Prelude.{ℕ, ◌*◌, nat_lt, if◌then◌else◌}

-- how many sync periods a distance counts as, at this nominal period (both in ns): none below half a period, then to the nearest, and from five and a half on always six
abbrev pub periods_in : ℕ → ℕ → ℕ
periods_in distance period =
    if nat_lt (2 * distance) period then 0
    else (if nat_lt (2 * distance) (3 * period) then 1
    else (if nat_lt (2 * distance) (5 * period) then 2
    else (if nat_lt (2 * distance) (7 * period) then 3
    else (if nat_lt (2 * distance) (9 * period) then 4
    else (if nat_lt (2 * distance) (11 * period) then 5
    else 6)))))

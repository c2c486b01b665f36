-- Traces of messages that are sent with exactly the nominal period, and what an exact clock records; this project's own.
use Rattle.std.specs.Prelude.{ℕ, suc, ◌+◌, ◌*◌, ◌/◌, List, [], ◌∷◌, map}
use Rattle.psi5_downlink.specs.declared.down.Down.{Down}
use Rattle.psi5_downlink.specs.Setup.{Settings}
use Rattle.psi5_downlink.specs.Rises.{Rise}
use Rattle.psi5_downlink_tolerance.specs.Trains.{Sending, train_periods}

-- rises at these times in ns, numbered from here on, with a fall behind each
unfoldable pub rises_at : ℕ → List ℕ → List Rise
rises_at number [] = []
rises_at number (time ∷ times) = record { number = number; time = time } ∷ rises_at (suc (suc number)) times

-- a message with the shortest gap that may be sent, behind so many intervals of one period
abbrev pub nominal_sending : ℕ → Down → Sending
nominal_sending idle down = record { down = down; idle = idle; missing = 5 }

-- when intervals of so many periods end, which begin at this time; times and the period are in ns
unfoldable pub times_behind : ℕ → ℕ → List ℕ → List ℕ
times_behind period time [] = []
times_behind period time (count ∷ counts) = (time + count * period) ∷ times_behind period (time + count * period) counts

-- the rises of these messages, the first at this time in ns: before each message and behind the last come so many intervals of one period
abbrev pub nominal_rises : Settings → ℕ → ℕ → List Down → List Rise
nominal_rises s start idle messages = rises_at 1 (start ∷ times_behind s.period start (train_periods s.form (map (nominal_sending idle) messages) idle))

-- ideal times in ps, as an exact clock tells them in whole ns
abbrev pub told_in_ns : List ℕ → List ℕ
told_in_ns ideals = map (λ ideal. ideal / 1000) ideals

-- What a SENT channel is set up with (SAE J2716); the ranges and the jitter model are this project's own.
use Rattle.std.specs.Prelude.{ℕ, ◌*◌, ◌≤◌, Bool, ◌||◌, nat_lt, if◌then◌else◌, Option, None, Some}
use Rattle.line_base.specs.declared.faults.SetupFault.{SetupFault}
use Rattle.line_base.specs.declared.faults.SetupFault.TheVariants as fault
use Rattle.sent_frame.specs.declared.setup.CrcForm.{CrcForm}

-- the nominal tick and the jitter of an edge in ns, the number of data nibbles, whether a pause pulse follows each frame, and the form of the CRC
pub record Settings : Type 0 where
  pub tick : ℕ
  pub jitter : ℕ
  pub nibbles : ℕ
  pub pause : Bool
  pub crc : CrcForm

-- the first of a tick, a jitter and a number of nibbles that is refused: a tick outside 3,000 to 90,000 ns, a jitter of 0 or above a tenth of the tick, a number outside 1 to 6
abbrev pub fault_of : ℕ → ℕ → ℕ → Option SetupFault
fault_of tick jitter nibbles =
    if nat_lt tick 3000 || nat_lt 90000 tick then Some fault.Tick
    else (if nat_lt jitter 1 || nat_lt tick (10 * jitter) then Some fault.Jitter
    else (if nat_lt nibbles 1 || nat_lt 6 nibbles then Some fault.Nibbles
    else None))

-- a tick of 3,000 to 90,000 ns, a jitter of 1 ns to a tenth of the tick, and 1 to 6 nibbles
pub record InRange (tick jitter nibbles : ℕ) : Type 0 where
  pub tick_low : 3000 ≤ tick
  pub tick_high : tick ≤ 90000
  pub jitter_low : 1 ≤ jitter
  pub jitter_high : 10 * jitter ≤ tick
  pub nibbles_low : 1 ≤ nibbles
  pub nibbles_high : nibbles ≤ 6

-- What a tooth-gap downlink is set up with (sync pulses that are there or missing: PSI5 V2.1, base standard); the forms, the limits and the jitter model are this project's own.
use Rattle.std.specs.Prelude.{ℕ, ◌*◌, ◌≤◌, ◌||◌, nat_lt, if◌then◌else◌, Option, None, Some}
use Rattle.line_base.specs.declared.faults.SetupFault.{SetupFault}
use Rattle.line_base.specs.declared.faults.SetupFault.TheVariants as fault
use Rattle.psi5_downlink.specs.declared.down.Form.{Form}

-- the nominal sync period in ns, the form of the frames, and the jitter of an edge in ns
pub record Settings : Type 0 where
  pub period : ℕ
  pub form : Form
  pub jitter : ℕ

-- the first of a period and a jitter that is refused: a period that isn't 10,000 to 10,000,000 ns, a jitter of 0 or above a sixteenth of the period
abbrev pub fault_of : ℕ → ℕ → Option SetupFault
fault_of period jitter =
    if nat_lt period 10000 || nat_lt 10000000 period then Some fault.Period
    else (if nat_lt jitter 1 || nat_lt period (16 * jitter) then Some fault.Jitter
    else None)

-- a period of 10,000 to 10,000,000 ns, and a jitter of 1 ns to a sixteenth of the period
pub record InRange (period jitter : ℕ) : Type 0 where
  pub period_low : 10000 ≤ period
  pub period_high : period ≤ 10000000
  pub jitter_low : 1 ≤ jitter
  pub jitter_high : 16 * jitter ≤ period

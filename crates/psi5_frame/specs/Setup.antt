-- What a PSI5 data line is set up with (the frame: PSI5 V2.1, base standard); the jitter model is this project's own.
use Rattle.std.specs.Prelude.{◌≡◌, ℕ, ◌+◌, ◌*◌, ◌≤◌, ◌⊎◌, Bool, ◌||◌, not, nat_eq, nat_lt, if◌then◌else◌, Option, None, Some}
use Rattle.line_base.specs.declared.faults.SetupFault.{SetupFault}
use Rattle.line_base.specs.declared.faults.SetupFault.TheVariants as fault
use Rattle.psi5_frame.specs.declared.setup.Parts.{Parts}
use Rattle.psi5_frame.specs.declared.setup.Check.{Check}
use Rattle.psi5_frame.specs.declared.setup.Check.TheVariants.{Parity, Crc}

-- the nominal bit time in ns, the widths of the payload's parts, what a frame ends with, and the jitter of an edge in ns
pub record Settings : Type 0 where
  pub bit : ℕ
  pub parts : Parts
  pub check : Check
  pub jitter : ℕ

-- how many bits a payload of these parts has
abbrev pub payload_width : Parts → ℕ
payload_width parts = parts.m + parts.f + parts.s + parts.b + parts.a

-- how many bits the check has
abbrev pub check_width : Check → ℕ
check_width Parity = 1
check_width Crc = 3

-- how many bits a frame has: two start bits, the payload and the check
abbrev pub bit_count : Settings → ℕ
bit_count s = 2 + payload_width s.parts + check_width s.check

-- the widths are refused: messaging isn't 0 or 2, frame control above 4, status above 2, data B above 12, data A outside 10 to 24, or more than 28 bits in all
abbrev pub are_refused : Parts → Bool
are_refused parts =
    not (nat_eq parts.m 0 || nat_eq parts.m 2) || nat_lt 4 parts.f || nat_lt 2 parts.s || nat_lt 12 parts.b || nat_lt parts.a 10 || nat_lt 24 parts.a
    || nat_lt 28 (payload_width parts)

-- the first of a bit time, widths and a jitter that is refused: a bit time that is neither 8,000 nor 5,300 ns, widths as above, a jitter of 0 or above a sixteenth of the bit time
abbrev pub fault_of : ℕ → Parts → ℕ → Option SetupFault
fault_of bit parts jitter =
    if not (nat_eq bit 8000 || nat_eq bit 5300) then Some fault.Bit
    else (if are_refused parts then Some fault.Parts
    else (if nat_lt jitter 1 || nat_lt bit (16 * jitter) then Some fault.Jitter
    else None))

-- a bit time of 8,000 or 5,300 ns, widths that are accepted, and a jitter of 1 ns to a sixteenth of the bit time
pub record InRange (bit : ℕ) (parts : Parts) (jitter : ℕ) : Type 0 where
  pub bit_is : (bit ≡ 8000) ⊎ (bit ≡ 5300)
  pub m_is : (parts.m ≡ 0) ⊎ (parts.m ≡ 2)
  pub f_high : parts.f ≤ 4
  pub s_high : parts.s ≤ 2
  pub b_high : parts.b ≤ 12
  pub a_low : 10 ≤ parts.a
  pub a_high : parts.a ≤ 24
  pub few : payload_width parts ≤ 28
  pub jitter_low : 1 ≤ jitter
  pub jitter_high : 16 * jitter ≤ bit

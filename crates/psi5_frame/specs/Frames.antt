-- The bits of a PSI5 frame, and the waveform that sends them (the Manchester code, parity and CRC-3: PSI5 V2.1, base standard).
use Rattle.std.specs.Prelude.{ℕ, zero, suc, ◌+◌, ◌*◌, ◌/◌, ◌%◌, ◌<◌, ◌^◌, Bool, false, not, nat_eq, if◌then◌else◌, List, [], ◌∷◌, ◌++◌, take, drop}
use Rattle.link_math.specs.Division.{bits_of, differ}
use Rattle.link_math.specs.Checks.{crc3_of, has_odd_ones}
use Rattle.psi5_frame.specs.declared.setup.Parts.{Parts}
use Rattle.psi5_frame.specs.declared.setup.Check.{Check}
use Rattle.psi5_frame.specs.declared.setup.Check.TheVariants.{Parity, Crc}
use Rattle.psi5_frame.specs.declared.burst.Payload.{Payload}
use Rattle.psi5_frame.specs.Setup.{Settings, check_width}

-- the lowest so many bits of a number, least significant first
unfoldable pub low_bits : ℕ → ℕ → List Bool
low_bits zero number = []
low_bits (suc width) number = nat_eq (number % 2) 1 ∷ low_bits width (number / 2)

-- the number that these bits write, least significant first
unfoldable pub low_number : List Bool → ℕ
low_number [] = 0
low_number (bit ∷ bits) = (if bit then 1 else 0) + 2 * low_number bits

-- the check of these payload bits, as a number: a parity that makes the number of ones even, or the CRC-3
abbrev pub check_number : Check → List Bool → ℕ
check_number Parity bits = if has_odd_ones bits then 1 else 0
check_number Crc bits = crc3_of bits

-- the bits of a payload: messaging, frame control, status, data B and data A, each with its least significant bit first
abbrev pub payload_bits : Parts → Payload → List Bool
payload_bits parts p = low_bits parts.m p.m ++ low_bits parts.f p.f ++ low_bits parts.s p.s ++ low_bits parts.b p.b ++ low_bits parts.a p.a

-- the value of so many bits, behind the first so many
abbrev pub value_at : ℕ → ℕ → List Bool → ℕ
value_at skipped width bits = low_number (take width (drop skipped bits))

-- the payload that these bits begin with
abbrev pub payload_of : Parts → List Bool → Payload
payload_of parts bits = record {
  m = value_at 0 parts.m bits;
  f = value_at parts.m parts.f bits;
  s = value_at (parts.m + parts.f) parts.s bits;
  b = value_at (parts.m + parts.f + parts.s) parts.b bits;
  a = value_at (parts.m + parts.f + parts.s + parts.b) parts.a bits;
}

-- each value fits the width of its part
pub record Fits (parts : Parts) (p : Payload) : Type 0 where
  pub m : p.m < 2 ^ parts.m
  pub f : p.f < 2 ^ parts.f
  pub s : p.s < 2 ^ parts.s
  pub b : p.b < 2 ^ parts.b
  pub a : p.a < 2 ^ parts.a

-- the bits of a frame with these payload bits: the start bits 0 and 0, the payload, and its check, most significant bit first
abbrev pub framed : Check → List Bool → List Bool
framed check bits = false ∷ false ∷ (bits ++ bits_of (check_width check) (check_number check bits))

-- the bits of the frame of a payload
abbrev pub frame_of : Settings → Payload → List Bool
frame_of s p = framed s.check (payload_bits s.parts p)

-- the levels of the half-bits of these bits: 0 is low and then high, 1 is high and then low
abbrev pub levels_of : List Bool → List Bool
levels_of [] = []
levels_of (bit ∷ bits) = bit ∷ not bit ∷ levels_of bits

-- the places at which these levels differ from the one before, where the first of them stands at this place and has this level before it
unfoldable pub changed_at : ℕ → Bool → List Bool → List ℕ
changed_at place before [] = []
changed_at place before (level ∷ levels) = if differ before level then place ∷ changed_at (suc place) level levels else changed_at (suc place) level levels

-- the places of a frame's edges, in half-bits from its start: where its levels change, with the line low before and after it
unfoldable pub waveform : List Bool → List ℕ
waveform bits = changed_at 0 false (levels_of bits ++ false ∷ [])

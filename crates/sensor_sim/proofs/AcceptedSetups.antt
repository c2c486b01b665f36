-- Setups whose values are in range are accepted.
--     sent-accepted, psi5-accepted, slots-accepted, tooth-accepted
use Rattle.std.proofs.Common.{◌≡◌, ℕ, ◌*◌, ◌⊎◌, true, None, refl, inl, inr, le-ltb, eqb}
use Rattle.std.specs.Prelude.{◌||◌}
use Rattle.psi5_downlink.specs.Setup as downlink
use Rattle.psi5_frame.specs.Setup as psi5_frame
use Rattle.psi5_frame.specs.Setup.{payload_width}
use Rattle.psi5_frame.specs.declared.setup.Parts.{Parts}
use Rattle.psi5_slots.specs.Setup as slots
use Rattle.sent_frame.specs.Setup as frame

pub sent-accepted : (tick jitter nibbles : ℕ) → frame.InRange tick jitter nibbles → frame.fault_of tick jitter nibbles ≡ None
sent-accepted tick jitter nibbles range =
    rw (le-ltb tick 3000 range.tick_low, le-ltb 90000 tick range.tick_high, le-ltb jitter 1 range.jitter_low, le-ltb tick (10 * jitter) range.jitter_high, le-ltb nibbles 1 range.nibbles_low, le-ltb 6 nibbles range.nibbles_high) refl

pub tooth-accepted : (period jitter : ℕ) → downlink.InRange period jitter → downlink.fault_of period jitter ≡ None
tooth-accepted period jitter range = rw (le-ltb period 10000 range.period_low, le-ltb 10000000 period range.period_high, le-ltb jitter 1 range.jitter_low, le-ltb period (16 * jitter) range.jitter_high) refl

-- one of two numbers
is-either : (number one other : ℕ) → (number ≡ one) ⊎ (number ≡ other) → (eqb one one || eqb one other) ≡ true → (eqb other one || eqb other other) ≡ true → (eqb number one || eqb number other) ≡ true
is-either number one other (inl e) first second = rw (e) first
is-either number one other (inr e) first second = rw (e) second

pub psi5-accepted : (bit : ℕ) (parts : Parts) (jitter : ℕ) → psi5_frame.InRange bit parts jitter → psi5_frame.fault_of bit parts jitter ≡ None
psi5-accepted bit parts jitter range =
    rw (
      is-either bit 8000 5300 range.bit_is refl refl,
      is-either parts.m 0 2 range.m_is refl refl,
      le-ltb 4 parts.f range.f_high,
      le-ltb 2 parts.s range.s_high,
      le-ltb 12 parts.b range.b_high,
      le-ltb parts.a 10 range.a_low,
      le-ltb 24 parts.a range.a_high,
      le-ltb 28 (payload_width parts) range.few,
      le-ltb jitter 1 range.jitter_low,
      le-ltb bit (16 * jitter) range.jitter_high,
    ) refl

pub slots-accepted : (s : slots.Settings) → slots.InRange s.windows s.frame → slots.fault_of s.windows s.frame ≡ None
slots-accepted s range = rw (range.slots) refl

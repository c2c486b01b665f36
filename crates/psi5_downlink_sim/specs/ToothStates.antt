-- What a simulator of the tooth gap has come to; this project's own.
use Rattle.std.specs.Prelude.{ℕ, ◌*◌, ◌^◌, ◌≤◌, Option, None, Some}
use Rattle.psi5_downlink.specs.Setup.{Settings}

-- a control unit of this setup on this line, and when its last pulse was ideal, in ps, if there was one
pub record ToothState : Type 0 where
  pub line : ℕ
  pub setup : Settings
  pub last : Option ℕ

-- the last pulse is no earlier than the first of all, one nominal period behind 0, and at most at 9 * 10^17 ps
abbrev pub IsPulseInTime : ℕ → Option ℕ → Type 0
IsPulseInTime period None = Unit {0}
IsPulseInTime period (Some last) = (1000 * period ≤ last) × (last ≤ 9 * 10 ^ 17)

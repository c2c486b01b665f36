-- What a simulator of SPC has come to; this project's own.
use Rattle.std.specs.Prelude.{ℕ, ◌+◌, ◌*◌, ◌^◌, ◌≤◌, Option, None, Some}
use Rattle.spc_link.specs.Setup.{Settings}

-- triggers and answers of this setup on this line: when the next trigger falls, in ps, where one was sent before
pub record SpcState : Type 0 where
  pub line : ℕ
  pub setup : Settings
  pub next : Option ℕ

-- the first trigger's fall, in ps: a tick more than the quiet time and twice the jitter behind 0
abbrev pub first_trigger : Settings → ℕ
first_trigger s = 100 * s.sent.tick * s.quiet + 1000 * s.sent.tick + 2000 * s.sent.jitter

-- the next trigger's fall
abbrev pub trigger_at : Settings → Option ℕ → ℕ
trigger_at s None = first_trigger s
trigger_at s (Some next) = next

-- the next trigger falls within what numbers of ps hold, and not before the first
abbrev pub MayFall : Settings → Option ℕ → Type 0
MayFall s None = Unit {0}
MayFall s (Some next) = (first_trigger s ≤ next) × (next ≤ 10 ^ 18)

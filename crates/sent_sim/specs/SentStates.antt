-- What a simulator of a SENT sensor has come to; this project's own.
use Rattle.std.specs.Prelude.{◌≡◌, ℕ, ◌*◌, ◌^◌, ◌≤◌, Option, None, Some, List, [], All}
use Rattle.sent_frame.specs.Setup.{Settings}
use Rattle.sent_serial.specs.Statuses.{HasTwoBits}
use Rattle.link_tolerance.specs.Ticks.{IsTick}
use Rattle.receiver_core.specs.declared.setup.Serial.{Serial}
use Rattle.receiver_core.specs.declared.setup.Serial.TheVariants as serial

-- a sensor of this setup on this line, with these serial messages: when its last fall was ideal, in ps, if there was one; the tick of its last frame, in ps, at first the nominal one; and the statuses of a serial message that are left to send
pub record SentState : Type 0 where
  pub line : ℕ
  pub setup : Settings
  pub serial : Serial
  pub last : Option ℕ
  pub tick : ℕ
  pub left : List ℕ

-- the last fall is within what edge lists tell: at least the first one's time, and at most 9 * 10^17 ps
abbrev pub IsInTime : ℕ → Option ℕ → Type 0
IsInTime nominal None = Unit {0}
IsInTime nominal (Some last) = (100000 * nominal ≤ last) × (last ≤ 9 * 10 ^ 17)

-- such statuses may be left to send: none without serial messages
abbrev pub MayBeLeft : Serial → List ℕ → Type 0
MayBeLeft serial.Absent left = left ≡ []
MayBeLeft serial.Short left = All HasTwoBits left
MayBeLeft serial.Enhanced left = All HasTwoBits left

-- a simulator may have come to this
pub record IsSentState (nominal : ℕ) (form : Serial) (last : Option ℕ) (tick : ℕ) (left : List ℕ) : Type 0 where
  pub in_time : IsInTime nominal last
  pub is_tick : IsTick nominal tick
  pub may_be_left : MayBeLeft form left

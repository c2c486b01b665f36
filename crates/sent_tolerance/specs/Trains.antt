-- What a SENT sensor sends: frames, pulse after pulse (SAE J2716). The bounds are this project's own.
use Rattle.std.specs.Prelude.{◌≡◌, ℕ, ◌<◌, ◌≤◌, true, List, [], ◌∷◌, All, length, flat_map}
use Rattle.sent_frame.specs.declared.frame.SentFrame.{SentFrame}
use Rattle.sent_frame.specs.Setup.{Settings}
use Rattle.sent_frame.specs.Frames.{ticks_of}
use Rattle.link_tolerance.specs.Pulses.{falls_behind, lengths_of}
use Rattle.link_tolerance.specs.Ticks.{IsTick, IsOwnTick, FollowsTick}

-- a frame that is sent: how many ticks its pause has, where there is one; the tick of its calibration pulse; and the own tick of each pulse behind that (in ps)
pub record Sending : Type 0 where
  pub frame : SentFrame
  pub pause : ℕ
  pub tick : ℕ
  pub own_ticks : List ℕ

-- the lengths of a frame's pulses, in ps
abbrev pub pulses_sent : Settings → Sending → List ℕ
pulses_sent s f = lengths_of (ticks_of s f.frame f.pause) (f.tick ∷ f.own_ticks)

-- the ideal falls of frames that are sent one after the other from this time on, in ps: one there, and one at the end of each pulse
unfoldable pub ideal_falls : Settings → ℕ → List Sending → List ℕ
ideal_falls s start [] = []
ideal_falls s start (f ∷ sent) = start ∷ falls_behind start (flat_map (pulses_sent s) (f ∷ sent))

-- a frame that fits a setup: a status and as many data nibbles as it says, each below 16
pub record FitsSetup (s : Settings) (frame : SentFrame) : Type 0 where
  pub status : frame.status < 16
  pub as_many : length frame.nibbles ≡ s.nibbles
  pub nibbles : All (λ nibble. nibble < 16) frame.nibbles

-- a frame as a sensor may send it: a pause of 12 to 768 ticks where the setup has one, and ticks within the bounds, one for each pulse
pub record IsSent (s : Settings) (f : Sending) : Type 0 where
  pub fits : FitsSetup s f.frame
  pub pause : s.pause ≡ true → (12 ≤ f.pause) × (f.pause ≤ 768)
  pub tick : IsTick s.tick f.tick
  pub one_for_each : length (f.tick ∷ f.own_ticks) ≡ length (ticks_of s f.frame f.pause)
  pub own_ticks : All (IsOwnTick f.tick) f.own_ticks

-- the next of these frames has a tick that may follow this one
abbrev pub DriftsTo : ℕ → List Sending → Type 0
DriftsTo tick [] = Unit {0}
DriftsTo tick (f ∷ sent) = FollowsTick tick f.tick

-- frames as a sensor may send them one after the other: the tick drifts little from each to the next
abbrev pub IsTrain : Settings → List Sending → Type 0
IsTrain s [] = Unit {0}
IsTrain s (f ∷ sent) = IsSent s f × DriftsTo f.tick sent × IsTrain s sent

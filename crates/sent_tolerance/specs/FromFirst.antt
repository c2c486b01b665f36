-- Which frames of a trace are whole, from the first on whose calibration pulse begins with a recorded fall; this project's own.
use Rattle.std.specs.Prelude.{ℕ, zero, suc, ◌+◌, ◌-◌, ◌*◌, List, [], ◌∷◌, length, map, drop, slice_index, if◌then◌else◌}
use Rattle.line_base.specs.Edges.{NumberedEdge}
use Rattle.sent_frame.specs.declared.frame.SentFrame.{SentFrame}
use Rattle.sent_frame.specs.declared.frame.SentStep.{SentStep}
use Rattle.sent_frame.specs.declared.frame.SentStep.TheVariants.{Good}
use Rattle.sent_frame.specs.Setup.{Settings}
use Rattle.sent_frame.specs.Pulses.{Fall, falls_of}

-- what was sent in a frame that is recorded from its first fall on, and the number of the fall that ends its CRC pulse
pub record Heard (A : Type 0) : Type 0 where
  pub place : ℕ
  pub sent : A

-- how many pulses a frame has: calibration, status, data nibbles, CRC and, where the setup has one, a pause
abbrev pub pulse_count : Settings → ℕ
pulse_count s = suc (suc (suc (s.nibbles + (if s.pause then 1 else 0))))

-- what of these frames is heard, where the first so many of their falls weren't recorded, and the others have these numbers
unfoldable pub heard_from : {A : Type 0} → Settings → ℕ → List A → List ℕ → List (Heard A)
heard_from s missing [] falls = []
heard_from s zero (frame ∷ frames) falls =
    record { place = slice_index falls (suc (suc (suc s.nibbles))); sent = frame } ∷ heard_from s zero frames (drop (pulse_count s) falls)
heard_from s (suc missing) (frame ∷ frames) falls = heard_from s (suc missing - pulse_count s) frames (drop (pulse_count s - suc missing) falls)

-- what of these frames is heard in these edges, of whose falls the first ones are missing, one more fall than the frames have pulses being sent
unfoldable pub heard_of : {A : Type 0} → Settings → List A → List NumberedEdge → List (Heard A)
heard_of s frames edges =
    heard_from s (suc (length frames * pulse_count s) - length (falls_of edges)) frames (map (λ (fall : Fall). fall.number) (falls_of edges))

-- the report of a frame that is heard
abbrev pub good_step : Heard SentFrame → SentStep
good_step heard = Good heard.place heard.sent

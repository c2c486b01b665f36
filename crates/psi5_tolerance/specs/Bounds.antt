-- Trains at the bounds of what may be sent; this project's own. Ideal times are in ps.
use Rattle.std.specs.Prelude.{ℕ, ◌+◌, ◌*◌, Option, None, Some, List, [], ◌∷◌}
use Rattle.psi5_frame.specs.declared.burst.Payload.{Payload}
use Rattle.psi5_frame.specs.Setup.{Settings}
use Rattle.psi5_tolerance.specs.Trains.{FrameSent, Sending, SyncAt, FrameAt, end_of}

-- one frame on a line without slots
abbrev pub lone_frame : Payload → ℕ → ℕ → List Sending
lone_frame payload start half = FrameAt (record { slot = None; payload = payload; start = start; half = half }) ∷ []

-- a frame in a slot, if there is one, whose half-bits are half of the nominal bit time
abbrev pub middle_frame : Settings → Option ℕ → Payload → ℕ → FrameSent
middle_frame s slot payload start = record { slot = slot; payload = payload; start = start; half = 500 * s.bit }

-- two frames on a line without slots, the second so much behind the end of the first
abbrev pub two_frames : Settings → Payload → ℕ → ℕ → List Sending
two_frames s payload start quiet =
    FrameAt (middle_frame s None payload start) ∷ FrameAt (middle_frame s None payload (end_of s (middle_frame s None payload start) + quiet)) ∷ []

-- a sync pulse, and a frame that starts at this time in the slot with this number
abbrev pub answer : Settings → Payload → ℕ → ℕ → ℕ → List Sending
answer s payload pulse number start = SyncAt pulse ∷ FrameAt (middle_frame s (Some number) payload start) ∷ []

-- the same, and another frame in the slot with that number
abbrev pub two_answers : Settings → Payload → ℕ → ℕ → ℕ → ℕ → ℕ → List Sending
two_answers s payload pulse number start other next =
    SyncAt pulse ∷ FrameAt (middle_frame s (Some number) payload start) ∷ FrameAt (middle_frame s (Some other) payload next) ∷ []

-- a sync pulse, a frame, and a sync pulse
abbrev pub answer_and_sync : Settings → Payload → ℕ → ℕ → ℕ → ℕ → List Sending
answer_and_sync s payload pulse number start next = SyncAt pulse ∷ FrameAt (middle_frame s (Some number) payload start) ∷ SyncAt next ∷ []

-- What runs over the lines of a PSI5 channel: sync pulses, and the frames that sensors answer (the Manchester code, time slots behind a sync pulse: PSI5 V2.1, base standard). Ideal times are in ps. The bounds are this project's own.
use Rattle.std.specs.Prelude.{◌≡◌, ℕ, ◌+◌, ◌*◌, ◌<◌, ◌≤◌, Bool, true, false, not, Option, None, Some, IfSome, List, [], ◌∷◌, length, flat_map}
use Rattle.line_base.specs.declared.edge.Span.{Span}
use Rattle.psi5_frame.specs.declared.burst.Payload.{Payload}
use Rattle.psi5_frame.specs.Setup.{Settings, bit_count}
use Rattle.psi5_frame.specs.Frames.{Fits, frame_of, waveform}
use Rattle.psi5_slots.specs.Meanings.{window_at}
use Rattle.psi5_tolerance.specs.Lines.{SyncWindows}

-- what is sent, one after the other: a sync pulse, or a burst with this payload, in this slot where there are slots
pub data Psi5Message : Type 0 where
  Sync : Psi5Message
  Burst : Option ℕ → Payload → Psi5Message

-- a frame on its way: its slot, where there are slots; its payload; the ideal time of its start, and the length of its half-bits, both in ps
pub record FrameSent : Type 0 where
  pub slot : Option ℕ
  pub payload : Payload
  pub start : ℕ
  pub half : ℕ

-- a message on its way: a sync pulse with the ideal time of its rise in ps, or a frame
pub data Sending : Type 0 where
  SyncAt : ℕ → Sending
  FrameAt : FrameSent → Sending

-- what the message says
abbrev pub message_of : Sending → Psi5Message
message_of (SyncAt time) = Sync
message_of (FrameAt f) = Burst f.slot f.payload

-- ---- ideal edges
-- an ideal edge: whether it is on the sync line, its time in ps, and the level after it
pub record IdealEdge : Type 0 where
  pub on_sync : Bool
  pub time : ℕ
  pub level : Bool

-- the ideal edges of a frame that starts at this time, with half-bits of this length, at these places, where the first of them is to this level
unfoldable pub edges_at : ℕ → ℕ → Bool → List ℕ → List IdealEdge
edges_at start half level [] = []
edges_at start half level (place ∷ places) = record { on_sync = false; time = start + place * half; level = level } ∷ edges_at start half (not level) places

-- the ideal edges of a message: the rise of a sync pulse, or the edges of a frame's waveform, the first of them a rise
abbrev pub edges_sent : Settings → Sending → List IdealEdge
edges_sent s (SyncAt time) = record { on_sync = true; time = time; level = true } ∷ []
edges_sent s (FrameAt f) = edges_at f.start f.half true (waveform (frame_of s f.payload))

-- the ideal edges of messages, in the order in which they are sent
abbrev pub ideal_edges : Settings → List Sending → List IdealEdge
ideal_edges s sent = flat_map (edges_sent s) sent

-- ---- what may be sent
-- what was sent before: the end of the last frame and the time of the last sync pulse, in ps, and the slot of the last frame behind that, each where there is one
pub record SentBefore : Type 0 where
  pub frame_end : Option ℕ
  pub sync : Option ℕ
  pub slot : Option ℕ

-- nothing was sent before
abbrev pub nothing_sent : SentBefore
nothing_sent = record { frame_end = None; sync = None; slot = None }

-- the end of a frame: two half-bits for each of its bits behind its start
abbrev pub end_of : Settings → FrameSent → ℕ
end_of s f = f.start + 2 * bit_count s * f.half

-- what was sent once this message is sent too
abbrev pub sent_with : Settings → SentBefore → Sending → SentBefore
sent_with s before (SyncAt time) = record { frame_end = before.frame_end; sync = Some time; slot = None }
sent_with s before (FrameAt f) = record { frame_end = Some (end_of s f); sync = before.sync; slot = f.slot }

-- a half-bit in ps is half of a nominal bit time in ns, 5 % more or less
pub record IsHalf (bit half : ℕ) : Type 0 where
  pub not_below : 475 * bit ≤ half
  pub not_above : half ≤ 525 * bit

-- a burst whose first rise is ideal at this time answers a slot: a later one than the last since the last sync pulse, whose window lies round the offset, with the jitter of both edges to spare
pub record IsAnswer (jitter : ℕ) (windows : List Span) (before : SentBefore) (slot : Option ℕ) (rise : ℕ) : Type 0 where
  pub sync : ℕ
  pub is_after : before.sync ≡ Some sync
  pub number : ℕ
  pub slot_is : slot ≡ Some number
  pub is_window : number < length windows
  pub is_later : IfSome before.slot (λ last. last < number)
  pub not_early : sync + (1000 * (window_at windows number).low + 2000 * jitter) ≤ rise
  pub not_late : rise + 2000 * jitter ≤ sync + 1000 * (window_at windows number).high

-- a burst has no slot where there are none, and answers one where there are
abbrev pub HasSlot : ℕ → Option SyncWindows → SentBefore → Option ℕ → ℕ → Type 0
HasSlot jitter None before slot rise = slot ≡ None
HasSlot jitter (Some sync) before slot rise = IsAnswer jitter sync.windows before slot rise

-- a frame may be sent next: its payload fits, its half-bits are long enough and no longer, it starts at least 1.05 nominal bit times after the end of the one before, and its first rise, at half-bit 1, is in its slot
pub record IsFrameSent (s : Settings) (sync : Option SyncWindows) (before : SentBefore) (f : FrameSent) : Type 0 where
  pub fits : Fits s.parts f.payload
  pub half_bits : IsHalf s.bit f.half
  pub apart : IfSome before.frame_end (λ end. end + 1050 * s.bit ≤ f.start)
  pub in_slot : HasSlot s.jitter sync before f.slot (f.start + f.half)

-- a sync pulse may be sent next: its rise is no earlier than the end of the last frame, and later than that of the last sync pulse
pub record IsPulse (before : SentBefore) (time : ℕ) : Type 0 where
  pub after_frame : IfSome before.frame_end (λ end. end ≤ time)
  pub after_sync : IfSome before.sync (λ sync. sync < time)

-- a sync pulse may be sent next where there are slots, and never where there are none
abbrev pub IsPulseSent : Option SyncWindows → SentBefore → ℕ → Type 0
IsPulseSent None before time = ⊥
IsPulseSent (Some sync) before time = IsPulse before time

-- a message may be sent next
abbrev pub IsSent : Settings → Option SyncWindows → SentBefore → Sending → Type 0
IsSent s sync before (SyncAt time) = IsPulseSent sync before time
IsSent s sync before (FrameAt f) = IsFrameSent s sync before f

-- messages may be sent next, one after the other
abbrev pub IsTrainBehind : Settings → Option SyncWindows → SentBefore → List Sending → Type 0
IsTrainBehind s sync before [] = Unit {0}
IsTrainBehind s sync before (next ∷ sent) = IsSent s sync before next × IsTrainBehind s sync (sent_with s before next) sent

-- messages as they may be sent, one after the other
abbrev pub IsTrain : Settings → Option SyncWindows → List Sending → Type 0
IsTrain s sync sent = IsTrainBehind s sync nothing_sent sent

-- What a sensor sends in the status nibbles of its frames (SAE J2716). Which messages are told of a part of it is this project's own.
use Rattle.std.specs.Prelude.{◌≡◌, ℕ, suc, ◌+◌, ◌<◌, nat_le, true, false, Option, Some, None, List, [], ◌∷◌, ◌++◌, length, map, drop, if◌then◌else◌}
use Rattle.sent_serial.specs.declared.step.SerialStep.{SerialStep}
use Rattle.sent_serial.specs.declared.step.SerialStep.TheVariants as step
use Rattle.sent_serial.specs.SentStatuses.{statuses_sent}

-- what is sent next: a frame whose status has this number in its bits 1 and 0, or a serial message, spread over the frames behind it
pub data Sending : Type 0 where
  Frame : ℕ → Sending
  Message : SerialStep → Sending

-- the status of a frame as it is sent, and the message that ends with it, if one does
pub record SentStatus : Type 0 where
  pub status : ℕ
  pub ends : Option SerialStep

-- the statuses alone
abbrev pub statuses_in : List SentStatus → List ℕ
statuses_in sent = map (λ (s : SentStatus). s.status) sent

-- this message ends where none of its statuses are left to send
abbrev pub ended_by : SerialStep → List ℕ → Option SerialStep
ended_by message [] = Some message
ended_by message (next ∷ left) = None

-- the statuses of the frames as they are sent, while these statuses of this message are left to send: each is the next of them with the frame's own bits
unfoldable pub sent_from : SerialStep → List ℕ → List Sending → List SentStatus
sent_from message left [] = []
sent_from message [] (Frame own ∷ sendings) = record { status = own; ends = None } ∷ sent_from message [] sendings
sent_from message (bits ∷ left) (Frame own ∷ sendings) = record { status = bits + own; ends = ended_by message left } ∷ sent_from message left sendings
sent_from message left (Message next ∷ sendings) = sent_from next (statuses_sent next) sendings

-- the statuses of the frames as they are sent, of which the first begins no message but where one is sent
abbrev pub sent_statuses : List Sending → List SentStatus
sent_statuses sendings = sent_from step.Nothing [] sendings

-- a sensor may send these, while these statuses of a message are left to send: a frame's own bits are bits 1 and 0, and a message is of the kind that is sent, and begins when none is on its way
abbrev pub FitsFrom : (SerialStep → Type 0) → List ℕ → List Sending → Type 0
FitsFrom IsSent left [] = Unit {0}
FitsFrom IsSent left (Frame own ∷ sendings) = (own < 4) × FitsFrom IsSent (drop 1 left) sendings
FitsFrom IsSent left (Message message ∷ sendings) = IsSent message × (left ≡ []) × FitsFrom IsSent (statuses_sent message) sendings

-- a short message whose id has 4 bits and whose value 8
abbrev pub IsShort : SerialStep → Type 0
IsShort (step.Short id value) = (id < 16) × (value < 256)
IsShort _ = ⊥

-- an enhanced message whose id has 4 bits and whose value 16 where it is wide, else 8 and 12
abbrev pub IsEnhanced : SerialStep → Type 0
IsEnhanced (step.Enhanced id value true) = (id < 16) × (value < 65536)
IsEnhanced (step.Enhanced id value false) = (id < 256) × (value < 4096)
IsEnhanced _ = ⊥

-- what is told at a frame, before which so many stand: the message that ends with it, if as many frames are there as it has
abbrev pub told_at : ℕ → Option SerialStep → List SerialStep
told_at before None = []
told_at before (Some message) = if nat_le (length (statuses_sent message)) (suc before) then message ∷ [] else []

-- the messages that are whole among these statuses, before which so many stand where a message may have begun: each is told where it ends
unfoldable pub messages_told : ℕ → List SentStatus → List SerialStep
messages_told before [] = []
messages_told before (sent ∷ later) = told_at before sent.ends ++ messages_told (suc before) later

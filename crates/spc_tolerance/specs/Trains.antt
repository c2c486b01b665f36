-- What is sent on an SPC line: triggers of the receiver and answers of a sensor (Infineon's SPC, in outline alone). Ideal times and ticks are whole numbers of ps; the bounds are this project's own.
use Rattle.std.specs.Prelude.{◌≡◌, ℕ, ◌+◌, ◌-◌, ◌*◌, ◌<◌, ◌≤◌, List, [], ◌∷◌, ◌++◌, All, length, map, get_or}
use Rattle.line_base.specs.Spans.{no_span}
use Rattle.line_base.specs.declared.edge.Span.{Span}
use Rattle.sent_frame.specs.declared.frame.SentFrame.{SentFrame}
use Rattle.sent_frame.specs.Reading.{covered, crc_of}
use Rattle.spc_link.specs.Setup.{Settings}
use Rattle.link_tolerance.specs.Pulses.{falls_behind, lengths_of}
use Rattle.link_tolerance.specs.Ticks.{IsTick, IsOwnTick}

-- ---- messages and how they are sent
-- what a transaction says: its trigger's code and the answer's frame, or the code alone where nobody answers
pub data SpcMessage : Type 0 where
  Answer : ℕ → SentFrame → SpcMessage
  Silent : ℕ → SpcMessage

-- a trigger that is sent: its code, and the ideal times of its fall and its rise
pub record Trigger : Type 0 where
  pub code : ℕ
  pub fall : ℕ
  pub rise : ℕ

-- an answer that is sent: the ideal time of its first fall, its frame, the tick of its calibration pulse, and the own tick of each pulse behind that
pub record SentAnswer : Type 0 where
  pub start : ℕ
  pub frame : SentFrame
  pub tick : ℕ
  pub own_ticks : List ℕ

-- a transaction that is sent: a trigger with an answer, or with none
pub data Transaction : Type 0 where
  Answered : Trigger → SentAnswer → Transaction
  Unanswered : Trigger → Transaction

-- a transaction's trigger
abbrev pub trigger_in : Transaction → Trigger
trigger_in (Answered trigger answer) = trigger
trigger_in (Unanswered trigger) = trigger

-- what a transaction says
abbrev pub message_of : Transaction → SpcMessage
message_of (Answered trigger answer) = Answer trigger.code answer.frame
message_of (Unanswered trigger) = Silent trigger.code

-- ---- ideal edges
-- the values of an answer's pulses: status, data nibbles, and the CRC of what the setup covers
abbrev pub values_in : Settings → SentFrame → List ℕ
values_in s frame = frame.status ∷ (frame.nibbles ++ crc_of s.sent.crc (covered s.cover frame.status frame.nibbles) ∷ [])

-- the ticks of an answer's pulses: 56 for the calibration pulse, and 12 and the value for each value
abbrev pub ticks_in : Settings → SentFrame → List ℕ
ticks_in s frame = 56 ∷ map (λ value. 12 + value) (values_in s frame)

-- the lengths of an answer's pulses
abbrev pub pulses_sent : Settings → SentAnswer → List ℕ
pulses_sent s answer = lengths_of (ticks_in s answer.frame) (answer.tick ∷ answer.own_ticks)

-- the falls of an answer: one at its start, and one at the end of each pulse
abbrev pub answer_falls : Settings → SentAnswer → List ℕ
answer_falls s answer = answer.start ∷ falls_behind answer.start (pulses_sent s answer)

-- an ideal edge: a trigger's fall or rise or an answer's fall, at its time; or a rise in an answer, which has no time
pub data IdealEdge : Type 0 where
  TriggerFall : ℕ → IdealEdge
  TriggerRise : ℕ → IdealEdge
  AnswerFall : ℕ → IdealEdge
  AnswerRise : IdealEdge

-- the edges of an answer with these falls: behind each fall a rise
abbrev pub answer_edges : List ℕ → List IdealEdge
answer_edges [] = []
answer_edges (fall ∷ falls) = AnswerFall fall ∷ AnswerRise ∷ answer_edges falls

-- the edges of a transaction's answer, where it has one
abbrev pub edges_in_answer : Settings → Transaction → List IdealEdge
edges_in_answer s (Answered trigger answer) = answer_edges (answer_falls s answer)
edges_in_answer s (Unanswered trigger) = []

-- the edges of a transaction
abbrev pub edges_sent : Settings → Transaction → List IdealEdge
edges_sent s transaction = TriggerFall (trigger_in transaction).fall ∷ TriggerRise (trigger_in transaction).rise ∷ edges_in_answer s transaction

-- the edges of transactions that are sent one after the other
abbrev pub ideal_edges : Settings → List Transaction → List IdealEdge
ideal_edges s [] = []
ideal_edges s (transaction ∷ train) = edges_sent s transaction ++ ideal_edges s train

-- the times of those edges that have one
abbrev pub ideal_times : List IdealEdge → List ℕ
ideal_times [] = []
ideal_times (TriggerFall time ∷ edges) = time ∷ ideal_times edges
ideal_times (TriggerRise time ∷ edges) = time ∷ ideal_times edges
ideal_times (AnswerFall time ∷ edges) = time ∷ ideal_times edges
ideal_times (AnswerRise ∷ edges) = ideal_times edges

-- ---- bounds
-- a time in ps lies in a span of tenths of the nominal tick (in ns), and twice the jitter inside each end
pub record LastsInside (s : Settings) (span : Span) (time : ℕ) : Type 0 where
  pub not_too_short : 100 * s.sent.tick * span.low + 2000 * s.sent.jitter ≤ time
  pub not_too_long : time + 2000 * s.sent.jitter ≤ 100 * s.sent.tick * span.high

-- a frame that fits a setup: a status and as many data nibbles as it says, each below 16
pub record FitsSetup (s : Settings) (frame : SentFrame) : Type 0 where
  pub status : frame.status < 16
  pub as_many : length frame.nibbles ≡ s.sent.nibbles
  pub nibbles : All (λ nibble. nibble < 16) frame.nibbles

-- a message that fits a setup: its code is the number of a window, and its frame fits
abbrev pub FitsMessage : Settings → SpcMessage → Type 0
FitsMessage s (Answer code frame) = (code < length s.windows) × FitsSetup s frame
FitsMessage s (Silent code) = code < length s.windows

-- a trigger as a receiver may send it: its width is in the window of its code
pub record IsTriggerSent (s : Settings) (trigger : Trigger) : Type 0 where
  pub code : trigger.code < length s.windows
  pub width : LastsInside s (get_or s.windows trigger.code no_span) (trigger.rise - trigger.fall)

-- an answer as a sensor may send it behind this trigger: its delay is in the setup's, and its ticks are within the bounds, one for each pulse
pub record IsAnswerSent (s : Settings) (trigger : Trigger) (answer : SentAnswer) : Type 0 where
  pub fits : FitsSetup s answer.frame
  pub delay : LastsInside s s.delay (answer.start - trigger.rise)
  pub tick : IsTick s.sent.tick answer.tick
  pub one_for_each : length (answer.tick ∷ answer.own_ticks) ≡ length (ticks_in s answer.frame)
  pub own_ticks : All (IsOwnTick answer.tick) answer.own_ticks

-- a transaction's answer may be sent so, where it has one
abbrev pub IsAnswerIn : Settings → Transaction → Type 0
IsAnswerIn s (Answered trigger answer) = IsAnswerSent s trigger answer
IsAnswerIn s (Unanswered trigger) = Unit {0}

-- a transaction as it may be sent
pub record IsSent (s : Settings) (transaction : Transaction) : Type 0 where
  pub trigger : IsTriggerSent s (trigger_in transaction)
  pub answer : IsAnswerIn s transaction

-- the last of these times, and this one where there is none
abbrev pub last_of : ℕ → List ℕ → ℕ
last_of time [] = time
last_of time (next ∷ times) = last_of next times

-- the time of the last ideal edge of a transaction that has one
abbrev pub ends_at : Settings → Transaction → ℕ
ends_at s (Answered trigger answer) = last_of answer.start (falls_behind answer.start (pulses_sent s answer))
ends_at s (Unanswered trigger) = trigger.rise

-- the next of these transactions begins later than this
abbrev pub BeginsAfter : ℕ → List Transaction → Type 0
BeginsAfter time [] = Unit {0}
BeginsAfter time (transaction ∷ train) = time < (trigger_in transaction).fall

-- transactions as they may be sent one after the other
abbrev pub IsTrain : Settings → List Transaction → Type 0
IsTrain s [] = Unit {0}
IsTrain s (transaction ∷ train) = IsSent s transaction × BeginsAfter (ends_at s transaction) train × IsTrain s train

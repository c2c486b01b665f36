-- Honest traces of a SENT channel, and the reports that they have to give (frames and serial messages: SAE J2716; the bounds and the order of reports: this project's own).
use Rattle.std.specs.Prelude.{ℕ, suc, List, [], ◌∷◌, ◌++◌, All, Option, None, Some, flat_map, map}
use Rattle.line_base.specs.Edges.{NumberedEdge}
use Rattle.sent_frame.specs.declared.frame.SentFrame.{SentFrame}
use Rattle.sent_frame.specs.Setup.{Settings}
use Rattle.sent_fast.specs.declared.layout.Layout.{Layout}
use Rattle.sent_fast.specs.Layouts.{fast_of}
use Rattle.sent_serial.specs.declared.step.SerialStep.{SerialStep}
use Rattle.sent_serial.specs.declared.step.SerialStep.TheVariants as step
use Rattle.sent_serial.specs.Sendings.{Sending, SentStatus, FitsFrom, IsShort, IsEnhanced, sent_statuses, told_at}
use Rattle.sent_serial.specs.Sendings.Sending.{Frame as FrameSending, Message as MessageSending}
use Rattle.sent_tolerance.specs.Traces.{IsHonest}
use Rattle.sent_tolerance.specs.FromFirst.{Heard, heard_of}
use Rattle.receiver_core.specs.declared.message.Message.{Message}
use Rattle.receiver_core.specs.declared.message.Message.TheVariants as message
use Rattle.receiver_core.specs.declared.report.Report.{Report}
use Rattle.receiver_core.specs.declared.report.What.TheVariants as what
use Rattle.receiver_core.specs.declared.setup.Serial.{Serial}
use Rattle.receiver_core.specs.declared.setup.Serial.TheVariants as serial
use Rattle.receiver_core.specs.SentReports.{counter_of, report, serial_report, value_reports}

-- ---- what is sent
-- a message is one of a SENT sensor
abbrev pub IsOfSent : Message → Type 0
IsOfSent (message.Frame frame) = Unit {0}
IsOfSent (message.Short id value) = Unit {0}
IsOfSent (message.Enhanced id value wide) = Unit {0}
IsOfSent other = ⊥

-- the frame that a message is, if it is one
abbrev pub frame_in : Message → List SentFrame
frame_in (message.Frame frame) = frame ∷ []
frame_in other = []

-- what a message sends in the status nibbles
abbrev pub sending_in : Message → List Sending
sending_in (message.Frame frame) = FrameSending frame.status ∷ []
sending_in (message.Short id value) = MessageSending (step.Short id value) ∷ []
sending_in (message.Enhanced id value wide) = MessageSending (step.Enhanced id value wide) ∷ []
sending_in other = []

-- what is sent is a frame
abbrev pub IsFrame : Sending → Type 0
IsFrame (FrameSending status) = Unit {0}
IsFrame (MessageSending message) = ⊥

-- a channel with these serial messages may send this in its status nibbles: frames alone where it has none; else frames whose own status is below 4, and messages of this form, none of which begins before the one before it has ended
abbrev pub FitSerial : Serial → List Sending → Type 0
FitSerial serial.Absent sendings = All IsFrame sendings
FitSerial serial.Short sendings = FitsFrom IsShort [] sendings
FitSerial serial.Enhanced sendings = FitsFrom IsEnhanced [] sendings

-- a frame as it is sent: its status has the bits of the serial message that is on its way; and the message that ends with it, if one does
pub record SentTurn : Type 0 where
  pub frame : SentFrame
  pub ends : Option SerialStep

-- frames as they are sent, with these statuses
abbrev pub turns_of : List SentFrame → List SentStatus → List SentTurn
turns_of [] statuses = []
turns_of (frame ∷ frames) [] = []
turns_of (frame ∷ frames) (sent ∷ statuses) =
    record { frame = record { status = sent.status; nibbles = frame.nibbles }; ends = sent.ends } ∷ turns_of frames statuses

-- the frames of these messages as they are sent
abbrev pub sent_turns : List Message → List SentTurn
sent_turns messages = turns_of (flat_map frame_in messages) (sent_statuses (flat_map sending_in messages))

-- ---- an honest trace
-- the edges are an honest trace of these messages of a SENT sensor
pub record IsSentTrace (s : Settings) (form : Serial) (messages : List Message) (edges : List NumberedEdge) : Type 0 where
  pub all_sent : All IsOfSent messages
  pub serial_fits : FitSerial form (flat_map sending_in messages)
  pub honest : IsHonest s (map (λ (turn : SentTurn). turn.frame) (sent_turns messages)) edges

-- ---- what it has to give
-- the reports of frames that are heard, behind this frame and so many in all: the frame; what its nibbles say, or the rule that they break, and a counter that doesn't follow the one before; and the serial message that ends with it, if its first frame was heard
unfoldable pub heard_reports : Layout → Option SentFrame → ℕ → List (Heard SentTurn) → List Report
heard_reports layout before count [] = []
heard_reports layout before count (heard ∷ later) =
    (report heard.place (what.Frame heard.sent.frame)
    ∷ (value_reports heard.place (counter_of layout before) (fast_of layout heard.sent.frame.nibbles) ++ flat_map (serial_report heard.place) (told_at count heard.sent.ends)))
    ++ heard_reports layout (Some heard.sent.frame) (suc count) later

-- the reports of a trace of these messages, from the first whole frame on
abbrev pub sent_from_first : Settings → Layout → List Message → List NumberedEdge → List Report
sent_from_first s layout messages edges = heard_reports layout None 0 (heard_of s (sent_turns messages) edges)

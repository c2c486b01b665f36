-- Messages that a channel's setup has room for, and edges that are recorded of them without jitter; this project's own.
use Rattle.std.specs.Prelude.{◌≡◌, ℕ, ◌+◌, ◌≤◌, None, true, false, Bool, Option, List, [], ◌∷◌, All, flat_map, map}
use Rattle.line_base.specs.Edges.{NumberedEdge}
use Rattle.line_base.specs.declared.edge.Edge.{Edge}
use Rattle.sent_frame.specs.Setup as sent
use Rattle.sent_tolerance.specs.Nominal as frames_of_sent
use Rattle.sent_tolerance.specs.Trains.{FitsSetup}
use Rattle.spc_link.specs.Setup as spc
use Rattle.spc_tolerance.specs.Nominal as transactions
use Rattle.spc_tolerance.specs.Trains.{FitsMessage}
use Rattle.psi5_frame.specs.Setup as frames
use Rattle.psi5_tolerance.specs.Exact.{exact_trace}
use Rattle.psi5_tolerance.specs.Trains.{Sending, message_of}
use Rattle.psi5_downlink.specs.Setup as tooth
use Rattle.psi5_downlink.specs.Frames.{Fits}
use Rattle.psi5_downlink_tolerance.specs.Nominal.{nominal_sending, times_behind}
use Rattle.psi5_downlink_tolerance.specs.Trains.{train_periods}
use Rattle.receiver_core.specs.declared.message.Message.{Message}
use Rattle.receiver_core.specs.declared.setup.Serial.{Serial}
use Rattle.receiver_core.specs.declared.setup.SyncSlots.{SyncSlots}
use Rattle.receiver_core.specs.SentTraces.{FitSerial, IsOfSent, SentTurn, sending_in, sent_turns}
use Rattle.receiver_core.specs.SpcTraces.{IsOfSpc, spc_message_in}
use Rattle.receiver_core.specs.Psi5Traces.{IsOfPsi5, psi5_message_in, windows_of}
use Rattle.receiver_core.specs.ToothTraces.{IsOfTooth, down_in}

-- these edges, without their numbers
abbrev pub without_numbers : List NumberedEdge → List Edge
without_numbers edges = map (λ (e : NumberedEdge). e.edge) edges

-- ---- SENT
-- messages of SENT that a setup which is accepted has room for
pub record FitsSent (s : sent.Settings) (form : Serial) (messages : List Message) : Type 0 where
  pub accepted : sent.fault_of s.tick s.jitter s.nibbles ≡ None
  pub all_sent : All IsOfSent messages
  pub serial_fits : FitSerial form (flat_map sending_in messages)
  pub frames_fit : All (FitsSetup s) (map (λ (turn : SentTurn). turn.frame) (sent_turns messages))

-- a pause has 12 to 768 ticks, where the setup has one
abbrev pub HasPause : sent.Settings → ℕ → Type 0
HasPause s pause = s.pause ≡ true → (12 ≤ pause) × (pause ≤ 768)

-- the edges of these messages at the nominal tick, from this time in ns on, with pauses of so many ticks
abbrev pub sent_edges : sent.Settings → ℕ → ℕ → List Message → List Edge
sent_edges s start pause messages = without_numbers (frames_of_sent.nominal_edges s start pause (map (λ (turn : SentTurn). turn.frame) (sent_turns messages)))

-- ---- SPC
-- messages of SPC that a setup which is accepted has room for
pub record FitsSpc (s : spc.Settings) (messages : List Message) : Type 0 where
  pub accepted : spc.fault_of s.sent s.windows s.delay s.quiet ≡ None
  pub accepted_frame : sent.fault_of s.sent.tick s.sent.jitter s.sent.nibbles ≡ None
  pub all_sent : All IsOfSpc messages
  pub fit : All (FitsMessage s) (flat_map spc_message_in messages)

-- the edges of these messages at the nominal tick, from this time in ps on
abbrev pub spc_edges : spc.Settings → ℕ → List Message → List Edge
spc_edges s start messages = without_numbers (transactions.nominal_edges s start (flat_map spc_message_in messages))

-- ---- PSI5
-- messages of PSI5 are what this train says
pub record SaysPsi5 (sent : List Sending) (messages : List Message) : Type 0 where
  pub all_sent : All IsOfPsi5 messages
  pub says : map message_of sent ≡ flat_map psi5_message_in messages

-- the edges of a train, each at the nearest ns, where the data line has this number
abbrev pub psi5_edges : ℕ → frames.Settings → Option SyncSlots → List Sending → List Edge
psi5_edges line s slots sent = without_numbers (exact_trace line s (windows_of slots) sent)

-- ---- tooth gap
-- downlink frames that a setup which is accepted has room for
pub record FitsTooth (s : tooth.Settings) (messages : List Message) : Type 0 where
  pub accepted : tooth.fault_of s.period s.jitter ≡ None
  pub all_sent : All IsOfTooth messages
  pub fit : All (Fits s.form) (flat_map down_in messages)

-- an edge of line 0
abbrev pub edge_at : ℕ → Bool → Edge
edge_at time level = record { line = 0; time = time; level = level }

-- rises at these times in ns, and a fall one ns behind each
unfoldable pub pulses_at : List ℕ → List Edge
pulses_at [] = []
pulses_at (time ∷ times) = edge_at time true ∷ edge_at (time + 1) false ∷ pulses_at times

-- the edges of these messages at the nominal period, the first pulse at this time in ns: before each message and behind the last come so many intervals of one period
abbrev pub tooth_edges : tooth.Settings → ℕ → ℕ → List Message → List Edge
tooth_edges s start idle messages =
    edge_at 0 false ∷ pulses_at (start ∷ times_behind s.period start (train_periods s.form (map (nominal_sending idle) (flat_map down_in messages)) idle))

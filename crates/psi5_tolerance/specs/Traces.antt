-- Honest traces of a PSI5 channel: which edges may be recorded of the messages that are sent. The bounds are this project's own.
use Rattle.std.specs.Prelude.{◌≡◌, ℕ, not, Option, None, Some, List, [], ◌∷◌, map, take, drop}
use Rattle.std.specs.List.{filter}
use Rattle.line_base.specs.Edges.{NumberedEdge}
use Rattle.psi5_frame.specs.Setup.{Settings, fault_of}
use Rattle.psi5_slots.specs.Setup.{InRange}
use Rattle.link_tolerance.specs.Recorded.{AreRecorded, OpensAfter}
use Rattle.psi5_tolerance.specs.Lines.{SyncWindows, data_edges, sync_edges, behind_opening, rises_of, times_of, AreInOrder}
use Rattle.psi5_tolerance.specs.Trains.{Psi5Message, Sending, IdealEdge, message_of, ideal_edges, IsTrain}

-- those of these ideal edges that are on the data line
abbrev pub on_data : List IdealEdge → List IdealEdge
on_data ideals = filter (λ ideal. not ideal.on_sync) ideals

-- those of these ideal edges that are on the sync line
abbrev pub on_sync : List IdealEdge → List IdealEdge
on_sync ideals = filter (λ ideal. ideal.on_sync) ideals

-- the times of these ideal edges, in ps
abbrev pub ideal_times : List IdealEdge → List ℕ
ideal_times ideals = map (λ ideal. ideal.time) ideals

-- the line was opened after these ideal edges, where it has an edge
abbrev pub OpensBehind : ℕ → List NumberedEdge → List IdealEdge → Type 0
OpensBehind jitter [] ideals = Unit {0}
OpensBehind jitter (opening ∷ edges) ideals = OpensAfter jitter opening.edge.time (ideal_times ideals)

-- the edges of a data line are recorded of these ideal edges, each to the same level, but for those left out, which were before the opening
pub record IsDataLine (jitter : ℕ) (left_out ideals : List IdealEdge) (edges : List NumberedEdge) : Type 0 where
  pub times : AreRecorded jitter (ideal_times ideals) (times_of (behind_opening edges))
  pub levels : map (λ e. e.edge.level) (behind_opening edges) ≡ map (λ ideal. ideal.level) ideals
  pub opens : OpensBehind jitter edges left_out

-- the rises of a sync line are recorded of these ideal edges, but for those left out, which were before the opening; falls stand anywhere
pub record IsSyncLine (jitter : ℕ) (left_out ideals : List IdealEdge) (edges : List NumberedEdge) : Type 0 where
  pub times : AreRecorded jitter (ideal_times ideals) (times_of (rises_of edges))
  pub opens : OpensBehind jitter edges left_out

-- the slots, if there are any, are accepted for frames of this setup
abbrev pub AreSlots : Settings → Option SyncWindows → Type 0
AreSlots s None = Unit {0}
AreSlots s (Some sync) = InRange sync.windows s

-- where there are two lines, their edges are in order of time
abbrev pub AreTogether : Option SyncWindows → List NumberedEdge → Type 0
AreTogether None edges = Unit {0}
AreTogether (Some sync) edges = AreInOrder edges

-- these edges are an honest trace of these messages, of a setup and slots that are accepted: line by line they are recorded of a train of the messages, but for the first so many of its edges over both lines
pub record IsHonest (s : Settings) (sync : Option SyncWindows) (messages : List Psi5Message) (edges : List NumberedEdge) : Type 0 where
  pub accepted : fault_of s.bit s.parts s.jitter ≡ None
  pub slots : AreSlots s sync
  pub sent : List Sending
  pub carries : map message_of sent ≡ messages
  pub train : IsTrain s sync sent
  pub left_out : ℕ
  pub data_line : IsDataLine s.jitter (on_data (take left_out (ideal_edges s sent))) (on_data (drop left_out (ideal_edges s sent))) (data_edges sync edges)
  pub sync_line : IsSyncLine s.jitter (on_sync (take left_out (ideal_edges s sent))) (on_sync (drop left_out (ideal_edges s sent))) (sync_edges sync edges)
  pub together : AreTogether sync edges

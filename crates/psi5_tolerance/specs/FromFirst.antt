-- Which frames of a trace are read, from the first on whose first edge is recorded behind a quiet interval and, where there are slots, behind a sync pulse; this project's own.
use Rattle.std.specs.Prelude.{◌≡◌, ℕ, zero, suc, ◌+◌, ◌-◌, Bool, false, Option, List, [], ◌∷◌, ◌++◌, length, map, drop, slice_index, slice_index_or, if◌then◌else◌}
use Rattle.std.specs.List.{filter, sum_by}
use Rattle.line_base.specs.Edges.{NumberedEdge}
use Rattle.psi5_frame.specs.declared.burst.Payload.{Payload}
use Rattle.psi5_frame.specs.declared.burst.Burst.{Burst}
use Rattle.psi5_frame.specs.declared.burst.Burst.TheVariants.{Good}
use Rattle.psi5_frame.specs.Setup.{Settings}
use Rattle.psi5_frame.specs.Edges.{Change, changes_of}
use Rattle.psi5_frame.specs.Frames.{frame_of, waveform}
use Rattle.psi5_frame.specs.Bursts.{begins}
use Rattle.psi5_tolerance.specs.Lines.{SyncWindows, data_edges, sync_edges, behind_opening, rises_of, told_edges}
use Rattle.psi5_tolerance.specs.Trains.{Psi5Message, Sync, Burst as Sent}

-- a frame that is recorded from its first edge on, behind a quiet interval: the numbers of its first and its last edge, whether it is told, its slot, where there are slots, and its payload
pub record HeardFrame : Type 0 where
  pub first : ℕ
  pub last : ℕ
  pub is_told : Bool
  pub slot : Option ℕ
  pub payload : Payload

-- how many edges a message has whose times are known: one of a sync pulse, and those of a frame's waveform
abbrev pub edge_count : Settings → Psi5Message → ℕ
edge_count s Sync = 1
edge_count s (Sent slot payload) = length (waveform (frame_of s payload))

-- the number of the edge at this index
abbrev pub number_at : List Change → ℕ → ℕ
number_at edges index = slice_index (map (λ (edge : Change). edge.number) edges) index

-- a frame with so many edges, where these edges begin with its own: it is heard if a quiet interval stands before the first
abbrev pub heard_frame : ℕ → Option ℕ → Payload → List Change → List Bool → List HeardFrame
heard_frame count slot payload [] told = []
heard_frame count slot payload (edge ∷ edges) told =
    if begins edge then record { first = edge.number; last = number_at (edge ∷ edges) (count - 1); is_told = slice_index_or told 0 false; slot = slot; payload = payload } ∷ [] else []

-- the frames of these messages that are heard, where the first so many of their edges weren't recorded, by the data line's edges, and whether bursts are told that begin with them
unfoldable pub heard_from : Settings → ℕ → List Psi5Message → List Change → List Bool → List HeardFrame
heard_from s missing [] edges told = []
heard_from s zero (Sync ∷ messages) edges told = heard_from s zero messages edges told
heard_from s zero (Sent slot payload ∷ messages) edges told =
    heard_frame (edge_count s (Sent slot payload)) slot payload edges told
    ++ heard_from s zero messages (drop (edge_count s (Sent slot payload)) edges) (drop (edge_count s (Sent slot payload)) told)
heard_from s (suc missing) (message ∷ messages) edges told =
    heard_from s (suc missing - edge_count s message) messages (drop (edge_count s message - suc missing) edges) (drop (edge_count s message - suc missing) told)

-- how many edges of these messages have times that are known
abbrev pub edges_in : Settings → List Psi5Message → ℕ
edges_in s messages = sum_by (edge_count s) messages

-- how many edges are recorded whose times are known: those of the data line and the rises of the sync line, but for the openings
abbrev pub recorded_in : Option SyncWindows → List NumberedEdge → ℕ
recorded_in sync edges = length (behind_opening (data_edges sync edges)) + length (rises_of (sync_edges sync edges))

-- the frames of these messages that are heard in these edges, of which the first ones are missing
unfoldable pub heard_of : Settings → Option SyncWindows → List Psi5Message → List NumberedEdge → List HeardFrame
heard_of s sync messages edges =
    heard_from s (edges_in s messages - recorded_in sync edges) messages (changes_of s.bit (data_edges sync edges)) (drop 1 (told_edges sync edges))

-- the frames that are told, from the first on: those that are heard and, where there are slots, begin behind a sync pulse
abbrev pub from_first : Settings → Option SyncWindows → List Psi5Message → List NumberedEdge → List HeardFrame
from_first s sync messages edges = filter (λ (f : HeardFrame). f.is_told) (heard_of s sync messages edges)

-- what the burst of a frame says: its payload, at its last edge
abbrev pub good_burst : HeardFrame → Burst
good_burst f = Good f.last f.payload

-- ---- none is missing behind the first
-- the bursts among these messages
abbrev pub bursts_in : List Psi5Message → List Psi5Message
bursts_in [] = []
bursts_in (Sync ∷ messages) = bursts_in messages
bursts_in (Sent slot payload ∷ messages) = Sent slot payload ∷ bursts_in messages

-- the message that a frame says
abbrev pub said : HeardFrame → Psi5Message
said f = Sent f.slot f.payload

-- all of these messages but the first so many
pub record IsRestOf (rest whole : List Psi5Message) : Type 0 where
  pub passed : ℕ
  pub is : rest ≡ drop passed whole

-- Where the bursts of a channel with slots begin, by what the slots are told before each (slots: PSI5 V2.1, base standard). Times are in ns.
use Rattle.std.specs.Prelude.{ℕ, Bool, true, false, ◌&&◌, if◌then◌else◌, Option, None, Some, List, [], ◌∷◌, ◌++◌, map}
use Rattle.std.specs.List.{filter}
use Rattle.line_base.specs.Edges.{NumberedEdge}
use Rattle.psi5_frame.specs.Edges.{Change, change_at}
use Rattle.psi5_frame.specs.Setup.{Settings}
use Rattle.psi5_frame.specs.Bursts.{begins}
use Rattle.psi5_slots.specs.declared.placed.Placed.{Placed}
use Rattle.psi5_slots.specs.declared.placed.Placed.TheVariants.{Before, Slot}
use Rattle.psi5_slots.specs.History.{Event, placed_in}
use Rattle.psi5_slots.specs.History.Event.{Sync, Start}
use Rattle.psi5_tolerance.specs.Lines.{SyncWindows, is_on_sync}
use Rattle.psi5_tolerance.specs.FromFirst.{HeardFrame}

-- an edge of the data line behind its opening: the change that it is, its time, and the sync pulses and the starts before it
pub record SlotEdge : Type 0 where
  pub change : Change
  pub time : ℕ
  pub history : List Event

-- the sync pulse that an edge of the sync line is: a rise, where the line had an edge before
abbrev pub pulse_of : Bool → NumberedEdge → List Event
pulse_of opened e = if e.edge.level && opened then Sync e.edge.time ∷ [] else []

-- the start that an edge of the data line is: a rise that begins a burst
abbrev pub start_of : SlotEdge → List Event
start_of edge = if begins edge.change && edge.change.level then Start edge.time ∷ [] else []

-- the edge of the data line behind one at this time, at this nominal bit time, with what was before
abbrev pub slot_edge : ℕ → ℕ → List Event → NumberedEdge → SlotEdge
slot_edge bit before history e = record { change = change_at bit before e; time = e.edge.time; history = history }

-- the edges of the data line, where these sync pulses and starts were before them, the sync line had an edge, or not, and the last edge of the data line, if there was one, was at this time
unfoldable pub slot_edges_after : ℕ → SyncWindows → Bool → List Event → Option ℕ → List NumberedEdge → List SlotEdge
slot_edges_after bit sync opened history last [] = []
slot_edges_after bit sync opened history None (e ∷ edges) =
    if is_on_sync (Some sync) e then slot_edges_after bit sync true (history ++ pulse_of opened e) None edges
    else slot_edges_after bit sync opened history (Some e.edge.time) edges
slot_edges_after bit sync opened history (Some last) (e ∷ edges) =
    if is_on_sync (Some sync) e then slot_edges_after bit sync true (history ++ pulse_of opened e) (Some last) edges
    else slot_edge bit last history e ∷ slot_edges_after bit sync opened (history ++ start_of (slot_edge bit last history e)) (Some e.edge.time) edges

-- the edges of the data line of a channel with slots, behind its opening
abbrev pub slot_edges : Settings → SyncWindows → List NumberedEdge → List SlotEdge
slot_edges s sync edges = slot_edges_after s.bit sync false [] None edges

-- those that begin a burst
abbrev pub slot_starts : Settings → SyncWindows → List NumberedEdge → List SlotEdge
slot_starts s sync edges = filter (λ (edge : SlotEdge). begins edge.change) (slot_edges s sync edges)

-- where each burst of the channel begins
abbrev pub slot_places : Settings → SyncWindows → List NumberedEdge → List Placed
slot_places s sync edges = map (λ (edge : SlotEdge). placed_in sync.windows edge.history edge.time) (slot_starts s sync edges)

-- the place in a slot with this number; in none where there is no number
abbrev pub in_slot : Option ℕ → Placed
in_slot None = Before
in_slot (Some number) = Slot number

-- where a frame that is heard has to begin: in its slot, or before the first sync pulse
abbrev pub place_of : HeardFrame → Placed
place_of f = if f.is_told then in_slot f.slot else Before

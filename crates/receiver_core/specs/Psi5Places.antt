-- Where each burst of a PSI5 channel stands: which edges are data and which are syncs, and which slot a burst begins in (slots: PSI5 V2.1, base standard; which burst is read: this project's own).
use Rattle.std.specs.Prelude.{ℕ, Bool, false, ◌&&◌, not, nat_eq, if◌then◌else◌, Option, None, Some, List, [], ◌∷◌, ◌++◌, length, drop, map, filter}
use Rattle.std.specs.List.{list_any}
use Rattle.line_base.specs.Edges.{NumberedEdge}
use Rattle.psi5_frame.specs.Setup.{Settings}
use Rattle.psi5_frame.specs.Bursts.{burst_starts}
use Rattle.psi5_slots.specs.declared.placed.Placed.{Placed}
use Rattle.psi5_slots.specs.declared.placed.Placed.TheVariants as placed
use Rattle.psi5_slots.specs.History.{Event, Sync, Start, has_sync, placed_in}
use Rattle.receiver_core.specs.declared.setup.SyncSlots.{SyncSlots}
use Rattle.receiver_core.specs.declared.psi5_burst.BurstPlace.{BurstPlace}
use Rattle.receiver_core.specs.declared.psi5_burst.BurstPlace.TheVariants as place

-- ---- the lines
-- the edge is on the sync line, if the channel has one
abbrev pub is_on_sync : Option SyncSlots → NumberedEdge → Bool
is_on_sync None e = false
is_on_sync (Some slots) e = nat_eq e.edge.line slots.line

-- the edges of the data line
unfoldable pub data_edges : Option SyncSlots → List NumberedEdge → List NumberedEdge
data_edges slots edges = filter (λ e. not (is_on_sync slots e)) edges

-- there is an edge on the sync line
unfoldable pub has_sync_edge : Option SyncSlots → List NumberedEdge → Bool
has_sync_edge slots edges = list_any (is_on_sync slots) edges

-- ---- what an edge adds behind these edges
-- what is new in a list that has grown
abbrev pub grown : {X : Type 0} → List X → List X → List X
grown before after = drop (length before) after

-- the number of the edge, where it is the first of a burst that is read; else none
unfoldable pub starts_added : Settings → Option SyncSlots → List NumberedEdge → NumberedEdge → List ℕ
starts_added s slots before e = grown (burst_starts s (data_edges slots before)) (burst_starts s (data_edges slots (before ++ e ∷ [])))

-- what the slots are told by an edge: a sync, which is a rise of the sync line that isn't its opening, or the first edge of a burst, where that is a rise
unfoldable pub slot_events : Settings → Option SyncSlots → List NumberedEdge → NumberedEdge → List Event
slot_events s slots before e =
    if is_on_sync slots e then (if e.edge.level && has_sync_edge slots before then Sync e.edge.time ∷ [] else [])
    else (if e.edge.level then map (λ number. Start e.edge.time) (starts_added s slots before e) else [])

-- what the slots are told by these edges, behind those before
unfoldable pub slot_events_after : Settings → Option SyncSlots → List NumberedEdge → List NumberedEdge → List Event
slot_events_after s slots before [] = []
slot_events_after s slots before (e ∷ edges) = slot_events s slots before e ++ slot_events_after s slots (before ++ e ∷ []) edges

-- what the slots are told by these edges
abbrev pub slot_history : Settings → Option SyncSlots → List NumberedEdge → List Event
slot_history s slots edges = slot_events_after s slots [] edges

-- ---- the place of a burst
-- the place by what the slots say of a burst whose first edge has this number
abbrev pub place_in_slots : ℕ → Placed → BurstPlace
place_in_slots number placed.Before = place.Unread
place_in_slots number (placed.Slot slot) = place.Slot slot
place_in_slots number (placed.Bad rule) = place.Outside number rule

-- the place of a burst whose first edge this is: with slots it isn't read before the first sync, and else it stands where its first edge does, if that is a rise
unfoldable pub burst_place : Settings → Option SyncSlots → List NumberedEdge → NumberedEdge → BurstPlace
burst_place s None before e = place.Free
burst_place s (Some slots) before e =
    if e.edge.level then place_in_slots e.number (placed_in slots.setup.windows (slot_history s (Some slots) before) e.edge.time)
    else (if has_sync (slot_history s (Some slots) before) then place.Free else place.Unread)

-- the places of the bursts that begin among these edges, behind those before
unfoldable pub places_after : Settings → Option SyncSlots → List NumberedEdge → List NumberedEdge → List BurstPlace
places_after s slots before [] = []
places_after s slots before (e ∷ edges) = map (λ number. burst_place s slots before e) (starts_added s slots before e) ++ places_after s slots (before ++ e ∷ []) edges

-- the places of the bursts of a stretch, in the order in which they begin
abbrev pub burst_places : Settings → Option SyncSlots → List NumberedEdge → List BurstPlace
burst_places s slots edges = places_after s slots [] edges

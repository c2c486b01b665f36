-- The lines of a PSI5 channel: which edges are on which, and which rises are sync pulses (slots: PSI5 V2.1, base standard).
use Rattle.std.specs.Prelude.{ℕ, ◌≤◌, Bool, true, false, ◌&&◌, ◌||◌, not, nat_eq, is_none, if◌then◌else◌, Option, None, Some, List, [], ◌∷◌, map}
use Rattle.std.specs.List.{filter}
use Rattle.line_base.specs.declared.edge.Span.{Span}
use Rattle.line_base.specs.Edges.{NumberedEdge}

-- the number of the sync line of a channel with slots, and the windows of the slots
pub record SyncWindows : Type 0 where
  pub line : ℕ
  pub windows : List Span

-- the edge is on the sync line, if the channel has one
abbrev pub is_on_sync : Option SyncWindows → NumberedEdge → Bool
is_on_sync None e = false
is_on_sync (Some sync) e = nat_eq e.edge.line sync.line

-- the edges of the data line
abbrev pub data_edges : Option SyncWindows → List NumberedEdge → List NumberedEdge
data_edges sync edges = filter (λ e. not (is_on_sync sync e)) edges

-- the edges of the sync line
abbrev pub sync_edges : Option SyncWindows → List NumberedEdge → List NumberedEdge
sync_edges sync edges = filter (is_on_sync sync) edges

-- the edges of a line behind its opening, which is its first edge
abbrev pub behind_opening : List NumberedEdge → List NumberedEdge
behind_opening [] = []
behind_opening (opening ∷ edges) = edges

-- the rises of a line that are not its opening
abbrev pub rises_of : List NumberedEdge → List NumberedEdge
rises_of edges = filter (λ e. e.edge.level) (behind_opening edges)

-- the times at which these edges are recorded, in ns
abbrev pub times_of : List NumberedEdge → List ℕ
times_of edges = map (λ e. e.edge.time) edges

-- the next of these edges is no earlier than this time in ns
abbrev pub IsNotBefore : ℕ → List NumberedEdge → Type 0
IsNotBefore time [] = Unit {0}
IsNotBefore time (e ∷ edges) = time ≤ e.edge.time

-- the times of these edges don't go back
abbrev pub AreInOrder : List NumberedEdge → Type 0
AreInOrder [] = Unit {0}
AreInOrder (e ∷ edges) = IsNotBefore e.edge.time edges × AreInOrder edges

-- of each edge of the data line, whether a sync pulse was recorded before it: a rise of the sync line that is not its opening; the line had an edge before these, or not, and a sync pulse, or not
unfoldable pub synced_after : Option SyncWindows → Bool → Bool → List NumberedEdge → List Bool
synced_after sync opened synced [] = []
synced_after sync opened synced (e ∷ edges) =
    if is_on_sync sync e then synced_after sync true (synced || (e.edge.level && opened)) edges
    else synced ∷ synced_after sync opened synced edges

-- of each edge of the data line, whether a burst that begins with it is told: a sync pulse was recorded before it, or there are no slots
abbrev pub told_edges : Option SyncWindows → List NumberedEdge → List Bool
told_edges sync edges = synced_after sync false (is_none sync) edges

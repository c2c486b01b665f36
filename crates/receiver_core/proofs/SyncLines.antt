-- The sync line of a PSI5 channel that has taken one edge more.
--     line-none      no edges
--     line-synced, line-opened      an edge of its own
--     line-risen, line-fallen, line-passed      an edge of the data line
use Rattle.std.proofs.Common.{◌≡◌, ℕ, Bool, true, false, ◌&&◌, ◌||◌, if◌then◌else◌, Option, Some, List, [], ◌∷◌, ◌++◌, map, refl, ap, ap₂, sym, subst, ◌∙◌, append-nil}
use Rattle.line_base.specs.Edges.{NumberedEdge}
use Rattle.psi5_frame.specs.Setup.{Settings}
use Rattle.psi5_slots.specs.Setup as slot_setup
use Rattle.psi5_slots.specs.History.{Event, Sync, Start, has_sync, placed_in}
use Rattle.psi5_slots.specs.declared.placed.Placed.{Placed}
use Rattle.psi5_slots.specs.declared.reader.SlotReader.{SlotReader}
use Rattle.psi5_slots.specs.Readers.{StandsFor}
use Rattle.receiver_core.specs.declared.setup.SyncSlots.{SyncSlots}
use Rattle.receiver_core.specs.declared.psi5_burst.BurstPlace.{BurstPlace}
use Rattle.receiver_core.specs.declared.psi5_burst.BurstPlace.TheVariants as place
use Rattle.receiver_core.specs.declared.sync_line.SyncLine.{SyncLine}
use Rattle.receiver_core.specs.Psi5Places.{is_on_sync, has_sync_edge, starts_added, slot_events, slot_history, place_in_slots, burst_place}
use Rattle.receiver_core.specs.Psi5Stretches.{LineStandsFor}
use Rattle.receiver_core.proofs.Psi5Places.{history-more, history-none, sync_edge-more}

no-sync-edge : (slots : Option SyncSlots) → false ≡ has_sync_edge slots []
unfolding has_sync_edge
no-sync-edge slots = refl

-- a line that has seen no edge
pub line-none : (s : Settings) (slots : SyncSlots) (line : ℕ) (reader : SlotReader) → line ≡ slots.line → StandsFor slots.setup reader []
    → LineStandsFor s slots (record { line = line; opened = false; slots = reader }) []
line-none s slots line reader same stands = record {
  same_line = same;
  opened = no-sync-edge (Some slots);
  reads = subst (λ (l : List Event). StandsFor slots.setup reader l) (sym (history-none s (Some slots))) stands;
}

-- a reader that was told what the edge adds stands for the history with it
told-more : (s : Settings) (slots : SyncSlots) (seen : List NumberedEdge) (e : NumberedEdge) (reader : SlotReader) (events : List Event) → slot_events s (Some slots) seen e ≡ events
    → StandsFor slots.setup reader (slot_history s (Some slots) seen ++ events) → StandsFor slots.setup reader (slot_history s (Some slots) (seen ++ e ∷ []))
told-more s slots seen e reader events is stands =
    subst (λ (l : List Event). StandsFor slots.setup reader l) (sym (history-more s (Some slots) seen e ∙ ap (λ l. slot_history s (Some slots) seen ++ l) is)) stands

told-nothing : (s : Settings) (slots : SyncSlots) (seen : List NumberedEdge) (e : NumberedEdge) (reader : SlotReader) → slot_events s (Some slots) seen e ≡ []
    → StandsFor slots.setup reader (slot_history s (Some slots) seen) → StandsFor slots.setup reader (slot_history s (Some slots) (seen ++ e ∷ []))
told-nothing s slots seen e reader is stands =
    told-more s slots seen e reader [] is (subst (λ (l : List Event). StandsFor slots.setup reader l) (sym (append-nil (slot_history s (Some slots) seen))) stands)

-- ---- an edge of the line
own-events : (s : Settings) (slots : Option SyncSlots) (seen : List NumberedEdge) (e : NumberedEdge) (rises : Bool) → is_on_sync slots e ≡ true → (e.edge.level && has_sync_edge slots seen) ≡ rises
    → slot_events s slots seen e ≡ (if rises then Sync e.edge.time ∷ [] else [])
unfolding slot_events
own-events s slots seen e rises on is = rw (on, is) refl

or-true : (b : Bool) → true ≡ (b || true)
or-true true = refl
or-true false = refl

both : (a b c : Bool) → a ≡ true → b ≡ true → b ≡ c → (a && c) ≡ true
both a b c rises opened same = ap₂ (λ x y. x && y) rises (sym same ∙ opened)

-- a rise behind another edge is a sync
pub line-synced : (s : Settings) (slots : SyncSlots) (old : SyncLine) (seen : List NumberedEdge) (e : NumberedEdge) (reader : SlotReader) → LineStandsFor s slots old seen
    → is_on_sync (Some slots) e ≡ true → e.edge.level ≡ true → old.opened ≡ true → StandsFor slots.setup reader (slot_history s (Some slots) seen ++ Sync e.edge.time ∷ [])
    → LineStandsFor s slots (record { line = old.line; opened = old.opened; slots = reader }) (seen ++ e ∷ [])
line-synced s slots old seen e reader before on rises opened stands = record {
  same_line = before.same_line;
  opened = opened ∙ or-true (has_sync_edge (Some slots) seen) ∙ ap (λ b. has_sync_edge (Some slots) seen || b) (sym on) ∙ sym (sync_edge-more (Some slots) seen e);
  reads = told-more s slots seen e reader (Sync e.edge.time ∷ []) (own-events s (Some slots) seen e true on (both e.edge.level old.opened (has_sync_edge (Some slots) seen) rises opened before.opened)) stands;
}

-- any other edge is none
pub line-opened : (s : Settings) (slots : SyncSlots) (old : SyncLine) (seen : List NumberedEdge) (e : NumberedEdge) → LineStandsFor s slots old seen
    → is_on_sync (Some slots) e ≡ true → (e.edge.level && old.opened) ≡ false → LineStandsFor s slots (record { line = old.line; opened = true; slots = old.slots }) (seen ++ e ∷ [])
line-opened s slots old seen e before on none = record {
  same_line = before.same_line;
  opened = or-true (has_sync_edge (Some slots) seen) ∙ ap (λ b. has_sync_edge (Some slots) seen || b) (sym on) ∙ sym (sync_edge-more (Some slots) seen e);
  reads = told-nothing s slots seen e old.slots (own-events s (Some slots) seen e false on (ap (λ b. e.edge.level && b) (sym before.opened) ∙ none)) before.reads;
}

-- ---- an edge of the data line
with_rise : (level : Bool) (events all : List Event) → level ≡ true → events ≡ all → (if level then events else []) ≡ all
with_rise level events all rises are = rw rises are

rise-events : (s : Settings) (slots : Option SyncSlots) (seen : List NumberedEdge) (e : NumberedEdge) (number : ℕ) → is_on_sync slots e ≡ false → e.edge.level ≡ true → starts_added s slots seen e ≡ number ∷ []
    → slot_events s slots seen e ≡ Start e.edge.time ∷ []
unfolding slot_events
rise-events s slots seen e number off rises begins = rw off (with_rise e.edge.level (map (λ number. Start e.edge.time) (starts_added s slots seen e)) (Start e.edge.time ∷ []) rises (ap (map (λ number. Start e.edge.time)) begins))

fall-events : (s : Settings) (slots : Option SyncSlots) (seen : List NumberedEdge) (e : NumberedEdge) → is_on_sync slots e ≡ false → e.edge.level ≡ false → slot_events s slots seen e ≡ []
unfolding slot_events
fall-events s slots seen e off falls = rw (off, falls) refl

by_level : (level : Bool) (events : List Event) → events ≡ [] → (if level then events else []) ≡ []
by_level true events none = none
by_level false events none = refl

no-events : (s : Settings) (slots : Option SyncSlots) (seen : List NumberedEdge) (e : NumberedEdge) → is_on_sync slots e ≡ false → starts_added s slots seen e ≡ [] → slot_events s slots seen e ≡ []
unfolding slot_events
no-events s slots seen e off none = rw off (by_level e.edge.level (map (λ number. Start e.edge.time) (starts_added s slots seen e)) (ap (map (λ number. Start e.edge.time)) none))

data-opened : (slots : SyncSlots) (seen : List NumberedEdge) (e : NumberedEdge) (opened : Bool) → is_on_sync (Some slots) e ≡ false → opened ≡ has_sync_edge (Some slots) seen → opened ≡ has_sync_edge (Some slots) (seen ++ e ∷ [])
data-opened slots seen e opened off same =
    same ∙ sym (or_false (has_sync_edge (Some slots) seen)) ∙ ap (λ b. has_sync_edge (Some slots) seen || b) (sym off) ∙ sym (sync_edge-more (Some slots) seen e)
  where
    or_false : (b : Bool) → (b || false) ≡ b
    or_false true = refl
    or_false false = refl

-- a rise that begins a burst is told to the slots
pub line-risen : (s : Settings) (slots : SyncSlots) (old : SyncLine) (seen : List NumberedEdge) (e : NumberedEdge) (number : ℕ) (reader : SlotReader) → LineStandsFor s slots old seen
    → is_on_sync (Some slots) e ≡ false → e.edge.level ≡ true → starts_added s (Some slots) seen e ≡ number ∷ [] → StandsFor slots.setup reader (slot_history s (Some slots) seen ++ Start e.edge.time ∷ [])
    → LineStandsFor s slots (record { line = old.line; opened = old.opened; slots = reader }) (seen ++ e ∷ [])
line-risen s slots old seen e number reader before off rises begins stands = record {
  same_line = before.same_line;
  opened = data-opened slots seen e old.opened off before.opened;
  reads = told-more s slots seen e reader (Start e.edge.time ∷ []) (rise-events s (Some slots) seen e number off rises begins) stands;
}

-- a fall isn't
pub line-fallen : (s : Settings) (slots : SyncSlots) (old : SyncLine) (seen : List NumberedEdge) (e : NumberedEdge) → LineStandsFor s slots old seen
    → is_on_sync (Some slots) e ≡ false → e.edge.level ≡ false → LineStandsFor s slots old (seen ++ e ∷ [])
line-fallen s slots old seen e before off falls = record {
  same_line = before.same_line;
  opened = data-opened slots seen e old.opened off before.opened;
  reads = told-nothing s slots seen e old.slots (fall-events s (Some slots) seen e off falls) before.reads;
}

-- and neither is an edge that begins no burst
pub line-passed : (s : Settings) (slots : SyncSlots) (old : SyncLine) (seen : List NumberedEdge) (e : NumberedEdge) → LineStandsFor s slots old seen
    → is_on_sync (Some slots) e ≡ false → starts_added s (Some slots) seen e ≡ [] → LineStandsFor s slots old (seen ++ e ∷ [])
line-passed s slots old seen e before off none = record {
  same_line = before.same_line;
  opened = data-opened slots seen e old.opened off before.opened;
  reads = told-nothing s slots seen e old.slots (no-events s (Some slots) seen e off none) before.reads;
}

-- ---- where a burst stands
-- by its first edge, where that is a rise
pub place-risen : (s : Settings) (slots : SyncSlots) (old : SyncLine) (seen : List NumberedEdge) (e : NumberedEdge) (placed : Placed) (place : BurstPlace) → LineStandsFor s slots old seen
    → e.edge.level ≡ true → ((setup : slot_setup.Settings) (history : List Event) → StandsFor setup old.slots history → placed ≡ placed_in setup.windows history e.edge.time) → place ≡ place_in_slots e.number placed
    → place ≡ burst_place s (Some slots) seen e
unfolding burst_place
place-risen s slots old seen e placed place before rises says is =
    rw rises (is ∙ ap (place_in_slots e.number) (says slots.setup (slot_history s (Some slots) seen) before.reads))

-- by whether a sync came before, where it is a fall
pub place-fallen : (s : Settings) (slots : SyncSlots) (old : SyncLine) (seen : List NumberedEdge) (e : NumberedEdge) (synced : Bool) → LineStandsFor s slots old seen
    → e.edge.level ≡ false → ((setup : slot_setup.Settings) (history : List Event) → StandsFor setup old.slots history → synced ≡ has_sync history)
    → (if synced then place.Free else place.Unread) ≡ burst_place s (Some slots) seen e
unfolding burst_place
place-fallen s slots old seen e synced before falls says =
    rw falls (ap (λ (b : Bool). if b then place.Free else place.Unread) (says slots.setup (slot_history s (Some slots) seen) before.reads))

pub no_rise : (level opened : Bool) → level ≡ false → (level && opened) ≡ false
no_rise level opened falls = ap (λ b. b && opened) falls

pub no_opening : (level opened : Bool) → opened ≡ false → (level && opened) ≡ false
no_opening true opened first = first
no_opening false opened first = refl

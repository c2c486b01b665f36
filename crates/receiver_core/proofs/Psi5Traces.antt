-- What is told of an honest trace of a PSI5 channel: its frames, from the first on.
--     places-walked      where the bursts begin, by what was before each edge of the data line
--     honest-told      what is told at the end
use Rattle.std.proofs.Common.{◌≡◌, ℕ, Bool, true, false, ◌&&◌, ◌||◌, cond, if◌then◌else◌, Option, None, Some, List, [], ◌∷◌, ◌++◌, length, map, refl, sym, ◌∙◌, ap, ap₂, subst, append-nil, arith}
use Rattle.std.specs.List.{filter, AllZip}
use Rattle.std.proofs.lemmas.List.{length-map}
use Rattle.line_base.specs.Edges.{NumberedEdge}
use Rattle.psi5_frame.specs.Setup.{Settings}
use Rattle.psi5_frame.specs.Edges.{Change, change_at, changes_after, changes_of}
use Rattle.psi5_frame.specs.Bursts.{begins, starts_in, burst_starts, bursts_at_end}
use Rattle.psi5_frame.proofs.Counts.{at_end-counted}
use Rattle.psi5_frame.proofs.Runs.{starts-append}
use Rattle.psi5_slots.specs.declared.placed.Placed.TheVariants as placed
use Rattle.psi5_slots.specs.History.{Event, has_sync, placed_in}
use Rattle.psi5_slots.specs.History.Event.{Start}
use Rattle.psi5_tolerance.specs.Lines as lines
use Rattle.psi5_tolerance.specs.Lines.{SyncWindows}
use Rattle.psi5_tolerance.specs.Trains.{Psi5Message}
use Rattle.psi5_tolerance.specs.Traces.{IsHonest}
use Rattle.psi5_tolerance.specs.FromFirst.{HeardFrame, heard_of, from_first, good_burst}
use Rattle.psi5_tolerance.specs.Places.{SlotEdge, pulse_of, start_of, slot_edge, slot_edges_after, slot_starts}
use Rattle.psi5_tolerance.proofs.RecordedFrames.{last_time}
use Rattle.psi5_tolerance.proofs.HeardFrames.{changes_after-append}
use Rattle.psi5_tolerance.proofs.DataLines.{line-bursts, all-told}
use Rattle.psi5_tolerance.proofs.FreeFrames.{AreFree, free-frames}
use Rattle.psi5_tolerance.proofs.SlotTrains.{IsPlaced, starting}
use Rattle.psi5_tolerance.proofs.SlotLines.{placed-line}
use Rattle.receiver_core.specs.declared.setup.SyncSlots.{SyncSlots}
use Rattle.receiver_core.specs.declared.psi5_burst.BurstPlace.{BurstPlace}
use Rattle.receiver_core.specs.declared.psi5_burst.BurstPlace.TheVariants as place
use Rattle.receiver_core.specs.declared.psi5_burst.Told.TheVariants as told
use Rattle.receiver_core.specs.Psi5Places.{is_on_sync, data_edges, has_sync_edge, starts_added, slot_events, slot_history, place_in_slots, burst_place, places_after, burst_places}
use Rattle.receiver_core.specs.Psi5Reports.{told_of, told_at, told_at_end}
use Rattle.receiver_core.specs.Psi5Traces.{windows_of, told_frame}
use Rattle.receiver_core.proofs.Psi5Places.{data-on, data-off, sync_edge-more, added-on, added-off, history-more, history-none, places-counted, no-data}

-- the same edges are on the data line
same-line : (slots : Option SyncSlots) (edges : List NumberedEdge) → data_edges slots edges ≡ lines.data_edges (windows_of slots) edges
unfolding data_edges
same-line None edges = refl
same-line (Some slots) edges = refl

-- ---- without slots
abbrev AreFreePlaces : List BurstPlace → Type 0
AreFreePlaces [] = Unit {0}
AreFreePlaces (p ∷ places) = (p ≡ place.Free) × AreFreePlaces places

mapped_free : (s : Settings) (before : List NumberedEdge) (e : NumberedEdge) (numbers : List ℕ) (rest : List BurstPlace) → AreFreePlaces rest → AreFreePlaces (map (λ number. burst_place s None before e) numbers ++ rest)
unfolding burst_place
mapped_free s before e [] rest free = free
mapped_free s before e (number ∷ numbers) rest free = (refl, mapped_free s before e numbers rest free)

free_places : (s : Settings) (before edges : List NumberedEdge) → AreFreePlaces (places_after s None before edges)
unfolding places_after
free_places s before [] = tt
free_places s before (e ∷ edges) = mapped_free s before e (starts_added s None before e) (places_after s None (before ++ e ∷ []) edges) (free_places s (before ++ e ∷ []) edges)

free_told : (places : List BurstPlace) (frames : List HeardFrame) → AreFreePlaces places → AreFree frames → length places ≡ length frames → told_at places (map good_burst frames) ≡ map told_frame frames
unfolding told_at
free_told [] [] free none long = refl
free_told [] (f ∷ frames) free none long = absurd (omega (arith, long))
free_told (p ∷ places) [] free none long = absurd (omega (arith, long))
free_told (p ∷ places) (f ∷ frames) free none long =
    let rest = free_told places frames free.1 none.1 (omega (arith, long)) in
    rw (free.0, none.0) (ap (λ l. told.Good f.last None f.payload ∷ l) rest)

told-free : (s : Settings) (messages : List Psi5Message) (edges : List NumberedEdge) → IsHonest s None messages edges → told_at_end s None edges ≡ map told_frame (from_first s None messages edges)
unfolding told_at_end
told-free s messages edges h =
    let frames = heard_of s None messages edges in
    let places = burst_places s None edges in
    let bursts : bursts_at_end s (data_edges None edges) ≡ map good_burst frames = ap (bursts_at_end s) (same-line None edges) ∙ line-bursts s None messages edges h in
    let long : length places ≡ length frames =
    places-counted s None edges ∙ sym (at_end-counted s (data_edges None edges)) ∙ ap length bursts ∙ length-map frames good_burst in
    ap (told_at places) bursts ∙ free_told places frames (free_places s [] edges) (free-frames s messages edges h) long ∙ ap (map told_frame) (sym (all-told s messages edges))

-- ---- with slots: where the bursts begin
-- by an edge that begins one, and what was before
abbrev place_at : SyncWindows → SlotEdge → BurstPlace
place_at sync edge =
    if edge.change.level then place_in_slots edge.change.number (placed_in sync.windows edge.history edge.time)
    else (if has_sync edge.history then place.Free else place.Unread)

-- the time of the last of these edges
abbrev last_of_line : List NumberedEdge → Option ℕ
last_of_line [] = None
last_of_line (opening ∷ line) = Some (last_time opening.edge.time line)

last-pushed : (time : ℕ) (line : List NumberedEdge) (e : NumberedEdge) → last_time time (line ++ e ∷ []) ≡ e.edge.time
last-pushed time [] e = refl
last-pushed time (x ∷ line) e = last-pushed x.edge.time line e

last-line : (line : List NumberedEdge) (e : NumberedEdge) → last_of_line (line ++ e ∷ []) ≡ Some e.edge.time
last-line [] e = refl
last-line (opening ∷ line) e = ap (λ t. Some t) (last-pushed opening.edge.time line e)

one_start : (edge : Change) → starts_in (edge ∷ []) ≡ (if begins edge then edge.number ∷ [] else [])
unfolding starts_in
one_start edge = by_first (begins edge)
  where
    by_first : (b : Bool) → map (λ (c : Change). c.number) (cond b (edge ∷ []) []) ≡ (if b then edge.number ∷ [] else [])
    by_first true = refl
    by_first false = refl

-- an edge more begins a burst, where there was one before it and the interval is quiet
starts-first : (s : Settings) (line : List NumberedEdge) (e : NumberedEdge) → last_of_line line ≡ None → burst_starts s (line ++ e ∷ []) ≡ burst_starts s line ++ []
unfolding changes_of changes_after starts_in
starts-first s [] e none = refl
starts-first s (opening ∷ line) e none = absurd cc

starts-next : (s : Settings) (line : List NumberedEdge) (e : NumberedEdge) (last : ℕ) → last_of_line line ≡ Some last
    → burst_starts s (line ++ e ∷ []) ≡ burst_starts s line ++ (if begins (change_at s.bit last e) then e.number ∷ [] else [])
unfolding changes_of changes_after
starts-next s [] e last some = absurd cc
starts-next s (opening ∷ line) e last some =
    let at : last_time opening.edge.time line ≡ last = cc in
    ap starts_in (changes_after-append s.bit opening.edge.time line (e ∷ []))
    ∙ starts-append (changes_after s.bit opening.edge.time line) (change_at s.bit (last_time opening.edge.time line) e ∷ [])
    ∙ ap (λ t. burst_starts s (opening ∷ line) ++ starts_in (change_at s.bit t e ∷ [])) at
    ∙ ap (λ l. burst_starts s (opening ∷ line) ++ l) (one_start (change_at s.bit last e))

-- what was before
record WasBefore (s : Settings) (slots : SyncSlots) (before : List NumberedEdge) (opened : Bool) (history : List Event) (last : Option ℕ) : Type 0 where
  opened_is : has_sync_edge (Some slots) before ≡ opened
  history_is : slot_history s (Some slots) before ≡ history
  last_is : last_of_line (data_edges (Some slots) before) ≡ last

or_true : (b : Bool) → (b || true) ≡ true
or_true true = refl
or_true false = refl

or_false : (b : Bool) → (b || false) ≡ b
or_false true = refl
or_false false = refl

-- behind an edge of the sync line
pulse_event : (s : Settings) (slots : SyncSlots) (before : List NumberedEdge) (e : NumberedEdge) (opened : Bool) → is_on_sync (Some slots) e ≡ true → has_sync_edge (Some slots) before ≡ opened → slot_events s (Some slots) before e ≡ pulse_of opened e
unfolding slot_events
pulse_event s slots before e opened on is = rw (on, is) refl

behind-sync : (s : Settings) (slots : SyncSlots) (before : List NumberedEdge) (e : NumberedEdge) (opened : Bool) (history : List Event) (last : Option ℕ) → is_on_sync (Some slots) e ≡ true
    → WasBefore s slots before opened history last → WasBefore s slots (before ++ e ∷ []) true (history ++ pulse_of opened e) last
behind-sync s slots before e opened history last on was = record {
  opened_is = sync_edge-more (Some slots) before e ∙ ap (λ b. has_sync_edge (Some slots) before || b) on ∙ or_true (has_sync_edge (Some slots) before);
  history_is = history-more s (Some slots) before e ∙ ap₂ (λ a b. a ++ b) was.history_is (pulse_event s slots before e opened on was.opened_is);
  last_is = ap last_of_line (data-on (Some slots) before e on) ∙ was.last_is;
}

-- behind an edge of the data line, which begins these bursts
start_event : (s : Settings) (slots : SyncSlots) (before : List NumberedEdge) (e : NumberedEdge) (added : List ℕ) → is_on_sync (Some slots) e ≡ false → starts_added s (Some slots) before e ≡ added
    → slot_events s (Some slots) before e ≡ (if e.edge.level then map (λ number. Start e.edge.time) added else [])
unfolding slot_events
start_event s slots before e added off is = rw (off, is) refl

behind-data : (s : Settings) (slots : SyncSlots) (before : List NumberedEdge) (e : NumberedEdge) (opened : Bool) (history events : List Event) (last : Option ℕ) → is_on_sync (Some slots) e ≡ false
    → slot_events s (Some slots) before e ≡ events → WasBefore s slots before opened history last → WasBefore s slots (before ++ e ∷ []) opened (history ++ events) (Some e.edge.time)
behind-data s slots before e opened history events last off is was = record {
  opened_is = sync_edge-more (Some slots) before e ∙ ap (λ b. has_sync_edge (Some slots) before || b) off ∙ or_false (has_sync_edge (Some slots) before) ∙ was.opened_is;
  history_is = history-more s (Some slots) before e ∙ ap₂ (λ a b. a ++ b) was.history_is is;
  last_is = ap last_of_line (data-off (Some slots) before e off) ∙ last-line (data_edges (Some slots) before) e;
}

added-first : (s : Settings) (slots : SyncSlots) (before : List NumberedEdge) (e : NumberedEdge) → is_on_sync (Some slots) e ≡ false → last_of_line (data_edges (Some slots) before) ≡ None → starts_added s (Some slots) before e ≡ []
added-first s slots before e off none = added-off s (Some slots) before e [] off (starts-first s (data_edges (Some slots) before) e none)

added-next : (s : Settings) (slots : SyncSlots) (before : List NumberedEdge) (e : NumberedEdge) (last : ℕ) → is_on_sync (Some slots) e ≡ false → last_of_line (data_edges (Some slots) before) ≡ Some last
    → starts_added s (Some slots) before e ≡ (if begins (change_at s.bit last e) then e.number ∷ [] else [])
added-next s slots before e last off some = added-off s (Some slots) before e (if begins (change_at s.bit last e) then e.number ∷ [] else []) off (starts-next s (data_edges (Some slots) before) e last some)

no_events : (level : Bool) (e : NumberedEdge) → (if level then map {A = ℕ} (λ number. Start e.edge.time) [] else []) ≡ []
no_events true e = refl
no_events false e = refl

start_events : (first level : Bool) (e : NumberedEdge) → (if level then map (λ number. Start e.edge.time) (if first then e.number ∷ [] else []) else []) ≡ (if first && level then Start e.edge.time ∷ [] else [])
start_events true true e = refl
start_events true false e = refl
start_events false true e = refl
start_events false false e = refl

place_now : (s : Settings) (slots : SyncSlots) (before : List NumberedEdge) (e : NumberedEdge) (history : List Event) (sync : SyncWindows) (last : ℕ) → sync.windows ≡ slots.setup.windows → slot_history s (Some slots) before ≡ history
    → burst_place s (Some slots) before e ≡ place_at sync (slot_edge s.bit last history e)
unfolding burst_place
place_now s slots before e history sync last same is = rw (is, same) refl

-- the line and the windows of the slots
abbrev windows : SyncSlots → SyncWindows
windows slots = record { line = slots.line; windows = slots.setup.windows }

places-walked : (s : Settings) (slots : SyncSlots) (before edges : List NumberedEdge) (opened : Bool) (history : List Event) (last : Option ℕ) → WasBefore s slots before opened history last
    → places_after s (Some slots) before edges ≡ map (place_at (windows slots)) (starting (slot_edges_after s.bit (windows slots) opened history last edges))
unfolding places_after slot_edges_after
places-walked s slots before [] opened history last was = refl
places-walked s slots before (e ∷ edges) opened history None was =
    by_line (is_on_sync (Some slots) e) refl
    (λ on. places-walked s slots (before ++ e ∷ []) edges true (history ++ pulse_of opened e) None (behind-sync s slots before e opened history None on was))
    (λ off. places-walked s slots (before ++ e ∷ []) edges opened history (Some e.edge.time) (first_edge off))
  where
    none_added : is_on_sync (Some slots) e ≡ false → starts_added s (Some slots) before e ≡ []
    none_added off = added-first s slots before e off was.last_is

    first_edge : is_on_sync (Some slots) e ≡ false → WasBefore s slots (before ++ e ∷ []) opened history (Some e.edge.time)
    first_edge off = subst (λ (l : List Event). WasBefore s slots (before ++ e ∷ []) opened l (Some e.edge.time)) (append-nil history)
        (behind-data s slots before e opened history [] None off (start_event s slots before e [] off (none_added off) ∙ no_events e.edge.level e) was)

    by_line : (b : Bool) → is_on_sync (Some slots) e ≡ b
        → (is_on_sync (Some slots) e ≡ true → places_after s (Some slots) (before ++ e ∷ []) edges ≡ map (place_at (windows slots)) (starting (slot_edges_after s.bit (windows slots) true (history ++ pulse_of opened e) None edges)))
        → (is_on_sync (Some slots) e ≡ false → places_after s (Some slots) (before ++ e ∷ []) edges ≡ map (place_at (windows slots)) (starting (slot_edges_after s.bit (windows slots) opened history (Some e.edge.time) edges)))
        → map (λ number. burst_place s (Some slots) before e) (starts_added s (Some slots) before e) ++ places_after s (Some slots) (before ++ e ∷ []) edges
        ≡ map (place_at (windows slots)) (starting (if b then slot_edges_after s.bit (windows slots) true (history ++ pulse_of opened e) None edges else slot_edges_after s.bit (windows slots) opened history (Some e.edge.time) edges))
    by_line true is on off = ap (λ l. map (λ number. burst_place s (Some slots) before e) l ++ places_after s (Some slots) (before ++ e ∷ []) edges) (added-on s (Some slots) before e is) ∙ on is
    by_line false is on off = ap (λ l. map (λ number. burst_place s (Some slots) before e) l ++ places_after s (Some slots) (before ++ e ∷ []) edges) (none_added is) ∙ off is
places-walked s slots before (e ∷ edges) opened history (Some last) was =
    by_line (is_on_sync (Some slots) e) refl
    (λ on. places-walked s slots (before ++ e ∷ []) edges true (history ++ pulse_of opened e) (Some last) (behind-sync s slots before e opened history (Some last) on was))
    (λ off. places-walked s slots (before ++ e ∷ []) edges opened (history ++ start_of (slot_edge s.bit last history e)) (Some e.edge.time) (next_edge off))
  where
    now : SlotEdge
    now = slot_edge s.bit last history e

    added : is_on_sync (Some slots) e ≡ false → starts_added s (Some slots) before e ≡ (if begins (change_at s.bit last e) then e.number ∷ [] else [])
    added off = added-next s slots before e last off was.last_is

    next_edge : is_on_sync (Some slots) e ≡ false → WasBefore s slots (before ++ e ∷ []) opened (history ++ start_of now) (Some e.edge.time)
    next_edge off = behind-data s slots before e opened history (start_of now) (Some last) off
        (start_event s slots before e (if begins (change_at s.bit last e) then e.number ∷ [] else []) off (added off) ∙ start_events (begins (change_at s.bit last e)) e.edge.level e) was

    here : (b : Bool) (rest : List SlotEdge) → map (λ number. burst_place s (Some slots) before e) (if b then e.number ∷ [] else []) ++ map (place_at (windows slots)) (starting rest)
        ≡ map (place_at (windows slots)) (cond b (now ∷ starting rest) (starting rest))
    here true rest = ap (λ p. p ∷ map (place_at (windows slots)) (starting rest)) (place_now s slots before e history (windows slots) last refl was.history_is)
    here false rest = refl

    by_line : (b : Bool) → is_on_sync (Some slots) e ≡ b
        → (is_on_sync (Some slots) e ≡ true → places_after s (Some slots) (before ++ e ∷ []) edges ≡ map (place_at (windows slots)) (starting (slot_edges_after s.bit (windows slots) true (history ++ pulse_of opened e) (Some last) edges)))
        → (is_on_sync (Some slots) e ≡ false → places_after s (Some slots) (before ++ e ∷ []) edges ≡ map (place_at (windows slots)) (starting (slot_edges_after s.bit (windows slots) opened (history ++ start_of now) (Some e.edge.time) edges)))
        → map (λ number. burst_place s (Some slots) before e) (starts_added s (Some slots) before e) ++ places_after s (Some slots) (before ++ e ∷ []) edges
        ≡ map (place_at (windows slots)) (starting (if b then slot_edges_after s.bit (windows slots) true (history ++ pulse_of opened e) (Some last) edges
        else now ∷ slot_edges_after s.bit (windows slots) opened (history ++ start_of now) (Some e.edge.time) edges))
    by_line true is on off = ap (λ l. map (λ number. burst_place s (Some slots) before e) l ++ places_after s (Some slots) (before ++ e ∷ []) edges) (added-on s (Some slots) before e is) ∙ on is
    by_line false is on off =
        ap₂ (λ l r. map (λ number. burst_place s (Some slots) before e) l ++ r) (added is) (off is)
        ∙ here (begins (change_at s.bit last e)) (slot_edges_after s.bit (windows slots) opened (history ++ start_of now) (Some e.edge.time) edges)

none_before : (s : Settings) (slots : SyncSlots) → WasBefore s slots [] false [] None
unfolding has_sync_edge
none_before s slots = record { opened_is = refl; history_is = history-none s (Some slots); last_is = ap last_of_line (no-data (Some slots)) }

-- ---- with slots: what is told
one-place : (sync : SyncWindows) (edge : SlotEdge) (f : HeardFrame) (h : IsPlaced sync.windows edge f) → place_at sync edge ≡ (if f.is_told then place.Slot h.slot else place.Unread)
one-place sync edge f h = rw (h.rises, h.place) (by_told f.is_told)
  where
    by_told : (b : Bool) → place_in_slots edge.change.number (if b then placed.Slot h.slot else placed.Before) ≡ (if b then place.Slot h.slot else place.Unread)
    by_told true = refl
    by_told false = refl

one_told : (f : HeardFrame) (slot : ℕ) (rest : List HeardFrame) (b : Bool) → f.slot ≡ Some slot → told_of (if b then place.Slot slot else place.Unread) (good_burst f) ++ map told_frame rest ≡ map told_frame (cond b (f ∷ rest) rest)
one_told f slot rest true is = ap (λ o. told.Good f.last o f.payload ∷ map told_frame rest) (sym is)
one_told f slot rest false is = refl

told-placed : (sync : SyncWindows) (edges : List SlotEdge) (frames : List HeardFrame) → AllZip (IsPlaced sync.windows) edges frames
    → told_at (map (place_at sync) edges) (map good_burst frames) ≡ map told_frame (filter (λ (f : HeardFrame). f.is_told) frames)
unfolding told_at
told-placed sync [] [] h = refl
told-placed sync [] (f ∷ frames) h = absurd h
told-placed sync (edge ∷ edges) [] h = absurd h
told-placed sync (edge ∷ edges) (f ∷ frames) h =
    ap₂ (λ p l. told_of p (good_burst f) ++ l) (one-place sync edge f h.0) (told-placed sync edges frames h.1)
    ∙ one_told f h.0.slot (filter (λ (g : HeardFrame). g.is_told) frames) f.is_told h.0.slot_is

told-slots : (s : Settings) (slots : SyncSlots) (messages : List Psi5Message) (edges : List NumberedEdge) → IsHonest s (Some (windows slots)) messages edges
    → told_at_end s (Some slots) edges ≡ map told_frame (from_first s (Some (windows slots)) messages edges)
unfolding told_at_end
told-slots s slots messages edges h =
    ap₂ told_at (places-walked s slots [] edges false [] None (none_before s slots)) (ap (bursts_at_end s) (same-line (Some slots) edges) ∙ line-bursts s (Some (windows slots)) messages edges h)
    ∙ told-placed (windows slots) (slot_starts s (windows slots) edges) (heard_of s (Some (windows slots)) messages edges) (placed-line s (windows slots) messages edges h)

-- what is told of an honest trace are its frames, from the first on
pub honest-told : (s : Settings) (slots : Option SyncSlots) (messages : List Psi5Message) (edges : List NumberedEdge) → IsHonest s (windows_of slots) messages edges
    → told_at_end s slots edges ≡ map told_frame (from_first s (windows_of slots) messages edges)
honest-told s None messages edges h = told-free s messages edges h
honest-told s (Some slots) messages edges h = told-slots s slots messages edges h

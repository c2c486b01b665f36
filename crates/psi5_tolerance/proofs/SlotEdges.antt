-- The edges of the data line with what the slots were told before each.
--     measured-line      they are the edges of the data line
--     follow-line      from each to the next, sync pulses come in between
--     stand-line      the sync pulses before each are the first of those that are recorded, and the others come later
--     told-line      whether a sync pulse was recorded before each
use Rattle.std.proofs.Common.{◌≡◌, ℕ, ◌≤◌, Bool, true, false, ◌&&◌, ◌||◌, not, cond, if◌then◌else◌, None, Some, List, [], ◌∷◌, ◌++◌, map, drop, refl, sym, ◌∙◌, ap, ap₂, subst, append_assoc, append-nil, arith}
use Rattle.std.specs.List.{filter}
use Rattle.std.proofs.lemmas.List.{map-append}
use Rattle.line_base.specs.Edges.{NumberedEdge}
use Rattle.psi5_frame.specs.Edges.{Change, change_at, changes_after}
use Rattle.psi5_frame.specs.Bursts.{begins}
use Rattle.psi5_slots.specs.History.{Event, has_sync}
use Rattle.psi5_slots.specs.History.Event.{Sync, Start}
use Rattle.psi5_tolerance.specs.Lines.{SyncWindows, is_on_sync, data_edges, sync_edges, rises_of, times_of, IsNotBefore, AreInOrder, synced_after}
use Rattle.psi5_tolerance.specs.Places.{SlotEdge, pulse_of, start_of, slot_edge, slot_edges_after}
use Rattle.psi5_tolerance.proofs.Pulses.{pulses_in, pulses-append}

-- ---- they are the edges of the data line
-- each is the edge of the line at its place, where the edge before them was at this time
abbrev pub AreMeasured : ℕ → ℕ → List NumberedEdge → List SlotEdge → Type 0
AreMeasured bit time [] [] = Unit {0}
AreMeasured bit time [] (edge ∷ edges) = ⊥
AreMeasured bit time (e ∷ line) [] = ⊥
AreMeasured bit time (e ∷ line) (edge ∷ edges) = (edge.change ≡ change_at bit time e) × (edge.time ≡ e.edge.time) × AreMeasured bit e.edge.time line edges

abbrev pub AreMeasuredOf : ℕ → List NumberedEdge → List SlotEdge → Type 0
AreMeasuredOf bit [] edges = edges ≡ []
AreMeasuredOf bit (opening ∷ line) edges = AreMeasured bit opening.edge.time line edges

measured-after : (bit : ℕ) (sync : SyncWindows) (opened : Bool) (history : List Event) (time : ℕ) (edges : List NumberedEdge)
    → AreMeasured bit time (data_edges (Some sync) edges) (slot_edges_after bit sync opened history (Some time) edges)
unfolding slot_edges_after
measured-after bit sync opened history time [] = tt
measured-after bit sync opened history time (e ∷ edges) =
    by_line (is_on_sync (Some sync) e) (measured-after bit sync true (history ++ pulse_of opened e) time edges)
    (measured-after bit sync opened (history ++ start_of (slot_edge bit time history e)) e.edge.time edges)
  where
    by_line : (b : Bool) → AreMeasured bit time (data_edges (Some sync) edges) (slot_edges_after bit sync true (history ++ pulse_of opened e) (Some time) edges)
        → AreMeasured bit e.edge.time (data_edges (Some sync) edges) (slot_edges_after bit sync opened (history ++ start_of (slot_edge bit time history e)) (Some e.edge.time) edges)
        → AreMeasured bit time (cond (not b) (e ∷ data_edges (Some sync) edges) (data_edges (Some sync) edges))
        (cond b (slot_edges_after bit sync true (history ++ pulse_of opened e) (Some time) edges)
        (slot_edge bit time history e ∷ slot_edges_after bit sync opened (history ++ start_of (slot_edge bit time history e)) (Some e.edge.time) edges))
    by_line true on off = on
    by_line false on off = (refl, refl, off)

pub measured-line : (bit : ℕ) (sync : SyncWindows) (opened : Bool) (history : List Event) (edges : List NumberedEdge)
    → AreMeasuredOf bit (data_edges (Some sync) edges) (slot_edges_after bit sync opened history None edges)
unfolding slot_edges_after
measured-line bit sync opened history [] = refl
measured-line bit sync opened history (e ∷ edges) =
    by_line (is_on_sync (Some sync) e) (measured-line bit sync true (history ++ pulse_of opened e) edges) (measured-after bit sync opened history e.edge.time edges)
  where
    by_line : (b : Bool) → AreMeasuredOf bit (data_edges (Some sync) edges) (slot_edges_after bit sync true (history ++ pulse_of opened e) None edges)
        → AreMeasured bit e.edge.time (data_edges (Some sync) edges) (slot_edges_after bit sync opened history (Some e.edge.time) edges)
        → AreMeasuredOf bit (cond (not b) (e ∷ data_edges (Some sync) edges) (data_edges (Some sync) edges))
        (cond b (slot_edges_after bit sync true (history ++ pulse_of opened e) None edges) (slot_edges_after bit sync opened history (Some e.edge.time) edges))
    by_line true on off = on
    by_line false on off = off

-- the changes that they are
abbrev pub changes_in : List SlotEdge → List Change
changes_in edges = map (λ (edge : SlotEdge). edge.change) edges

pub measured-changes : (bit time : ℕ) (line : List NumberedEdge) (edges : List SlotEdge) → AreMeasured bit time line edges → changes_after bit time line ≡ changes_in edges
unfolding changes_after
measured-changes bit time [] [] measured = refl
measured-changes bit time [] (edge ∷ edges) measured = absurd measured
measured-changes bit time (e ∷ line) [] measured = absurd measured
measured-changes bit time (e ∷ line) (edge ∷ edges) measured = ap₂ (λ x l. x ∷ l) (sym measured.0) (measured-changes bit e.edge.time line edges measured.2)

-- ---- what comes in between
pub record IsBetween (before after : List Event) : Type 0 where
  pub pulses : List ℕ
  pub is : after ≡ before ++ map (λ time. Sync time) pulses

-- from each to the next, and from this history to the first, sync pulses come in between
abbrev pub Follow : List Event → List SlotEdge → Type 0
Follow history [] = Unit {0}
Follow history (edge ∷ edges) = IsBetween history edge.history × Follow (edge.history ++ start_of edge) edges

pulse_between : (opened : Bool) (history : List Event) (e : NumberedEdge) → IsBetween history (history ++ pulse_of opened e)
pulse_between opened history e = by_rise (e.edge.level && opened)
  where
    by_rise : (b : Bool) → IsBetween history (history ++ (if b then Sync e.edge.time ∷ [] else []))
    by_rise true = record { pulses = e.edge.time ∷ []; is = refl }
    by_rise false = record { pulses = []; is = refl }

follow-from : (before after : List Event) (edges : List SlotEdge) → IsBetween before after → Follow after edges → Follow before edges
follow-from before after [] between follow = tt
follow-from before after (edge ∷ edges) between follow = (
  record {
    pulses = between.pulses ++ follow.0.pulses;
    is = follow.0.is ∙ ap (λ l. l ++ map (λ time. Sync time) follow.0.pulses) between.is
        ∙ append_assoc before (map (λ time. Sync time) between.pulses) (map (λ time. Sync time) follow.0.pulses)
        ∙ ap (λ l. before ++ l) (sym (map-append (λ time. Sync time) between.pulses follow.0.pulses));
  },
  follow.1,
)

follow-after : (bit : ℕ) (sync : SyncWindows) (opened : Bool) (history : List Event) (time : ℕ) (edges : List NumberedEdge) → Follow history (slot_edges_after bit sync opened history (Some time) edges)
unfolding slot_edges_after
follow-after bit sync opened history time [] = tt
follow-after bit sync opened history time (e ∷ edges) =
    by_line (is_on_sync (Some sync) e) (follow-after bit sync true (history ++ pulse_of opened e) time edges)
    (follow-after bit sync opened (history ++ start_of (slot_edge bit time history e)) e.edge.time edges)
  where
    by_line : (b : Bool) → Follow (history ++ pulse_of opened e) (slot_edges_after bit sync true (history ++ pulse_of opened e) (Some time) edges)
        → Follow (history ++ start_of (slot_edge bit time history e)) (slot_edges_after bit sync opened (history ++ start_of (slot_edge bit time history e)) (Some e.edge.time) edges)
        → Follow history (cond b (slot_edges_after bit sync true (history ++ pulse_of opened e) (Some time) edges)
        (slot_edge bit time history e ∷ slot_edges_after bit sync opened (history ++ start_of (slot_edge bit time history e)) (Some e.edge.time) edges))
    by_line true on off = follow-from history (history ++ pulse_of opened e) (slot_edges_after bit sync true (history ++ pulse_of opened e) (Some time) edges) (pulse_between opened history e) on
    by_line false on off = (record { pulses = []; is = sym (append-nil history) }, off)

pub follow-line : (bit : ℕ) (sync : SyncWindows) (opened : Bool) (history : List Event) (edges : List NumberedEdge) → Follow history (slot_edges_after bit sync opened history None edges)
unfolding slot_edges_after
follow-line bit sync opened history [] = tt
follow-line bit sync opened history (e ∷ edges) =
    by_line (is_on_sync (Some sync) e) (follow-line bit sync true (history ++ pulse_of opened e) edges) (follow-after bit sync opened history e.edge.time edges)
  where
    by_line : (b : Bool) → Follow (history ++ pulse_of opened e) (slot_edges_after bit sync true (history ++ pulse_of opened e) None edges)
        → Follow history (slot_edges_after bit sync opened history (Some e.edge.time) edges)
        → Follow history (cond b (slot_edges_after bit sync true (history ++ pulse_of opened e) None edges) (slot_edges_after bit sync opened history (Some e.edge.time) edges))
    by_line true on off = follow-from history (history ++ pulse_of opened e) (slot_edges_after bit sync true (history ++ pulse_of opened e) None edges) (pulse_between opened history e) on
    by_line false on off = off

-- ---- sync pulses before each
-- the rises of the sync line, where it had an edge before, or not
abbrev pub rises_after : SyncWindows → Bool → List NumberedEdge → List ℕ
rises_after sync opened [] = []
rises_after sync opened (e ∷ edges) = if is_on_sync (Some sync) e then (if e.edge.level && opened then e.edge.time ∷ [] else []) ++ rises_after sync true edges else rises_after sync opened edges

rises-open : (sync : SyncWindows) (edges : List NumberedEdge) → rises_after sync true edges ≡ times_of (filter (λ (e : NumberedEdge). e.edge.level) (sync_edges (Some sync) edges))
rises-open sync [] = refl
rises-open sync (e ∷ edges) = by_line (is_on_sync (Some sync) e) e.edge.level (rises-open sync edges)
  where
    later : List NumberedEdge
    later = sync_edges (Some sync) edges

    by_level : (level : Bool) → (if level && true then e.edge.time ∷ [] else []) ++ times_of (filter (λ (x : NumberedEdge). x.edge.level) later)
        ≡ times_of (cond level (e ∷ filter (λ (x : NumberedEdge). x.edge.level) later) (filter (λ (x : NumberedEdge). x.edge.level) later))
    by_level true = refl
    by_level false = refl

    by_line : (b : Bool) (level : Bool) → rises_after sync true edges ≡ times_of (filter (λ (x : NumberedEdge). x.edge.level) later)
        → cond b ((if e.edge.level && true then e.edge.time ∷ [] else []) ++ rises_after sync true edges) (rises_after sync true edges)
        ≡ times_of (filter (λ (x : NumberedEdge). x.edge.level) (cond b (e ∷ later) later))
    by_line true level rest = ap (λ l. (if e.edge.level && true then e.edge.time ∷ [] else []) ++ l) rest ∙ by_level e.edge.level
    by_line false level rest = rest

never_both : (b : Bool) → (b && false) ≡ false
never_both true = refl
never_both false = refl

pub rises-line : (sync : SyncWindows) (edges : List NumberedEdge) → rises_after sync false edges ≡ times_of (rises_of (sync_edges (Some sync) edges))
rises-line sync [] = refl
rises-line sync (e ∷ edges) = by_line (is_on_sync (Some sync) e) (rises-line sync edges)
  where
    by_line : (b : Bool) → rises_after sync false edges ≡ times_of (rises_of (sync_edges (Some sync) edges))
        → cond b ((if e.edge.level && false then e.edge.time ∷ [] else []) ++ rises_after sync true edges) (rises_after sync false edges)
        ≡ times_of (rises_of (cond b (e ∷ sync_edges (Some sync) edges) (sync_edges (Some sync) edges)))
    by_line true rest = rw (never_both e.edge.level) (rises-open sync edges)
    by_line false rest = rest

-- these times are at most this one, or at least
abbrev pub AreUpTo : ℕ → List ℕ → Type 0
AreUpTo time [] = Unit {0}
AreUpTo time (x ∷ times) = (x ≤ time) × AreUpTo time times

abbrev pub AreFrom : ℕ → List ℕ → Type 0
AreFrom time [] = Unit {0}
AreFrom time (x ∷ times) = (time ≤ x) × AreFrom time times

up_to-later : (time later : ℕ) (times : List ℕ) → time ≤ later → AreUpTo time times → AreUpTo later times
up_to-later time later [] le are = tt
up_to-later time later (x ∷ times) le are = (omega (arith, are.0, le), up_to-later time later times le are.1)

up_to-append : (time : ℕ) (xs ys : List ℕ) → AreUpTo time xs → AreUpTo time ys → AreUpTo time (xs ++ ys)
up_to-append time [] ys front back = back
up_to-append time (x ∷ xs) ys front back = (front.0, up_to-append time xs ys front.1 back)

-- no rise is earlier than the first of these edges
rises-from : (sync : SyncWindows) (opened : Bool) (time : ℕ) (edges : List NumberedEdge) → IsNotBefore time edges → AreInOrder edges → AreFrom time (rises_after sync opened edges)
rises-from sync opened time [] first order = tt
rises-from sync opened time (e ∷ edges) first order =
    by_line (is_on_sync (Some sync) e) (e.edge.level && opened) (rises-from sync true time edges (later edges order.0) order.1) (rises-from sync opened time edges (later edges order.0) order.1)
  where
    later : (rest : List NumberedEdge) → IsNotBefore e.edge.time rest → IsNotBefore time rest
    later [] next = tt
    later (x ∷ rest) next = omega (arith, next, first)

    by_line : (b rise : Bool) → AreFrom time (rises_after sync true edges) → AreFrom time (rises_after sync opened edges)
        → AreFrom time (cond b ((if rise then e.edge.time ∷ [] else []) ++ rises_after sync true edges) (rises_after sync opened edges))
    by_line true true on off = (first, on)
    by_line true false on off = on
    by_line false rise on off = off

-- the sync pulses before an edge are the first of these, and it is no earlier than they are and no later than the others
pub record StandsIn (pulses : List ℕ) (edge : SlotEdge) : Type 0 where
  pub later : List ℕ
  pub is : pulses_in edge.history ++ later ≡ pulses
  pub past : AreUpTo edge.time (pulses_in edge.history)
  pub coming : AreFrom edge.time later

abbrev pub AllStandIn : List ℕ → List SlotEdge → Type 0
AllStandIn pulses [] = Unit {0}
AllStandIn pulses (edge ∷ edges) = StandsIn pulses edge × AllStandIn pulses edges

pulse_times : (opened : Bool) (history : List Event) (e : NumberedEdge) → pulses_in (history ++ pulse_of opened e) ≡ pulses_in history ++ (if e.edge.level && opened then e.edge.time ∷ [] else [])
pulse_times opened history e = pulses-append history (pulse_of opened e) ∙ ap (λ l. pulses_in history ++ l) (by_rise (e.edge.level && opened))
  where
    by_rise : (b : Bool) → pulses_in (if b then Sync e.edge.time ∷ [] else []) ≡ (if b then e.edge.time ∷ [] else [])
    by_rise true = refl
    by_rise false = refl

pub start_times : (history : List Event) (edge : SlotEdge) → pulses_in (history ++ start_of edge) ≡ pulses_in history
start_times history edge = pulses-append history (start_of edge) ∙ ap (λ l. pulses_in history ++ l) (by_start (begins edge.change && edge.change.level)) ∙ append-nil (pulses_in history)
  where
    by_start : (b : Bool) → pulses_in (if b then Start edge.time ∷ [] else []) ≡ []
    by_start true = refl
    by_start false = refl

pulse_up_to : (opened : Bool) (history : List Event) (time : ℕ) (e : NumberedEdge) → time ≤ e.edge.time → AreUpTo time (pulses_in history) → AreUpTo e.edge.time (pulses_in (history ++ pulse_of opened e))
pulse_up_to opened history time e le past =
    subst (λ (l : List ℕ). AreUpTo e.edge.time l) (sym (pulse_times opened history e))
    (up_to-append e.edge.time (pulses_in history) (if e.edge.level && opened then e.edge.time ∷ [] else []) (up_to-later time e.edge.time (pulses_in history) le past) (by_rise (e.edge.level && opened)))
  where
    by_rise : (b : Bool) → AreUpTo e.edge.time (if b then e.edge.time ∷ [] else [])
    by_rise true = (omega arith, tt)
    by_rise false = tt

-- what is needed at each step
record IsAt (pulses : List ℕ) (sync : SyncWindows) (opened : Bool) (history : List Event) (time : ℕ) (edges : List NumberedEdge) : Type 0 where
  whole : pulses_in history ++ rises_after sync opened edges ≡ pulses
  past : AreUpTo time (pulses_in history)
  next : IsNotBefore time edges
  order : AreInOrder edges

at-sync : (pulses : List ℕ) (sync : SyncWindows) (opened : Bool) (history : List Event) (time : ℕ) (e : NumberedEdge) (edges : List NumberedEdge) → is_on_sync (Some sync) e ≡ true → IsAt pulses sync opened history time (e ∷ edges)
    → IsAt pulses sync true (history ++ pulse_of opened e) e.edge.time edges
at-sync pulses sync opened history time e edges on at = record {
  whole = ap (λ l. l ++ rises_after sync true edges) (pulse_times opened history e)
      ∙ append_assoc (pulses_in history) (if e.edge.level && opened then e.edge.time ∷ [] else []) (rises_after sync true edges)
      ∙ (rw on at at.whole);
  past = pulse_up_to opened history time e at.next at.past;
  next = at.order.0;
  order = at.order.1;
}

at-data : (pulses : List ℕ) (sync : SyncWindows) (opened : Bool) (history more : List Event) (time : ℕ) (e : NumberedEdge) (edges : List NumberedEdge) → is_on_sync (Some sync) e ≡ false → pulses_in more ≡ pulses_in history
    → IsAt pulses sync opened history time (e ∷ edges) → IsAt pulses sync opened more e.edge.time edges
at-data pulses sync opened history more time e edges off same at = record {
  whole = ap (λ l. l ++ rises_after sync opened edges) same ∙ (rw off at at.whole);
  past = subst (λ (l : List ℕ). AreUpTo e.edge.time l) (sym same) (up_to-later time e.edge.time (pulses_in history) at.next at.past);
  next = at.order.0;
  order = at.order.1;
}

stands-data : (pulses : List ℕ) (sync : SyncWindows) (opened : Bool) (history : List Event) (bit last time : ℕ) (e : NumberedEdge) (edges : List NumberedEdge) → is_on_sync (Some sync) e ≡ false
    → IsAt pulses sync opened history time (e ∷ edges) → StandsIn pulses (slot_edge bit last history e)
stands-data pulses sync opened history bit last time e edges off at = record {
  later = rises_after sync opened edges;
  is = rw off at at.whole;
  past = up_to-later time e.edge.time (pulses_in history) at.next at.past;
  coming = rises-from sync opened e.edge.time edges at.order.0 at.order.1;
}

stand-after : (pulses : List ℕ) (bit : ℕ) (sync : SyncWindows) (opened : Bool) (history : List Event) (last time : ℕ) (edges : List NumberedEdge) → IsAt pulses sync opened history time edges
    → AllStandIn pulses (slot_edges_after bit sync opened history (Some last) edges)
unfolding slot_edges_after
stand-after pulses bit sync opened history last time [] at = tt
stand-after pulses bit sync opened history last time (e ∷ edges) at =
    by_line (is_on_sync (Some sync) e) refl (λ on. stand-after pulses bit sync true (history ++ pulse_of opened e) last e.edge.time edges (at-sync pulses sync opened history time e edges on at))
    (λ off. stand-after pulses bit sync opened (history ++ start_of (slot_edge bit last history e)) e.edge.time e.edge.time edges
    (at-data pulses sync opened history (history ++ start_of (slot_edge bit last history e)) time e edges off (start_times history (slot_edge bit last history e)) at))
  where
    by_line : (b : Bool) → is_on_sync (Some sync) e ≡ b → (is_on_sync (Some sync) e ≡ true → AllStandIn pulses (slot_edges_after bit sync true (history ++ pulse_of opened e) (Some last) edges))
        → (is_on_sync (Some sync) e ≡ false → AllStandIn pulses (slot_edges_after bit sync opened (history ++ start_of (slot_edge bit last history e)) (Some e.edge.time) edges))
        → AllStandIn pulses (cond b (slot_edges_after bit sync true (history ++ pulse_of opened e) (Some last) edges)
        (slot_edge bit last history e ∷ slot_edges_after bit sync opened (history ++ start_of (slot_edge bit last history e)) (Some e.edge.time) edges))
    by_line true is on off = on is
    by_line false is on off = (stands-data pulses sync opened history bit last time e edges is at, off is)

stand-before : (pulses : List ℕ) (bit : ℕ) (sync : SyncWindows) (opened : Bool) (history : List Event) (time : ℕ) (edges : List NumberedEdge) → IsAt pulses sync opened history time edges
    → AllStandIn pulses (slot_edges_after bit sync opened history None edges)
unfolding slot_edges_after
stand-before pulses bit sync opened history time [] at = tt
stand-before pulses bit sync opened history time (e ∷ edges) at =
    by_line (is_on_sync (Some sync) e) refl (λ on. stand-before pulses bit sync true (history ++ pulse_of opened e) e.edge.time edges (at-sync pulses sync opened history time e edges on at))
    (λ off. stand-after pulses bit sync opened history e.edge.time e.edge.time edges (at-data pulses sync opened history history time e edges off refl at))
  where
    by_line : (b : Bool) → is_on_sync (Some sync) e ≡ b → (is_on_sync (Some sync) e ≡ true → AllStandIn pulses (slot_edges_after bit sync true (history ++ pulse_of opened e) None edges))
        → (is_on_sync (Some sync) e ≡ false → AllStandIn pulses (slot_edges_after bit sync opened history (Some e.edge.time) edges))
        → AllStandIn pulses (cond b (slot_edges_after bit sync true (history ++ pulse_of opened e) None edges) (slot_edges_after bit sync opened history (Some e.edge.time) edges))
    by_line true is on off = on is
    by_line false is on off = off is

not_before : (edges : List NumberedEdge) → IsNotBefore 0 edges
not_before [] = tt
not_before (e ∷ edges) = omega arith

pub stand-line : (bit : ℕ) (sync : SyncWindows) (edges : List NumberedEdge) → AreInOrder edges → AllStandIn (rises_after sync false edges) (slot_edges_after bit sync false [] None edges)
stand-line bit sync edges order = stand-before (rises_after sync false edges) bit sync false [] 0 edges (record { whole = refl; past = tt; next = not_before edges; order = order })

-- ---- whether a sync pulse was before each
abbrev pub told_in : List SlotEdge → List Bool
told_in edges = map (λ (edge : SlotEdge). has_sync edge.history) edges

has-append : (xs ys : List Event) → has_sync (xs ++ ys) ≡ (has_sync xs || has_sync ys)
has-append [] ys = refl
has-append (Sync time ∷ xs) ys = refl
has-append (Start time ∷ xs) ys = has-append xs ys

or_none : (b : Bool) → (b || false) ≡ b
or_none true = refl
or_none false = refl

has_pulse : (opened : Bool) (history : List Event) (e : NumberedEdge) → (has_sync history || (e.edge.level && opened)) ≡ has_sync (history ++ pulse_of opened e)
has_pulse opened history e = sym (has-append history (pulse_of opened e) ∙ ap (λ b. has_sync history || b) (by_rise (e.edge.level && opened)))
  where
    by_rise : (b : Bool) → has_sync (if b then Sync e.edge.time ∷ [] else []) ≡ b
    by_rise true = refl
    by_rise false = refl

has_start : (history : List Event) (edge : SlotEdge) → has_sync history ≡ has_sync (history ++ start_of edge)
has_start history edge = sym (has-append history (start_of edge) ∙ ap (λ b. has_sync history || b) (by_start (begins edge.change && edge.change.level)) ∙ or_none (has_sync history))
  where
    by_start : (b : Bool) → has_sync (if b then Start edge.time ∷ [] else []) ≡ false
    by_start true = refl
    by_start false = refl

told-after : (bit : ℕ) (sync : SyncWindows) (opened synced : Bool) (history : List Event) (last : ℕ) (edges : List NumberedEdge) → synced ≡ has_sync history
    → synced_after (Some sync) opened synced edges ≡ told_in (slot_edges_after bit sync opened history (Some last) edges)
unfolding slot_edges_after synced_after
told-after bit sync opened synced history last [] same = refl
told-after bit sync opened synced history last (e ∷ edges) same =
    by_line (is_on_sync (Some sync) e)
    (told-after bit sync true (synced || (e.edge.level && opened)) (history ++ pulse_of opened e) last edges (ap (λ b. b || (e.edge.level && opened)) same ∙ has_pulse opened history e))
    (told-after bit sync opened synced (history ++ start_of (slot_edge bit last history e)) e.edge.time edges (same ∙ has_start history (slot_edge bit last history e)))
  where
    by_line : (b : Bool) → synced_after (Some sync) true (synced || (e.edge.level && opened)) edges ≡ told_in (slot_edges_after bit sync true (history ++ pulse_of opened e) (Some last) edges)
        → synced_after (Some sync) opened synced edges ≡ told_in (slot_edges_after bit sync opened (history ++ start_of (slot_edge bit last history e)) (Some e.edge.time) edges)
        → cond b (synced_after (Some sync) true (synced || (e.edge.level && opened)) edges) (synced ∷ synced_after (Some sync) opened synced edges)
        ≡ told_in (cond b (slot_edges_after bit sync true (history ++ pulse_of opened e) (Some last) edges)
        (slot_edge bit last history e ∷ slot_edges_after bit sync opened (history ++ start_of (slot_edge bit last history e)) (Some e.edge.time) edges))
    by_line true on off = on
    by_line false on off = ap₂ (λ x l. x ∷ l) same off

pub told-line : (bit : ℕ) (sync : SyncWindows) (opened synced : Bool) (history : List Event) (edges : List NumberedEdge) → synced ≡ has_sync history
    → drop 1 (synced_after (Some sync) opened synced edges) ≡ told_in (slot_edges_after bit sync opened history None edges)
unfolding slot_edges_after synced_after
told-line bit sync opened synced history [] same = refl
told-line bit sync opened synced history (e ∷ edges) same =
    by_line (is_on_sync (Some sync) e)
    (told-line bit sync true (synced || (e.edge.level && opened)) (history ++ pulse_of opened e) edges (ap (λ b. b || (e.edge.level && opened)) same ∙ has_pulse opened history e))
    (told-after bit sync opened synced history e.edge.time edges same)
  where
    by_line : (b : Bool) → drop 1 (synced_after (Some sync) true (synced || (e.edge.level && opened)) edges) ≡ told_in (slot_edges_after bit sync true (history ++ pulse_of opened e) None edges)
        → synced_after (Some sync) opened synced edges ≡ told_in (slot_edges_after bit sync opened history (Some e.edge.time) edges)
        → drop 1 (cond b (synced_after (Some sync) true (synced || (e.edge.level && opened)) edges) (synced ∷ synced_after (Some sync) opened synced edges))
        ≡ told_in (cond b (slot_edges_after bit sync true (history ++ pulse_of opened e) None edges) (slot_edges_after bit sync opened history (Some e.edge.time) edges))
    by_line true on off = on
    by_line false on off = off

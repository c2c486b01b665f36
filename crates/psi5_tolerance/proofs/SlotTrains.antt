-- Where the frames of a train with slots begin, all of whose edges are recorded.
--     frame_placed      one frame
--     slots_heard      all of them
use Rattle.std.proofs.Common.{◌≡◌, ℕ, suc, ◌+◌, ◌-◌, ◌*◌, ◌≤◌, ◌<◌, Bool, true, false, ◌&&◌, cond, if◌then◌else◌, Option, Some, List, [], ◌∷◌, ◌++◌, length, map, drop, refl, sym, ◌∙◌, ap, ap₂, subst, append_assoc, append-nil, arith}
use Rattle.std.specs.Option.{IfSome}
use Rattle.std.specs.List.{filter, AllZip}
use Rattle.std.proofs.lemmas.List.{length-append}
use Rattle.std.proofs.lemmas.Nat.{mul-le}
use Rattle.line_base.specs.declared.edge.Span.{Span}
use Rattle.line_base.specs.Edges.{NumberedEdge}
use Rattle.psi5_frame.specs.Setup.{Settings, bit_count}
use Rattle.psi5_frame.specs.Edges.{Change, changes_after}
use Rattle.psi5_frame.specs.Frames.{frame_of, waveform}
use Rattle.psi5_frame.specs.Bursts.{begins, has_start}
use Rattle.psi5_slots.specs.declared.placed.Placed.TheVariants.{Before, Slot}
use Rattle.psi5_slots.specs.History.{Event, has_sync, is_answered, starts_since, offsets_from, placed_in}
use Rattle.psi5_slots.specs.History.Event.{Start}
use Rattle.psi5_slots.specs.Meanings.{window_at}
use Rattle.psi5_slots.proofs.Histories.{placed-first, placed-after}
use Rattle.link_tolerance.specs.Recorded.{IsRecorded, AreRecorded}
use Rattle.psi5_tolerance.specs.Lines.{SyncWindows}
use Rattle.psi5_tolerance.specs.Trains.{Psi5Message, FrameSent, Sending, SyncAt, FrameAt, message_of, IdealEdge, edges_sent, ideal_edges, SentBefore, end_of, sent_with, IsFrameSent, IsTrainBehind}
use Rattle.psi5_tolerance.specs.Traces.{on_data, on_sync, ideal_times}
use Rattle.psi5_tolerance.specs.FromFirst.{HeardFrame, edge_count, number_at, heard_frame, heard_from}
use Rattle.psi5_tolerance.specs.Places.{SlotEdge, start_of}
use Rattle.psi5_tolerance.proofs.Intervals.{AreBounds}
use Rattle.psi5_tolerance.proofs.RecordedFrames.{AreEdges, last_time}
use Rattle.psi5_tolerance.proofs.HeardFrames.{frame_parts, first_frame, sync_passes, no_or}
use Rattle.psi5_tolerance.proofs.ExactTraces.{none_at}
use Rattle.psi5_tolerance.proofs.Windows.{AreWindows, StartsTo, window-low, placed-there, slot-free, slot-taken, slot-passed}
use Rattle.psi5_tolerance.proofs.Pulses.{pulses_in, starts_at, last-pulse, no-pulse, has-pulse, has-none, starts-last, starts-pulses, starts-here, starts-beyond}
use Rattle.psi5_tolerance.proofs.SlotEdges.{AreMeasured, changes_in, measured-changes, IsBetween, Follow, AreUpTo, AreFrom, StandsIn, AllStandIn, told_in}

-- a frame begins with this edge, at its place
pub record IsPlaced (windows : List Span) (edge : SlotEdge) (f : HeardFrame) : Type 0 where
  pub rises : edge.change.level ≡ true
  pub number : edge.change.number ≡ f.first
  pub told : has_sync edge.history ≡ f.is_told
  pub slot : ℕ
  pub slot_is : f.slot ≡ Some slot
  pub place : placed_in windows edge.history edge.time ≡ (if f.is_told then Slot slot else Before)

-- ---- which sync pulses are before an edge
abbrev AreEarlier : ℕ → List ℕ → Type 0
AreEarlier time [] = Unit {0}
AreEarlier time (x ∷ times) = (x < time) × AreEarlier time times

abbrev AreLater : ℕ → List ℕ → Type 0
AreLater time [] = Unit {0}
AreLater time (x ∷ times) = (time < x) × AreLater time times

same_front : (time : ℕ) (xs ys zs ws : List ℕ) → xs ++ ys ≡ zs ++ ws → AreUpTo time xs → AreFrom time ys → AreEarlier time zs → AreLater time ws → xs ≡ zs
same_front time [] ys [] ws e past coming earlier later = refl
same_front time [] ys (z ∷ zs) ws e past coming earlier later =
    let from : AreFrom time (z ∷ (zs ++ ws)) = subst (λ (l : List ℕ). AreFrom time l) e coming in
    absurd (omega (arith, from.0, earlier.0))
same_front time (x ∷ xs) ys [] ws e past coming earlier later =
    let behind : AreLater time (x ∷ (xs ++ ys)) = subst (λ (l : List ℕ). AreLater time l) (sym e) later in
    absurd (omega (arith, behind.0, past.0))
same_front time (x ∷ xs) ys (z ∷ zs) ws e past coming earlier later =
    let head : x ≡ z = cc in
    ap₂ (λ a l. a ∷ l) head (same_front time xs ys zs ws (cc) past.1 coming earlier.1 later)

-- all of these are recorded by this time in ps
abbrev pub AreBy : ℕ → List ℕ → Type 0
AreBy bound [] = Unit {0}
AreBy bound (x ∷ times) = (1000 * x ≤ bound) × AreBy bound times

by-later : (bound later : ℕ) (times : List ℕ) → bound ≤ later → AreBy bound times → AreBy later times
by-later bound later [] le are = tt
by-later bound later (x ∷ times) le are = (omega (arith, are.0, le), by-later bound later times le are.1)

by-push : (bound : ℕ) (times : List ℕ) (time : ℕ) → AreBy bound times → 1000 * time ≤ bound → AreBy bound (times ++ time ∷ [])
by-push bound [] time are le = (le, tt)
by-push bound (x ∷ times) time are le = (are.0, by-push bound times time are.1 le)

all_earlier : (bound time : ℕ) (times : List ℕ) → bound < 1000 * time → AreBy bound times → AreEarlier time times
all_earlier bound time [] less are = tt
all_earlier bound time (x ∷ times) less are = (omega (arith, are.0, less), all_earlier bound time times less are.1)

all_later : (jitter end time : ℕ) (ideals times : List ℕ) → AreFrom end ideals → AreRecorded jitter ideals times → 1000 * time + 1000 * jitter < end → AreLater time times
all_later jitter end time [] [] from recorded less = tt
all_later jitter end time [] (x ∷ times) from recorded less = absurd recorded
all_later jitter end time (ideal ∷ ideals) [] from recorded less = absurd recorded
all_later jitter end time (ideal ∷ ideals) (x ∷ times) from recorded less =
    (omega (arith, recorded.0.not_too_early, from.0, less), all_later jitter end time ideals times from.1 recorded.1 less)

-- ---- the sync pulses of a train
pub pulses-frame : (s : Settings) (f : FrameSent) (rest : List IdealEdge) → on_sync (edges_sent s (FrameAt f) ++ rest) ≡ on_sync rest
pulses-frame s f rest = none_at f.start f.half true (waveform (frame_of s f.payload)) rest

from-earlier : (time later : ℕ) (times : List ℕ) → time ≤ later → AreFrom later times → AreFrom time times
from-earlier time later [] le are = tt
from-earlier time later (x ∷ times) le are = (omega (arith, are.0, le), from-earlier time later times le are.1)

-- none comes before the end of the last frame
pulses-behind : (s : Settings) (sync : SyncWindows) (before : SentBefore) (sent : List Sending) (end : ℕ) → IsTrainBehind s (Some sync) before sent → before.frame_end ≡ Some end → AreFrom end (ideal_times (on_sync (ideal_edges s sent)))
pulses-behind s sync before [] end train is = tt
pulses-behind s sync before (SyncAt pulse ∷ sent) end train is =
    (subst (λ (o : Option ℕ). IfSome o (λ n. n ≤ pulse)) is train.0.after_frame, pulses-behind s sync (sent_with s before (SyncAt pulse)) sent end train.1 is)
pulses-behind s sync before (FrameAt f ∷ sent) end train is =
    let apart = subst (λ (o : Option ℕ). IfSome o (λ n. n + 1050 * s.bit ≤ f.start)) is train.0.apart in
    let later = pulses-behind s sync (sent_with s before (FrameAt f)) sent (end_of s f) train.1 refl in
    subst (λ (l : List IdealEdge). AreFrom end (ideal_times l)) (sym (pulses-frame s f (ideal_edges s sent)))
    (from-earlier end (end_of s f) (ideal_times (on_sync (ideal_edges s sent))) (omega (arith, apart)) later)

-- ---- what was before
-- the last sync pulse that was sent is recorded, and the starts since are in earlier slots
pub record IsLast (jitter : ℕ) (windows : List Span) (before : SentBefore) (done : List ℕ) (history : List Event) : Type 0 where
  pub front : List ℕ
  pub last : ℕ
  pub pulse : ℕ
  pub is : done ≡ front ++ last ∷ []
  pub sync_is : before.sync ≡ Some pulse
  pub at : IsRecorded jitter pulse last
  pub bounded : AreBy (pulse + 1000 * jitter) done
  pub starts : StartsTo windows before.slot last (starts_at (length done) history)

pub data Past (jitter : ℕ) (windows : List Span) (before : SentBefore) (done : List ℕ) (history : List Event) : Type 0 where
  NoneSeen : done ≡ [] → Past jitter windows before done history
  LastSeen : IsLast jitter windows before done history → Past jitter windows before done history

pub record Stands (jitter : ℕ) (windows : List Span) (before : SentBefore) (done : List ℕ) (history : List Event) : Type 0 where
  pub past : Past jitter windows before done history
  pub none_later : (count : ℕ) → length done < count → starts_at count history ≡ []

-- it is so of another history with the same starts
past-same : (jitter : ℕ) (windows : List Span) (before : SentBefore) (done : List ℕ) (history other : List Event) → ((count : ℕ) → starts_at count other ≡ starts_at count history) → Past jitter windows before done history → Past jitter windows before done other
past-same jitter windows before done history other same (NoneSeen none) = NoneSeen none
past-same jitter windows before done history other same (LastSeen h) = LastSeen (record {
  front = h.front;
  last = h.last;
  pulse = h.pulse;
  is = h.is;
  sync_is = h.sync_is;
  at = h.at;
  bounded = h.bounded;
  starts = subst (λ (l : List ℕ). StartsTo windows before.slot h.last l) (sym (same (length done))) h.starts;
})

pub stands-same : (jitter : ℕ) (windows : List Span) (before : SentBefore) (done : List ℕ) (history other : List Event) → ((count : ℕ) → starts_at count other ≡ starts_at count history) → Stands jitter windows before done history → Stands jitter windows before done other
stands-same jitter windows before done history other same stands = record {
  past = past-same jitter windows before done history other same stands.past;
  none_later = λ count less. same count ∙ stands.none_later count less;
}

-- ---- a sync pulse more
push_bound : (jitter : ℕ) (windows : List Span) (before : SentBefore) (done : List ℕ) (history : List Event) (pulse r : ℕ) → Past jitter windows before done history → IfSome before.sync (λ sync. sync < pulse) → IsRecorded jitter pulse r
    → AreBy (pulse + 1000 * jitter) (done ++ r ∷ [])
push_bound jitter windows before done history pulse r (NoneSeen none) later at =
    subst (λ (l : List ℕ). AreBy (pulse + 1000 * jitter) (l ++ r ∷ [])) (sym none) (at.not_too_late, tt)
push_bound jitter windows before done history pulse r (LastSeen h) later at =
    let less = subst (λ (o : Option ℕ). IfSome o (λ n. n < pulse)) h.sync_is later in
    by-push (pulse + 1000 * jitter) done r (by-later (h.pulse + 1000 * jitter) (pulse + 1000 * jitter) done (omega (arith, less)) h.bounded) at.not_too_late

pub stands-pulse : (s : Settings) (windows : List Span) (before : SentBefore) (done : List ℕ) (history : List Event) (pulse r : ℕ) → Stands s.jitter windows before done history → IfSome before.sync (λ sync. sync < pulse) → IsRecorded s.jitter pulse r
    → Stands s.jitter windows (sent_with s before (SyncAt pulse)) (done ++ r ∷ []) history
stands-pulse s windows before done history pulse r stands later at =
    let more : length (done ++ r ∷ []) ≡ suc (length done) = length-append done (r ∷ []) ∙ omega arith in
    record {
      past = LastSeen (record {
        front = done;
        last = r;
        pulse = pulse;
        is = refl;
        sync_is = refl;
        at = at;
        bounded = push_bound s.jitter windows before done history pulse r stands.past later at;
        starts = stands.none_later (length (done ++ r ∷ [])) (omega (arith, more));
      });
      none_later = λ count less. stands.none_later count (omega (arith, more, less));
    }

-- ---- one frame
-- the first edge of a frame: what was before it, and where it is placed
record IsFirst (s : Settings) (sync : SyncWindows) (before : SentBefore) (f : FrameSent) (edge : SlotEdge) (done : List ℕ) (number : ℕ) : Type 0 where
  same : pulses_in edge.history ≡ done
  place : placed_in sync.windows edge.history edge.time ≡ (if has_sync edge.history then Slot number else Before)
  next : Stands s.jitter sync.windows (sent_with s before (FrameAt f)) done (edge.history ++ start_of edge)

-- the edge is in time
record IsInTime (s : Settings) (windows : List Span) (f : FrameSent) (time last number : ℕ) : Type 0 where
  not_early : last + (window_at windows number).low ≤ time
  not_late : time ≤ last + (window_at windows number).high

in_time : (s : Settings) (sync : SyncWindows) (before : SentBefore) (f : FrameSent) (time last pulse : ℕ) (may : IsFrameSent s (Some sync) before f) → IsRecorded s.jitter (f.start + f.half) time → before.sync ≡ Some pulse → IsRecorded s.jitter pulse last
    → IsInTime s sync.windows f time last may.in_slot.number
in_time s sync before f time last pulse may at is at_last =
    let same : Some pulse ≡ Some may.in_slot.sync = sym is ∙ may.in_slot.is_after in
    let e : pulse ≡ may.in_slot.sync = cc in
    record {
      not_early = omega (arith, e, may.in_slot.not_early, at.not_too_early, at_last.not_too_late);
      not_late = omega (arith, e, may.in_slot.not_late, at.not_too_late, at_last.not_too_early);
    }

-- the starts behind it
has_starts : (s : Settings) (sync : SyncWindows) (before : SentBefore) (f : FrameSent) (edge : SlotEdge) (done : List ℕ) (last : ℕ) (may : IsFrameSent s (Some sync) before f) → AreWindows s.bit (4 * s.bit) sync.windows
    → length done ≡ length (pulses_in edge.history) → edge.time ≤ last + (window_at sync.windows may.in_slot.number).high → StartsTo sync.windows before.slot last (starts_at (length done) edge.history)
    → StartsTo sync.windows f.slot last (starts_at (length done) (edge.history ++ start_of edge))
has_starts s sync before f edge done last may w same late starts =
    let number = may.in_slot.number in
    subst (λ (o : Option ℕ). StartsTo sync.windows o last (starts_at (length done) (edge.history ++ start_of edge))) (sym may.in_slot.slot_is) (by_start (begins edge.change && edge.change.level))
  where
    by_start : (b : Bool) → StartsTo sync.windows (Some may.in_slot.number) last (starts_at (length done) (edge.history ++ (if b then Start edge.time ∷ [] else [])))
    by_start true = subst (λ (l : List ℕ). StartsTo sync.windows (Some may.in_slot.number) last l) (sym (starts-here edge.history (length done) edge.time same))
        (slot-taken s.bit (4 * s.bit) sync.windows before.slot may.in_slot.number last (starts_at (length done) edge.history) edge.time w may.in_slot.is_window may.in_slot.is_later starts (omega (arith, late)))
    by_start false = subst (λ (l : List Event). StartsTo sync.windows (Some may.in_slot.number) last (starts_at (length done) l)) (sym (append-nil edge.history))
        (slot-passed s.bit (4 * s.bit) sync.windows before.slot may.in_slot.number last (starts_at (length done) edge.history) w may.in_slot.is_window may.in_slot.is_later starts)

none_beyond : (edge : SlotEdge) (done : List ℕ) (count : ℕ) → length (pulses_in edge.history) < count → starts_at count edge.history ≡ [] → starts_at count (edge.history ++ start_of edge) ≡ []
none_beyond edge done count less none = by_start (begins edge.change && edge.change.level)
  where
    by_start : (b : Bool) → starts_at count (edge.history ++ (if b then Start edge.time ∷ [] else [])) ≡ []
    by_start true = starts-beyond edge.history count edge.time less ∙ none
    by_start false = ap (starts_at count) (append-nil edge.history) ∙ none

between-starts : (before after : List Event) (count : ℕ) → IsBetween before after → starts_at count after ≡ starts_at count before
between-starts before after count between = ap (starts_at count) between.is ∙ starts-pulses count before between.pulses

-- no sync pulse was seen yet, or the last one was
placed_none : (windows : List Span) (history : List Event) (time number : ℕ) → pulses_in history ≡ [] → placed_in windows history time ≡ (if has_sync history then Slot number else Before)
placed_none windows history time number none = rw (has-none history none) (sym (placed-first windows history time (sym (no-pulse history none))))

placed_last : (bit : ℕ) (windows : List Span) (history : List Event) (time number last : ℕ) (front starts : List ℕ) (slot : Option ℕ) → AreWindows bit (4 * bit) windows → number < length windows → IfSome slot (λ n. n < number)
    → pulses_in history ≡ front ++ last ∷ [] → starts_since history ≡ starts → StartsTo windows slot last starts → last + (window_at windows number).low ≤ time → time ≤ last + (window_at windows number).high
    → placed_in windows history time ≡ (if has_sync history then Slot number else Before)
placed_last bit windows history time number last front starts slot w few less is starts_are to early late =
    rw (has-pulse history front last is)
    (sym (placed-after windows history last time (sym (last-pulse history front last is)))
    ∙ placed-there bit (4 * bit) windows number (offsets_from last (starts_since history)) (time - last) w few (omega (arith, early)) (omega (arith, late))
    (ap (λ l. is_answered (offsets_from last l) (window_at windows number)) starts_are ∙ slot-free bit (4 * bit) windows slot number last starts w few less to))

-- the pulses before the edge are those that are done: the last of them comes well before it, and the next well behind
pulses_before : (s : Settings) (sync : SyncWindows) (before : SentBefore) (f : FrameSent) (sent : List Sending) (edge : SlotEdge) (done rest pulses : List ℕ) → AreBounds s.bit s.jitter → IsFrameSent s (Some sync) before f
    → IsTrainBehind s (Some sync) (sent_with s before (FrameAt f)) sent → IsRecorded s.jitter (f.start + f.half) edge.time → AreRecorded s.jitter (ideal_times (on_sync (ideal_edges s sent))) rest
    → StandsIn pulses edge → done ++ rest ≡ pulses → AreEarlier edge.time done → pulses_in edge.history ≡ done
pulses_before s sync before f sent edge done rest pulses b may train at recorded stands whole earlier =
    same_front edge.time (pulses_in edge.history) stands.later done rest (stands.is ∙ sym whole) stands.past stands.coming earlier
    (all_later s.jitter (end_of s f) edge.time (ideal_times (on_sync (ideal_edges s sent))) rest (pulses-behind s sync (sent_with s before (FrameAt f)) sent (end_of s f) train refl) recorded (ends_later s f may.half_bits.not_below))
  where
    ends_later : (t : Settings) (g : FrameSent) → 475 * s.bit ≤ f.half → 1000 * edge.time + 1000 * s.jitter < end_of s f
    ends_later t g low = omega (arith, at.not_too_late, b.small, b.some, low, mul-le 4 f.half (2 * bit_count s) f.half (omega arith) (omega arith))

none_earlier : (jitter : ℕ) (windows : List Span) (before : SentBefore) (done : List ℕ) (history : List Event) (time : ℕ) → Past jitter windows before done history
    → ((pulse : ℕ) → before.sync ≡ Some pulse → pulse + 1000 * jitter < 1000 * time) → AreEarlier time done
none_earlier jitter windows before done history time (NoneSeen none) less = subst (λ (l : List ℕ). AreEarlier time l) (sym none) tt
none_earlier jitter windows before done history time (LastSeen h) less = all_earlier (h.pulse + 1000 * jitter) time done (less h.pulse h.sync_is) h.bounded

long_after : (s : Settings) (sync : SyncWindows) (before : SentBefore) (f : FrameSent) (time pulse : ℕ) → AreBounds s.bit s.jitter → AreWindows s.bit (4 * s.bit) sync.windows → (may : IsFrameSent s (Some sync) before f)
    → IsRecorded s.jitter (f.start + f.half) time → before.sync ≡ Some pulse → pulse + 1000 * s.jitter < 1000 * time
long_after s sync before f time pulse b w may at is =
    let same : Some pulse ≡ Some may.in_slot.sync = sym is ∙ may.in_slot.is_after in
    let e : pulse ≡ may.in_slot.sync = cc in
    let low = window-low s.bit (4 * s.bit) sync.windows may.in_slot.number w may.in_slot.is_window in
    omega (arith, e, low, may.in_slot.not_early, at.not_too_early, b.some)

placed_by : (s : Settings) (sync : SyncWindows) (before : SentBefore) (f : FrameSent) (edge : SlotEdge) (done : List ℕ) (history : List Event) (may : IsFrameSent s (Some sync) before f) → AreWindows s.bit (4 * s.bit) sync.windows
    → IsRecorded s.jitter (f.start + f.half) edge.time → pulses_in edge.history ≡ done → IsBetween history edge.history → ((count : ℕ) → length done < count → starts_at count history ≡ [])
    → Past s.jitter sync.windows before done history → IsFirst s sync before f edge done may.in_slot.number
placed_by s sync before f edge done history may w at same between none_later (NoneSeen none) = record {
  same = same;
  place = placed_none sync.windows edge.history edge.time may.in_slot.number (same ∙ none);
  next = record {
    past = NoneSeen none;
    none_later = λ count less. none_beyond edge done count (subst (λ (l : List ℕ). length l < count) (sym same) less) (between-starts history edge.history count between ∙ none_later count less);
  };
}
placed_by s sync before f edge done history may w at same between none_later (LastSeen h) =
    let number = may.in_slot.number in
    let timely = in_time s sync before f edge.time h.last h.pulse may at h.sync_is h.at in
    let starts = subst (λ (l : List ℕ). StartsTo sync.windows before.slot h.last l) (sym (between-starts history edge.history (length done) between)) h.starts in
    record {
      same = same;
      place = placed_last s.bit sync.windows edge.history edge.time number h.last h.front (starts_at (length done) edge.history) before.slot w may.in_slot.is_window may.in_slot.is_later (same ∙ h.is)
          (starts-last edge.history ∙ ap (λ l. starts_at (length l) edge.history) same) starts timely.not_early timely.not_late;
      next = record {
        past = LastSeen (record {
          front = h.front;
          last = h.last;
          pulse = h.pulse;
          is = h.is;
          sync_is = h.sync_is;
          at = h.at;
          bounded = h.bounded;
          starts = has_starts s sync before f edge done h.last may w (ap length (sym same)) timely.not_late starts;
        });
        none_later = λ count less. none_beyond edge done count (subst (λ (l : List ℕ). length l < count) (sym same) less) (between-starts history edge.history count between ∙ none_later count less);
      };
    }

frame_placed : (s : Settings) (sync : SyncWindows) (before : SentBefore) (f : FrameSent) (sent : List Sending) (edge : SlotEdge) (done rest pulses : List ℕ) (history : List Event) → AreBounds s.bit s.jitter
    → AreWindows s.bit (4 * s.bit) sync.windows → (may : IsFrameSent s (Some sync) before f) → IsTrainBehind s (Some sync) (sent_with s before (FrameAt f)) sent → IsRecorded s.jitter (f.start + f.half) edge.time
    → AreRecorded s.jitter (ideal_times (on_sync (ideal_edges s sent))) rest → StandsIn pulses edge → done ++ rest ≡ pulses → IsBetween history edge.history → Stands s.jitter sync.windows before done history
    → IsFirst s sync before f edge done may.in_slot.number
frame_placed s sync before f sent edge done rest pulses history b w may train at recorded stands whole between was =
    let earlier = none_earlier s.jitter sync.windows before done history edge.time was.past (λ pulse is. long_after s sync before f edge.time pulse b w may at is) in
    let same = pulses_before s sync before f sent edge done rest pulses b may train at recorded stands whole earlier in
    placed_by s sync before f edge done history may w at same between was.none_later was.past

-- ---- the edges of a frame, and those behind it
pub record MeasuredParts (bit time : ℕ) (left right : List NumberedEdge) (edges : List SlotEdge) : Type 0 where
  pub front : List SlotEdge
  pub back : List SlotEdge
  pub is : edges ≡ front ++ back
  pub front_measured : AreMeasured bit time left front
  pub back_measured : AreMeasured bit (last_time time left) right back

pub measured_parts : (bit time : ℕ) (left right : List NumberedEdge) (edges : List SlotEdge) → AreMeasured bit time (left ++ right) edges → MeasuredParts bit time left right edges
measured_parts bit time [] right edges measured = record { front = []; back = edges; is = refl; front_measured = tt; back_measured = measured }
measured_parts bit time (e ∷ left) right [] measured = absurd measured
measured_parts bit time (e ∷ left) right (edge ∷ edges) measured =
    let h = measured_parts bit e.edge.time left right edges measured.2 in
    record { front = edge ∷ h.front; back = h.back; is = ap (λ l. edge ∷ l) h.is; front_measured = (measured.0, measured.1, h.front_measured); back_measured = h.back_measured }

pub length-measured : (bit time : ℕ) (line : List NumberedEdge) (edges : List SlotEdge) → AreMeasured bit time line edges → length edges ≡ length line
length-measured bit time [] [] measured = refl
length-measured bit time [] (edge ∷ edges) measured = absurd measured
length-measured bit time (e ∷ line) [] measured = absurd measured
length-measured bit time (e ∷ line) (edge ∷ edges) measured = ap suc (length-measured bit e.edge.time line edges measured.2)

-- those that begin a burst
abbrev pub starting : List SlotEdge → List SlotEdge
starting edges = filter (λ (edge : SlotEdge). begins edge.change) edges

pub loud-starting : (front back : List SlotEdge) → has_start (changes_in front) ≡ false → starting (front ++ back) ≡ starting back
unfolding has_start
loud-starting [] back none = refl
loud-starting (edge ∷ front) back none =
    let parts = no_or (begins edge.change) (has_start (changes_in front)) none in
    rw parts.0 (loud-starting front back parts.1)

pub stand-back : (pulses : List ℕ) (front back : List SlotEdge) → AllStandIn pulses (front ++ back) → AllStandIn pulses back
stand-back pulses [] back stand = stand
stand-back pulses (edge ∷ front) back stand = stand-back pulses front back stand.1

-- edges that begin no burst add no starts
pub record FollowOn (history : List Event) (edges : List SlotEdge) : Type 0 where
  pub after : List Event
  pub same : (count : ℕ) → starts_at count after ≡ starts_at count history
  pub follow : Follow after edges

no_start_of : (edge : SlotEdge) → begins edge.change ≡ false → start_of edge ≡ []
no_start_of edge none = rw none refl

pub loud-follow : (history : List Event) (front back : List SlotEdge) → has_start (changes_in front) ≡ false → Follow history (front ++ back) → FollowOn history back
unfolding has_start
loud-follow history [] back none follow = record { after = history; same = λ count. refl; follow = follow }
loud-follow history (edge ∷ front) back none follow =
    let parts = no_or (begins edge.change) (has_start (changes_in front)) none in
    let h = loud-follow (edge.history ++ start_of edge) front back parts.1 follow.1 in
    record {
      after = h.after;
      same = λ count. h.same count ∙ ap (λ l. starts_at count (edge.history ++ l)) (no_start_of edge parts.0) ∙ ap (starts_at count) (append-nil edge.history) ∙ between-starts history edge.history count follow.0;
      follow = h.follow;
    }

pub drop-mapped : {B : Type 0} (g : SlotEdge → B) (front back : List SlotEdge) → drop (length front) (map g (front ++ back)) ≡ map g back
drop-mapped g [] back = refl
drop-mapped g (edge ∷ front) back = drop-mapped g front back

-- ---- a train
abbrev pub ArePlaced : List Span → List SlotEdge → List HeardFrame → Type 0
ArePlaced windows edges frames = AllZip (IsPlaced windows) (starting edges) frames

one_placed : (windows : List Span) (edge : SlotEdge) (edges : List SlotEdge) (f : HeardFrame) (frames : List HeardFrame) (b : Bool) → IsPlaced windows edge f → AllZip (IsPlaced windows) (starting edges) frames
    → AllZip (IsPlaced windows) (cond b (edge ∷ starting edges) (starting edges)) (cond b (f ∷ []) [] ++ frames)
one_placed windows edge edges f frames true placed rest = (placed, rest)
one_placed windows edge edges f frames false placed rest = rest

with_frame : (s : Settings) (windows : List Span) (f : FrameSent) (messages : List Psi5Message) (edge : SlotEdge) (later back : List SlotEdge) (number : ℕ) → f.slot ≡ Some number → edge.change.level ≡ true
    → placed_in windows edge.history edge.time ≡ (if has_sync edge.history then Slot number else Before) → has_start (changes_in later) ≡ false → edge_count s (message_of (FrameAt f)) ≡ suc (length later)
    → ArePlaced windows back (heard_from s 0 messages (changes_in back) (told_in back))
    → ArePlaced windows (edge ∷ (later ++ back)) (heard_from s 0 (message_of (FrameAt f) ∷ messages) (changes_in (edge ∷ (later ++ back))) (told_in (edge ∷ (later ++ back))))
with_frame s windows f messages edge later back number slot_is rises place none count rest =
    let all = edge ∷ (later ++ back) in
    let n = edge_count s (message_of (FrameAt f)) in
    let heard : heard_from s 0 (message_of (FrameAt f) ∷ messages) (changes_in all) (told_in all) ≡ heard_frame n f.slot f.payload (changes_in all) (told_in all) ++ heard_from s 0 messages (changes_in back) (told_in back) =
    first_frame s f.slot f.payload messages (changes_in all) (told_in all)
    ∙ ap₂ (λ c t. heard_frame n f.slot f.payload (changes_in all) (told_in all) ++ heard_from s 0 messages c t)
    (ap (λ k. drop k (changes_in all)) count ∙ drop-mapped (λ (e : SlotEdge). e.change) later back) (ap (λ k. drop k (told_in all)) count ∙ drop-mapped (λ (e : SlotEdge). has_sync e.history) later back) in
    let starts : starting all ≡ cond (begins edge.change) (edge ∷ starting back) (starting back) = ap (λ l. cond (begins edge.change) (edge ∷ l) l) (loud-starting later back none) in
    let frame : HeardFrame = record { first = edge.change.number; last = number_at (changes_in all) (n - 1); is_told = has_sync edge.history; slot = f.slot; payload = f.payload } in
    let placed : IsPlaced windows edge frame = record { rises = rises; number = refl; told = refl; slot = number; slot_is = slot_is; place = place } in
    subst (λ (l : List HeardFrame). AllZip (IsPlaced windows) (starting all) l) (sym heard)
    (subst (λ (l : List SlotEdge). AllZip (IsPlaced windows) l (heard_frame n f.slot f.payload (changes_in all) (told_in all) ++ heard_from s 0 messages (changes_in back) (told_in back))) (sym starts)
    (one_placed windows edge back frame (heard_from s 0 messages (changes_in back) (told_in back)) (begins edge.change) placed rest))

none_placed : (s : Settings) (windows : List Span) → ArePlaced windows [] (heard_from s 0 [] (changes_in []) (told_in []))
unfolding heard_from
none_placed s windows = tt

-- what is needed of the edges from one on
pub record AreSlotEdges (s : Settings) (sent : List Sending) (time : ℕ) (line : List NumberedEdge) (edges : List SlotEdge) (history : List Event) (done rest pulses : List ℕ) : Type 0 where
  pub recorded : AreEdges s.jitter (on_data (ideal_edges s sent)) line
  pub measured : AreMeasured s.bit time line edges
  pub follow : Follow history edges
  pub stand : AllStandIn pulses edges
  pub whole : done ++ rest ≡ pulses
  pub pulses_recorded : AreRecorded s.jitter (ideal_times (on_sync (ideal_edges s sent))) rest

-- the frame's part of them, and what comes behind
record FrameEdges (s : Settings) (sync : SyncWindows) (before : SentBefore) (f : FrameSent) (sent : List Sending) (edges : List SlotEdge) (done rest pulses : List ℕ) : Type 0 where
  edge : SlotEdge
  later : List SlotEdge
  back : List SlotEdge
  is : edges ≡ edge ∷ (later ++ back)
  number : ℕ
  slot_is : f.slot ≡ Some number
  rises : edge.change.level ≡ true
  place : placed_in sync.windows edge.history edge.time ≡ (if has_sync edge.history then Slot number else Before)
  none : has_start (changes_in later) ≡ false
  count : edge_count s (message_of (FrameAt f)) ≡ suc (length later)
  time : ℕ
  line : List NumberedEdge
  history : List Event
  next : AreSlotEdges s sent time line back history done rest pulses
  stands : Stands s.jitter sync.windows (sent_with s before (FrameAt f)) done history

by_front : (s : Settings) (sync : SyncWindows) (before : SentBefore) (f : FrameSent) (sent : List Sending) (time : ℕ) (line right : List NumberedEdge) (first : NumberedEdge) (later_line : List NumberedEdge) (edges front back : List SlotEdge) (history : List Event) (done rest pulses : List ℕ)
    → AreBounds s.bit s.jitter → AreWindows s.bit (4 * s.bit) sync.windows → IsFrameSent s (Some sync) before f → IsTrainBehind s (Some sync) (sent_with s before (FrameAt f)) sent
    → AreSlotEdges s (FrameAt f ∷ sent) time line edges history done rest pulses → Stands s.jitter sync.windows before done history
    → edges ≡ front ++ back → AreMeasured s.bit time (first ∷ later_line) front → AreMeasured s.bit (last_time first.edge.time later_line) right back → AreEdges s.jitter (on_data (ideal_edges s sent)) right
    → IsRecorded s.jitter (f.start + f.half) first.edge.time → first.edge.level ≡ true → has_start (changes_after s.bit first.edge.time later_line) ≡ false → edge_count s (message_of (FrameAt f)) ≡ suc (length later_line)
    → FrameEdges s sync before f sent edges done rest pulses
by_front s sync before f sent time line right first later_line edges [] back history done rest pulses b w may train are was is front_measured back_measured recorded at rises none count = absurd front_measured
by_front s sync before f sent time line right first later_line edges (edge ∷ later) back history done rest pulses b w may train are was is front_measured back_measured recorded at rises none count =
    let follow = subst (λ (l : List SlotEdge). Follow history l) is are.follow in
    let stand = subst (λ (l : List SlotEdge). AllStandIn pulses l) is are.stand in
    let at_edge : IsRecorded s.jitter (f.start + f.half) edge.time = subst (λ (n : ℕ). IsRecorded s.jitter (f.start + f.half) n) (sym front_measured.1) at in
    let pulses_later = subst (λ (l : List IdealEdge). AreRecorded s.jitter (ideal_times l) rest) (pulses-frame s f (ideal_edges s sent)) are.pulses_recorded in
    let placed = frame_placed s sync before f sent edge done rest pulses history b w may train at_edge pulses_later stand.0 are.whole follow.0 was in
    let loud : has_start (changes_in later) ≡ false = ap has_start (sym (measured-changes s.bit first.edge.time later_line later front_measured.2)) ∙ none in
    let on = loud-follow (edge.history ++ start_of edge) later back loud follow.1 in
    record {
      edge = edge;
      later = later;
      back = back;
      is = is;
      number = may.in_slot.number;
      slot_is = may.in_slot.slot_is;
      rises = ap (λ (c : Change). c.level) front_measured.0 ∙ rises;
      place = placed.place;
      none = loud;
      count = count ∙ ap suc (sym (length-measured s.bit first.edge.time later_line later front_measured.2));
      time = last_time first.edge.time later_line;
      line = right;
      history = on.after;
      next = record {
        recorded = recorded;
        measured = back_measured;
        follow = on.follow;
        stand = stand-back pulses (edge ∷ later) back stand;
        whole = are.whole;
        pulses_recorded = pulses_later;
      };
      stands = stands-same s.jitter sync.windows (sent_with s before (FrameAt f)) done (edge.history ++ start_of edge) on.after on.same placed.next;
    }

frame_edges : (s : Settings) (sync : SyncWindows) (before : SentBefore) (f : FrameSent) (sent : List Sending) (time : ℕ) (line : List NumberedEdge) (edges : List SlotEdge) (history : List Event) (done rest pulses : List ℕ)
    → AreBounds s.bit s.jitter → AreWindows s.bit (4 * s.bit) sync.windows → IsTrainBehind s (Some sync) before (FrameAt f ∷ sent)
    → AreSlotEdges s (FrameAt f ∷ sent) time line edges history done rest pulses → Stands s.jitter sync.windows before done history → FrameEdges s sync before f sent edges done rest pulses
frame_edges s sync before f sent time line edges history done rest pulses b w train are was =
    let p = frame_parts s (Some sync) before f sent time line b train.0 are.recorded in
    let m = measured_parts s.bit time p.left p.right edges (subst (λ (l : List NumberedEdge). AreMeasured s.bit time l edges) p.is are.measured) in
    by_front s sync before f sent time line p.right p.heard.first p.heard.rest edges m.front m.back history done rest pulses b w train.0 train.1 are was m.is
    (subst (λ (l : List NumberedEdge). AreMeasured s.bit time l m.front) p.heard.is m.front_measured)
    (subst (λ (l : List NumberedEdge). AreMeasured s.bit (last_time time l) p.right m.back) p.heard.is m.back_measured)
    p.recorded p.heard.at p.heard.rises p.heard.goes_on (p.count ∙ ap length p.heard.is)

-- the edges behind a sync pulse
record PulseEdges (s : Settings) (sent : List Sending) (time : ℕ) (line : List NumberedEdge) (edges : List SlotEdge) (history : List Event) (done rest pulses : List ℕ) (pulse : ℕ) : Type 0 where
  r : ℕ
  others : List ℕ
  at : IsRecorded s.jitter pulse r
  next : AreSlotEdges s sent time line edges history (done ++ r ∷ []) others pulses

pulse_edges : (s : Settings) (sent : List Sending) (time : ℕ) (line : List NumberedEdge) (edges : List SlotEdge) (history : List Event) (done rest pulses : List ℕ) (pulse : ℕ)
    → AreSlotEdges s (SyncAt pulse ∷ sent) time line edges history done rest pulses → PulseEdges s sent time line edges history done rest pulses pulse
pulse_edges s sent time line edges history done [] pulses pulse are = absurd are.pulses_recorded
pulse_edges s sent time line edges history done (r ∷ others) pulses pulse are = record {
  r = r;
  others = others;
  at = are.pulses_recorded.0;
  next = record {
    recorded = are.recorded;
    measured = are.measured;
    follow = are.follow;
    stand = are.stand;
    whole = append_assoc done (r ∷ []) others ∙ are.whole;
    pulses_recorded = are.pulses_recorded.1;
  };
}

pub slots_heard : (s : Settings) (sync : SyncWindows) (before : SentBefore) (sent : List Sending) (time : ℕ) (line : List NumberedEdge) (edges : List SlotEdge) (history : List Event) (done rest pulses : List ℕ)
    → AreBounds s.bit s.jitter → AreWindows s.bit (4 * s.bit) sync.windows → IsTrainBehind s (Some sync) before sent → AreSlotEdges s sent time line edges history done rest pulses → Stands s.jitter sync.windows before done history
    → ArePlaced sync.windows edges (heard_from s 0 (map message_of sent) (changes_in edges) (told_in edges))
slots_heard s sync before [] time [] [] history done rest pulses b w train are was = none_placed s sync.windows
slots_heard s sync before [] time [] (edge ∷ edges) history done rest pulses b w train are was = absurd are.measured
slots_heard s sync before [] time (e ∷ line) edges history done rest pulses b w train are was = absurd are.recorded
slots_heard s sync before (SyncAt pulse ∷ sent) time line edges history done rest pulses b w train are was =
    let p = pulse_edges s sent time line edges history done rest pulses pulse are in
    subst (λ (l : List HeardFrame). ArePlaced sync.windows edges l) (sync_passes s (map message_of sent) (changes_in edges) (told_in edges))
    (slots_heard s sync (sent_with s before (SyncAt pulse)) sent time line edges history (done ++ p.r ∷ []) p.others pulses b w train.1 p.next
    (stands-pulse s sync.windows before done history pulse p.r was train.0.after_sync p.at))
slots_heard s sync before (FrameAt f ∷ sent) time line edges history done rest pulses b w train are was =
    let p = frame_edges s sync before f sent time line edges history done rest pulses b w train are was in
    let behind = slots_heard s sync (sent_with s before (FrameAt f)) sent p.time p.line p.back p.history done rest pulses b w train.1 p.next p.stands in
    let messages = map message_of sent in
    subst (λ (l : List SlotEdge). ArePlaced sync.windows l (heard_from s 0 (map message_of (FrameAt f ∷ sent)) (changes_in l) (told_in l))) (sym p.is)
    (with_frame s sync.windows f messages p.edge p.later p.back p.number p.slot_is p.rises p.place p.none p.count behind)

-- Where the frames of an honest trace with slots begin.
--     slots_cut      of a train of which the first edges are missing
--     placed-line      of an honest trace
--     slot-places      the places of its bursts
use Rattle.std.proofs.Common.{◌≡◌, ℕ, zero, suc, ◌-◌, ◌≤◌, ◌<◌, ◌*◌, Bool, true, false, not, if◌then◌else◌, Some, List, [], ◌∷◌, ◌++◌, length, map, take, drop, refl, sym, ◌∙◌, ap, ap₂, subst, inl, inr, arith}
use Rattle.std.specs.List.{AllZip}
use Rattle.std.proofs.lemmas.Bool.{cases_lt}
use Rattle.line_base.specs.declared.edge.Span.{Span}
use Rattle.line_base.specs.Edges.{NumberedEdge}
use Rattle.psi5_frame.specs.Setup.{Settings}
use Rattle.psi5_frame.specs.Edges.{changes_of, changes_after}
use Rattle.psi5_frame.specs.Frames.{frame_of, waveform}
use Rattle.psi5_frame.specs.Bursts.{has_start}
use Rattle.psi5_slots.specs.declared.placed.Placed.TheVariants.{Before}
use Rattle.psi5_slots.specs.History.{Event, has_sync, placed_in}
use Rattle.link_tolerance.specs.Recorded.{AreRecorded, OpensAfter}
use Rattle.psi5_tolerance.specs.Lines.{SyncWindows, data_edges, sync_edges, behind_opening, rises_of, times_of}
use Rattle.psi5_tolerance.specs.Trains.{Psi5Message, Sync, FrameSent, Sending, SyncAt, FrameAt, message_of, IdealEdge, edges_at, edges_sent, ideal_edges, SentBefore, nothing_sent, sent_with, IsTrainBehind}
use Rattle.psi5_tolerance.specs.Traces.{on_data, on_sync, ideal_times, OpensBehind, IsHonest}
use Rattle.psi5_tolerance.specs.FromFirst.{HeardFrame, edge_count, heard_from, edges_in, recorded_in, heard_of}
use Rattle.psi5_tolerance.specs.Places.{SlotEdge, slot_edges, slot_starts, slot_places, in_slot, place_of}
use Rattle.psi5_tolerance.proofs.Intervals.{AreBounds, bounds-accepted}
use Rattle.psi5_tolerance.proofs.RecordedFrames.{AreEdges, edges-recorded}
use Rattle.psi5_tolerance.proofs.HeardFrames.{length-changes_after, length-frame}
use Rattle.psi5_tolerance.proofs.CutTrains.{drop_past, drop_in, next_missing, past_frame, in_frame}
use Rattle.psi5_tolerance.proofs.DataLines.{none_given, same_missing, recorded-all}
use Rattle.psi5_tolerance.proofs.Windows.{AreWindows, windows-accepted}
use Rattle.psi5_tolerance.proofs.Pulses.{starts_at}
use Rattle.psi5_tolerance.proofs.SlotEdges.{AreMeasured, AreMeasuredOf, measured-line, changes_in, measured-changes, Follow, follow-line, AllStandIn, stand-line, rises-line, told_in, told-line}
use Rattle.psi5_tolerance.proofs.SlotTrains.{IsPlaced, ArePlaced, NoneSeen, measured_parts, length-measured, starting, loud-starting, stand-back, loud-follow, drop-mapped, slots_heard}

-- ---- the sync pulses that are left
dropped_at : (n start half : ℕ) (level : Bool) (places : List ℕ) (rest : List IdealEdge) → on_sync (drop n (edges_at start half level places) ++ rest) ≡ on_sync rest
unfolding edges_at
dropped_at zero start half level [] rest = refl
dropped_at zero start half level (place ∷ places) rest = dropped_at zero start half (not level) places rest
dropped_at (suc n) start half level [] rest = refl
dropped_at (suc n) start half level (place ∷ places) rest = dropped_at n start half (not level) places rest

pulses-part : (s : Settings) (f : FrameSent) (sent : List Sending) (missing : ℕ) → suc missing < edge_count s (message_of (FrameAt f)) → on_sync (drop (suc missing) (ideal_edges s (FrameAt f ∷ sent))) ≡ on_sync (ideal_edges s sent)
pulses-part s f sent missing part =
    let front = edges_sent s (FrameAt f) in
    let within : suc missing ≤ length front = omega (arith, part, length-frame s f) in
    ap on_sync (drop_in (suc missing) front (ideal_edges s sent) within) ∙ dropped_at (suc missing) f.start f.half true (waveform (frame_of s f.payload)) (ideal_edges s sent)

pulses-past : (s : Settings) (f : FrameSent) (sent : List Sending) (missing : ℕ) → edge_count s (message_of (FrameAt f)) ≤ suc missing
    → on_sync (drop (suc missing) (ideal_edges s (FrameAt f ∷ sent))) ≡ on_sync (drop (suc missing - edge_count s (message_of (FrameAt f))) (ideal_edges s sent))
pulses-past s f sent missing whole =
    let front = edges_sent s (FrameAt f) in
    let long : length front ≤ suc missing = omega (arith, whole, length-frame s f) in
    ap on_sync (drop_past (suc missing) front (ideal_edges s sent) long ∙ ap (λ n. drop n (ideal_edges s sent)) (ap (λ n. suc missing - n) (length-frame s f)))

-- ---- a train of which the first edges are missing
none_left : (s : Settings) (windows : List Span) (missing : ℕ) → ArePlaced windows [] (heard_from s missing [] (changes_in []) (told_in []))
unfolding heard_from
none_left s windows missing = tt

-- what is needed of the edges
record AreCut (s : Settings) (sent : List Sending) (missing opening : ℕ) (line : List NumberedEdge) (edges : List SlotEdge) (history : List Event) (pulses : List ℕ) : Type 0 where
  recorded : AreEdges s.jitter (on_data (drop missing (ideal_edges s sent))) line
  opens : OpensAfter s.jitter opening (ideal_times (on_data (take missing (ideal_edges s sent))))
  measured : AreMeasured s.bit opening line edges
  follow : Follow history edges
  stand : AllStandIn pulses edges
  pulses_recorded : AreRecorded s.jitter (ideal_times (on_sync (drop missing (ideal_edges s sent)))) pulses
  none : (count : ℕ) → starts_at count history ≡ []

slots_cut : (s : Settings) (sync : SyncWindows) (before : SentBefore) (sent : List Sending) (missing opening : ℕ) (line : List NumberedEdge) (edges : List SlotEdge) (history : List Event) (pulses : List ℕ)
    → AreBounds s.bit s.jitter → AreWindows s.bit (4 * s.bit) sync.windows → IsTrainBehind s (Some sync) before sent → AreCut s sent missing opening line edges history pulses
    → ArePlaced sync.windows edges (heard_from s missing (map message_of sent) (changes_in edges) (told_in edges))
slots_cut s sync before sent zero opening line edges history pulses b w train are =
    slots_heard s sync before sent opening line edges history [] pulses pulses b w train
    (record { recorded = are.recorded; measured = are.measured; follow = are.follow; stand = are.stand; whole = refl; pulses_recorded = are.pulses_recorded })
    (record { past = NoneSeen refl; none_later = λ count less. are.none count })
slots_cut s sync before [] (suc missing) opening [] [] history pulses b w train are = none_left s sync.windows (suc missing)
slots_cut s sync before [] (suc missing) opening [] (edge ∷ edges) history pulses b w train are = absurd are.measured
slots_cut s sync before [] (suc missing) opening (e ∷ line) edges history pulses b w train are = absurd are.recorded
slots_cut s sync before (SyncAt pulse ∷ sent) (suc missing) opening line edges history pulses b w train are =
    subst (λ (l : List HeardFrame). ArePlaced sync.windows edges l) (next_missing s missing Sync (map message_of sent) (changes_in edges) (told_in edges) missing 0 (omega arith) (omega arith))
    (slots_cut s sync (sent_with s before (SyncAt pulse)) sent missing opening line edges history pulses b w train.1
    (record { recorded = are.recorded; opens = are.opens; measured = are.measured; follow = are.follow; stand = are.stand; pulses_recorded = are.pulses_recorded; none = are.none }))
slots_cut s sync before (FrameAt f ∷ sent) (suc missing) opening line edges history pulses b w train are =
    let message = message_of (FrameAt f) in
    let count = edge_count s message in
    let messages = map message_of sent in
    let behind = sent_with s before (FrameAt f) in
    elim (cases_lt (suc missing) count) [
      | inl part ↦
          let n = count - suc missing in
          let p = in_frame s (Some sync) before f sent missing opening line b train.0 part are.recorded are.opens in
          let m = measured_parts s.bit opening p.left p.right edges (subst (λ (l : List NumberedEdge). AreMeasured s.bit opening l edges) p.is are.measured) in
          let loud : has_start (changes_in m.front) ≡ false = ap has_start (sym (measured-changes s.bit opening p.left m.front m.front_measured)) ∙ p.loud in
          let on = loud-follow history m.front m.back loud (subst (λ (l : List SlotEdge). Follow history l) m.is are.follow) in
          let long : n ≡ length m.front = sym (length-measured s.bit opening p.left m.front m.front_measured ∙ p.long) in
          let heard = slots_heard s sync behind sent _ p.right m.back on.after [] pulses pulses b w train.1
          (record {
            recorded = p.recorded;
            measured = m.back_measured;
            follow = on.follow;
            stand = stand-back pulses m.front m.back (subst (λ (l : List SlotEdge). AllStandIn pulses l) m.is are.stand);
            whole = refl;
            pulses_recorded = subst (λ (l : List IdealEdge). AreRecorded s.jitter (ideal_times l) pulses) (pulses-part s f sent missing part) are.pulses_recorded;
          })
          (record { past = NoneSeen refl; none_later = λ k less. on.same k ∙ are.none k }) in
          let all = m.front ++ m.back in
          let changes : changes_in m.back ≡ drop n (changes_in all) = sym (ap (λ k. drop k (changes_in all)) long ∙ drop-mapped (λ (e : SlotEdge). e.change) m.front m.back) in
          let told : told_in m.back ≡ drop n (told_in all) = sym (ap (λ k. drop k (told_in all)) long ∙ drop-mapped (λ (e : SlotEdge). has_sync e.history) m.front m.back) in
          let frames : heard_from s 0 messages (changes_in m.back) (told_in m.back) ≡ heard_from s (suc missing) (message ∷ messages) (changes_in all) (told_in all) =
          ap₂ (heard_from s 0 messages) changes told ∙ next_missing s missing message messages (changes_in all) (told_in all) 0 n (omega (arith, part)) refl in
          subst (λ (l : List SlotEdge). ArePlaced sync.windows l (heard_from s (suc missing) (message ∷ messages) (changes_in l) (told_in l))) (sym m.is)
          (subst (λ (l : List SlotEdge). AllZip (IsPlaced sync.windows) l (heard_from s (suc missing) (message ∷ messages) (changes_in all) (told_in all))) (sym (loud-starting m.front m.back loud))
          (subst (λ (l : List HeardFrame). ArePlaced sync.windows m.back l) frames heard))
      | inr whole ↦
          let p = past_frame s f sent missing opening line whole are.recorded are.opens in
          let rest = suc missing - count in
          subst (λ (l : List HeardFrame). ArePlaced sync.windows edges l) (next_missing s missing message messages (changes_in edges) (told_in edges) rest 0 refl (omega (arith, whole)))
          (slots_cut s sync behind sent rest opening line edges history pulses b w train.1 (record {
            recorded = p.recorded;
            opens = p.opens;
            measured = are.measured;
            follow = are.follow;
            stand = are.stand;
            pulses_recorded = subst (λ (l : List IdealEdge). AreRecorded s.jitter (ideal_times l) pulses) (pulses-past s f sent missing whole) are.pulses_recorded;
            none = are.none;
          }))
    ]

-- ---- an honest trace
-- the changes of its data line, where the line has these edges
line-placed : (s : Settings) (sync : SyncWindows) (messages : List Psi5Message) (edges line : List NumberedEdge) (h : IsHonest s (Some sync) messages edges) → data_edges (Some sync) edges ≡ line
    → AreMeasuredOf s.bit line (slot_edges s sync edges)
    → ArePlaced sync.windows (slot_edges s sync edges) (heard_from s (edges_in s messages - recorded_in (Some sync) edges) messages (changes_of s.bit line) (told_in (slot_edges s sync edges)))
unfolding changes_of
line-placed s sync messages edges [] h is measured =
    let none = none_given s (edges_in s messages - recorded_in (Some sync) edges) messages (told_in (slot_edges s sync edges)) in
    subst (λ (l : List HeardFrame). ArePlaced sync.windows (slot_edges s sync edges) l) (sym none)
    (subst (λ (l : List SlotEdge). AllZip (IsPlaced sync.windows) (starting l) []) (sym measured) tt)
line-placed s sync messages edges (opening ∷ line) h is measured =
    let rest = on_data (drop h.left_out (ideal_edges s h.sent)) in
    let before = on_data (take h.left_out (ideal_edges s h.sent)) in
    let marked = slot_edges s sync edges in
    let b = bounds-accepted s h.accepted in
    let w = windows-accepted s sync.windows h.slots in
    let time = opening.edge.time in
    let times = subst (λ (l : List NumberedEdge). AreRecorded s.jitter (ideal_times rest) (times_of (behind_opening l))) is h.data_line.times in
    let levels = subst (λ (l : List NumberedEdge). map (λ (e : NumberedEdge). e.edge.level) (behind_opening l) ≡ map (λ (ideal : IdealEdge). ideal.level) rest) is h.data_line.levels in
    let opens = subst (λ (l : List NumberedEdge). OpensBehind s.jitter l before) is h.data_line.opens in
    let pulses = times_of (rises_of (sync_edges (Some sync) edges)) in
    let placed = slots_cut s sync nothing_sent h.sent h.left_out time line marked [] pulses b w h.train (record {
      recorded = edges-recorded s.jitter rest line times levels;
      opens = opens;
      measured = measured;
      follow = follow-line s.bit sync false [] edges;
      stand = subst (λ (l : List ℕ). AllStandIn l marked) (rises-line sync edges) (stand-line s.bit sync edges h.together);
      pulses_recorded = h.sync_line.times;
      none = λ count. refl;
    }) in
    let changes : changes_after s.bit time line ≡ changes_in marked = measured-changes s.bit time line marked measured in
    let few : length (changes_in marked) ≤ recorded_in (Some sync) edges =
    omega (arith, ap length changes, length-changes_after s.bit time line, ap (λ l. length (behind_opening l)) is) in
    let same : heard_from s h.left_out (map message_of h.sent) (changes_in marked) (told_in marked)
    ≡ heard_from s (edges_in s messages - recorded_in (Some sync) edges) messages (changes_after s.bit time line) (told_in marked) =
    ap (λ l. heard_from s h.left_out l (changes_in marked) (told_in marked)) h.carries
    ∙ same_missing s messages h.left_out (recorded_in (Some sync) edges) (changes_in marked) (told_in marked) (recorded-all s (Some sync) messages edges h) few
    ∙ ap (λ l. heard_from s (edges_in s messages - recorded_in (Some sync) edges) messages l (told_in marked)) (sym changes) in
    subst (λ (l : List HeardFrame). ArePlaced sync.windows marked l) same placed

pub placed-line : (s : Settings) (sync : SyncWindows) (messages : List Psi5Message) (edges : List NumberedEdge) → IsHonest s (Some sync) messages edges
    → AllZip (IsPlaced sync.windows) (slot_starts s sync edges) (heard_of s (Some sync) messages edges)
unfolding heard_of
placed-line s sync messages edges h =
    let missing = edges_in s messages - recorded_in (Some sync) edges in
    subst (λ (l : List Bool). ArePlaced sync.windows (slot_edges s sync edges) (heard_from s missing messages (changes_of s.bit (data_edges (Some sync) edges)) l)) (sym (told-line s.bit sync false false [] edges refl))
    (line-placed s sync messages edges (data_edges (Some sync) edges) h refl (measured-line s.bit sync false [] edges))

-- ---- the places
place_is : (windows : List Span) (edge : SlotEdge) (f : HeardFrame) → IsPlaced windows edge f → placed_in windows edge.history edge.time ≡ place_of f
place_is windows edge f placed = placed.place ∙ ap (λ p. if f.is_told then p else Before) (sym (ap in_slot placed.slot_is))

places_are : (windows : List Span) (edges : List SlotEdge) (frames : List HeardFrame) → AllZip (IsPlaced windows) edges frames → map (λ (edge : SlotEdge). placed_in windows edge.history edge.time) edges ≡ map place_of frames
places_are windows [] [] placed = refl
places_are windows [] (f ∷ frames) placed = absurd placed
places_are windows (edge ∷ edges) [] placed = absurd placed
places_are windows (edge ∷ edges) (f ∷ frames) placed = ap₂ (λ x l. x ∷ l) (place_is windows edge f placed.0) (places_are windows edges frames placed.1)

pub slot-places : (s : Settings) (sync : SyncWindows) (messages : List Psi5Message) (edges : List NumberedEdge) → IsHonest s (Some sync) messages edges
    → slot_places s sync edges ≡ map place_of (heard_of s (Some sync) messages edges)
slot-places s sync messages edges h = places_are sync.windows (slot_starts s sync edges) (heard_of s (Some sync) messages edges) (placed-line s sync messages edges h)

-- What is read of a data line, where all edges of a train are recorded of it: its frames.
--     parted      edges that are recorded of a list that was joined
--     frame_parts      the edges of a frame, and those behind it
--     frames_heard      all frames of a train
use Rattle.std.proofs.Common.{◌≡◌, ℕ, suc, ◌+◌, ◌-◌, ◌*◌, ◌≤◌, Bool, true, false, ◌||◌, not, cond, if◌then◌else◌, Option, Some, List, [], ◌∷◌, ◌++◌, length, map, drop, get_or, refl, sym, ◌∙◌, ap, ap₂, subst, arith}
use Rattle.std.specs.Option.{IfSome}
use Rattle.std.specs.List.{filter}
use Rattle.std.proofs.lemmas.List.{drop_at}
use Rattle.std.proofs.lemmas.List.Elements.{filter-append}
use Rattle.line_base.specs.Edges.{NumberedEdge}
use Rattle.psi5_frame.specs.declared.burst.Payload.{Payload}
use Rattle.psi5_frame.specs.declared.burst.Burst.TheVariants.{Good}
use Rattle.psi5_frame.specs.Intervals.{is_quiet}
use Rattle.psi5_frame.specs.Setup.{Settings}
use Rattle.psi5_frame.specs.Edges.{Change, change_at, changes_after}
use Rattle.psi5_frame.specs.Frames.{frame_of, waveform}
use Rattle.psi5_frame.specs.Bursts.{begins, has_start, run_of, last_of, judged, all_bursts, starts_in}
use Rattle.psi5_frame.proofs.Runs.{run_of-cons, run_none, no_bursts, starts-append}
use Rattle.psi5_tolerance.specs.Lines.{SyncWindows}
use Rattle.psi5_tolerance.specs.Trains.{Psi5Message, Sync, Burst as Sent, FrameSent, Sending, SyncAt, FrameAt, message_of, IdealEdge, edges_at, edges_sent, ideal_edges, SentBefore, end_of, sent_with, IsFrameSent, IsTrainBehind}
use Rattle.psi5_tolerance.specs.Traces.{on_data}
use Rattle.psi5_tolerance.specs.FromFirst.{HeardFrame, edge_count, number_at, heard_frame, heard_from, good_burst}
use Rattle.psi5_tolerance.proofs.Intervals.{AreBounds, between_frames}
use Rattle.psi5_tolerance.proofs.RecordedFrames.{AreEdges, length-edges, length-edges_at, last_time, FrameHeard, frame_heard}

-- ---- the data line's part of a train
data_at : (start half : ℕ) (level : Bool) (places : List ℕ) → on_data (edges_at start half level places) ≡ edges_at start half level places
unfolding edges_at
data_at start half level [] = refl
data_at start half level (place ∷ places) = ap (λ l. record { on_sync = false; time = start + place * half; level = level } ∷ l) (data_at start half (not level) places)

pub data-frame : (s : Settings) (f : FrameSent) → on_data (edges_sent s (FrameAt f)) ≡ edges_sent s (FrameAt f)
data-frame s f = data_at f.start f.half true (waveform (frame_of s f.payload))

pub data-append : (xs ys : List IdealEdge) → on_data (xs ++ ys) ≡ on_data xs ++ on_data ys
data-append xs ys = filter-append (λ (ideal : IdealEdge). not ideal.on_sync) xs ys

pub data-train : (s : Settings) (f : FrameSent) (sent : List Sending) → on_data (ideal_edges s (FrameAt f ∷ sent)) ≡ edges_sent s (FrameAt f) ++ on_data (ideal_edges s sent)
data-train s f sent = data-append (edges_sent s (FrameAt f)) (ideal_edges s sent) ∙ ap (λ l. l ++ on_data (ideal_edges s sent)) (data-frame s f)

-- ---- lists that were joined
pub record Parted (jitter : ℕ) (front back : List IdealEdge) (edges : List NumberedEdge) : Type 0 where
  pub left : List NumberedEdge
  pub right : List NumberedEdge
  pub is : edges ≡ left ++ right
  pub left_recorded : AreEdges jitter front left
  pub right_recorded : AreEdges jitter back right

pub parted : (jitter : ℕ) (front back : List IdealEdge) (edges : List NumberedEdge) → AreEdges jitter (front ++ back) edges → Parted jitter front back edges
parted jitter [] back edges recorded = record { left = []; right = edges; is = refl; left_recorded = tt; right_recorded = recorded }
parted jitter (ideal ∷ front) back [] recorded = absurd recorded
parted jitter (ideal ∷ front) back (e ∷ edges) recorded =
    let h = parted jitter front back edges recorded.1 in
    record { left = e ∷ h.left; right = h.right; is = ap (λ l. e ∷ l) h.is; left_recorded = (recorded.0, h.left_recorded); right_recorded = h.right_recorded }

pub changes_after-append : (bit time : ℕ) (xs ys : List NumberedEdge) → changes_after bit time (xs ++ ys) ≡ changes_after bit time xs ++ changes_after bit (last_time time xs) ys
unfolding changes_after
changes_after-append bit time [] ys = refl
changes_after-append bit time (e ∷ xs) ys = ap (λ l. change_at bit time e ∷ l) (changes_after-append bit e.edge.time xs ys)

pub length-changes_after : (bit time : ℕ) (edges : List NumberedEdge) → length (changes_after bit time edges) ≡ length edges
unfolding changes_after
length-changes_after bit time [] = refl
length-changes_after bit time (e ∷ edges) = ap suc (length-changes_after bit e.edge.time edges)

pub length-frame : (s : Settings) (f : FrameSent) → length (edges_sent s (FrameAt f)) ≡ edge_count s (message_of (FrameAt f))
length-frame s f = length-edges_at f.start f.half true (waveform (frame_of s f.payload))

-- ---- one burst of many
-- nothing follows, or what follows begins a burst
abbrev pub BeginsOrEmpty : List Change → Type 0
BeginsOrEmpty [] = Unit {0}
BeginsOrEmpty (edge ∷ edges) = begins edge ≡ true

pub no_or : (a b : Bool) → (a || b) ≡ false → (a ≡ false) × (b ≡ false)
no_or true b e = absurd cc
no_or false b e = (refl, e)

run_ended : (rest : List Change) → BeginsOrEmpty rest → run_of rest ≡ []
run_ended [] starts = run_none
run_ended (edge ∷ rest) starts = run_of-cons edge rest ∙ rw starts refl

run_up_to : (later rest : List Change) → has_start later ≡ false → BeginsOrEmpty rest → run_of (later ++ rest) ≡ later
unfolding has_start
run_up_to [] rest none starts = run_ended rest starts
run_up_to (edge ∷ later) rest none starts =
    let parts = no_or (begins edge) (has_start later) none in
    run_of-cons edge (later ++ rest) ∙ rw parts.0 (ap (λ l. edge ∷ l) (run_up_to later rest parts.1 starts))

pub skip_loud : (s : Settings) (edges rest : List Change) → has_start edges ≡ false → all_bursts s (edges ++ rest) ≡ all_bursts s rest
unfolding all_bursts has_start
skip_loud s [] rest none = refl
skip_loud s (edge ∷ edges) rest none =
    let parts = no_or (begins edge) (has_start edges) none in
    rw parts.0 (skip_loud s edges rest parts.1)

one_burst : (s : Settings) (first : Change) (later rest : List Change) → has_start later ≡ false → BeginsOrEmpty rest
    → all_bursts s (first ∷ (later ++ rest)) ≡ cond (begins first) (judged s first later ∷ []) [] ++ all_bursts s rest
unfolding all_bursts
one_burst s first later rest none starts = rw (run_up_to later rest none starts, skip_loud s later rest none) (by_first (begins first))
  where
    by_first : (b : Bool) → cond b (judged s first later ∷ all_bursts s rest) (all_bursts s rest) ≡ cond b (judged s first later ∷ []) [] ++ all_bursts s rest
    by_first true = refl
    by_first false = refl

pub skip_starts : (s : Settings) (edges rest : List Change) → has_start edges ≡ false → starts_in (edges ++ rest) ≡ starts_in rest
skip_starts s edges rest none = starts-append edges rest ∙ ap (λ l. l ++ starts_in rest) (no_bursts s edges none).starts

one_start : (s : Settings) (first : Change) (later rest : List Change) → has_start later ≡ false
    → starts_in (first ∷ (later ++ rest)) ≡ cond (begins first) (first.number ∷ []) [] ++ starts_in rest
unfolding starts_in
one_start s first later rest none = by_first (begins first) ∙ ap (λ l. cond (begins first) (first.number ∷ []) [] ++ l) (skip_starts s later rest none)
  where
    by_first : (b : Bool) → map (λ (edge : Change). edge.number) (cond b (first ∷ filter begins (later ++ rest)) (filter begins (later ++ rest)))
        ≡ cond b (first.number ∷ []) [] ++ map (λ (edge : Change). edge.number) (filter begins (later ++ rest))
    by_first true = refl
    by_first false = refl

number_last : (first : Change) (later rest : List Change) → number_at (first ∷ (later ++ rest)) (length later) ≡ (last_of first later).number
number_last first [] rest = refl
number_last first (edge ∷ later) rest = number_last edge later rest

-- ---- a frame, and what comes behind it
pub record FrameParts (s : Settings) (f : FrameSent) (sent : List Sending) (time : ℕ) (edges : List NumberedEdge) : Type 0 where
  pub left : List NumberedEdge
  pub right : List NumberedEdge
  pub is : edges ≡ left ++ right
  pub heard : FrameHeard s f time left
  pub count : edge_count s (message_of (FrameAt f)) ≡ length left
  pub recorded : AreEdges s.jitter (on_data (ideal_edges s sent)) right

pub frame_parts : (s : Settings) (sync : Option SyncWindows) (before : SentBefore) (f : FrameSent) (sent : List Sending) (time : ℕ) (edges : List NumberedEdge) → AreBounds s.bit s.jitter → IsFrameSent s sync before f
    → AreEdges s.jitter (on_data (ideal_edges s (FrameAt f ∷ sent))) edges → FrameParts s f sent time edges
frame_parts s sync before f sent time edges b may recorded =
    let parts = parted s.jitter (edges_sent s (FrameAt f)) (on_data (ideal_edges s sent)) edges (subst (λ (l : List IdealEdge). AreEdges s.jitter l edges) (data-train s f sent) recorded) in
    record {
      left = parts.left;
      right = parts.right;
      is = parts.is;
      heard = frame_heard s sync before f time parts.left b may parts.left_recorded;
      count = sym (length-edges s.jitter (edges_sent s (FrameAt f)) parts.left parts.left_recorded ∙ length-frame s f);
      recorded = parts.right_recorded;
    }

-- the changes that these edges are
abbrev pub first_change : {s : Settings} {f : FrameSent} {time : ℕ} {edges : List NumberedEdge} → FrameHeard s f time edges → Change
first_change {s} {f} {time} h = change_at s.bit time h.first

abbrev pub later_changes : {s : Settings} {f : FrameSent} {time : ℕ} {edges : List NumberedEdge} → FrameHeard s f time edges → List Change
later_changes {s} h = changes_after s.bit h.first.edge.time h.rest

pub changes-parts : (s : Settings) (f : FrameSent) (sent : List Sending) (time : ℕ) (edges : List NumberedEdge) (p : FrameParts s f sent time edges)
    → changes_after s.bit time edges ≡ first_change p.heard ∷ (later_changes p.heard ++ changes_after s.bit (last_time time p.left) p.right)
unfolding changes_after
changes-parts s f sent time edges p =
    ap (changes_after s.bit time) p.is ∙ changes_after-append s.bit time p.left p.right
    ∙ ap (λ l. changes_after s.bit time l ++ changes_after s.bit (last_time time p.left) p.right) p.heard.is

pub count-parts : (s : Settings) (f : FrameSent) (sent : List Sending) (time : ℕ) (edges : List NumberedEdge) (p : FrameParts s f sent time edges) → edge_count s (message_of (FrameAt f)) ≡ suc (length (later_changes p.heard))
count-parts s f sent time edges p = p.count ∙ ap length p.heard.is ∙ ap suc (sym (length-changes_after s.bit p.heard.first.edge.time p.heard.rest))

-- the next frame's first edge begins a burst
pub next_begins : (s : Settings) (sync : Option SyncWindows) (before : SentBefore) (sent : List Sending) (end time : ℕ) (edges : List NumberedEdge) → AreBounds s.bit s.jitter → IsTrainBehind s sync before sent
    → before.frame_end ≡ Some end → 1000 * time ≤ end + 1000 * s.jitter → AreEdges s.jitter (on_data (ideal_edges s sent)) edges → BeginsOrEmpty (changes_after s.bit time edges)
unfolding changes_after
next_begins s sync before [] end time [] b train is late recorded = tt
next_begins s sync before [] end time (e ∷ edges) b train is late recorded = absurd recorded
next_begins s sync before (SyncAt pulse ∷ sent) end time edges b train is late recorded = next_begins s sync (sent_with s before (SyncAt pulse)) sent end time edges b train.1 is late recorded
next_begins s sync before (FrameAt f ∷ sent) end time edges b train is late recorded =
    let p = frame_parts s sync before f sent time edges b train.0 recorded in
    let apart = subst (λ (o : Option ℕ). IfSome o (λ n. n + 1050 * s.bit ≤ f.start)) is train.0.apart in
    let quiet = between_frames s.bit s.jitter f.half end time f.start p.heard.first.edge.time b train.0.half_bits late apart p.heard.at in
    subst (λ (l : List Change). BeginsOrEmpty l) (sym (changes-parts s f sent time edges p)) (ap is_quiet quiet)

-- ---- a train
-- the bursts of these edges are those of the frames that are heard
pub record Tells (s : Settings) (edges : List Change) (frames : List HeardFrame) : Type 0 where
  pub bursts : all_bursts s edges ≡ map good_burst frames
  pub starts : starts_in edges ≡ map (λ (f : HeardFrame). f.first) frames

pub first_frame : (s : Settings) (slot : Option ℕ) (p : Payload) (messages : List Psi5Message) (edges : List Change) (told : List Bool) → heard_from s 0 (Sent slot p ∷ messages) edges told
    ≡ heard_frame (edge_count s (Sent slot p)) slot p edges told ++ heard_from s 0 messages (drop (edge_count s (Sent slot p)) edges) (drop (edge_count s (Sent slot p)) told)
unfolding heard_from
first_frame s slot p messages edges told = refl

frame_tells : (s : Settings) (slot : Option ℕ) (p : Payload) (first : Change) (later rest : List Change) (frames : List HeardFrame) (told : List Bool) → has_start later ≡ false → BeginsOrEmpty rest
    → judged s first later ≡ Good (last_of first later).number p → edge_count s (Sent slot p) ≡ suc (length later) → Tells s rest frames
    → Tells s (first ∷ (later ++ rest)) (heard_frame (edge_count s (Sent slot p)) slot p (first ∷ (later ++ rest)) told ++ frames)
frame_tells s slot p first later rest frames told none next said count then_tells = record {
  bursts = one_burst s first later rest none next ∙ by_burst (begins first);
  starts = one_start s first later rest none ∙ by_start (begins first);
}
  where
    number : number_at (first ∷ (later ++ rest)) (edge_count s (Sent slot p) - 1) ≡ (last_of first later).number
    number = let e : edge_count s (Sent slot p) - 1 ≡ length later = omega (arith, count) in ap (number_at (first ∷ (later ++ rest))) e ∙ number_last first later rest

    here : Bool → List HeardFrame
    here b = if b then record { first = first.number; last = number_at (first ∷ (later ++ rest)) (edge_count s (Sent slot p) - 1); is_told = get_or told 0 false; slot = slot; payload = p } ∷ [] else []

    by_burst : (b : Bool) → cond b (judged s first later ∷ []) [] ++ all_bursts s rest ≡ map good_burst (here b ++ frames)
    by_burst true = ap₂ (λ x l. x ∷ l) (said ∙ ap (λ n. Good n p) (sym number)) then_tells.bursts
    by_burst false = then_tells.bursts

    by_start : (b : Bool) → cond b (first.number ∷ []) [] ++ starts_in rest ≡ map (λ (f : HeardFrame). f.first) (here b ++ frames)
    by_start true = ap (λ l. first.number ∷ l) then_tells.starts
    by_start false = then_tells.starts

none_told : (s : Settings) (time : ℕ) (told : List Bool) → Tells s (changes_after s.bit time []) (heard_from s 0 [] (changes_after s.bit time []) told)
unfolding changes_after all_bursts starts_in heard_from
none_told s time told = record { bursts = refl; starts = refl }

pub sync_passes : (s : Settings) (messages : List Psi5Message) (edges : List Change) (told : List Bool) → heard_from s 0 messages edges told ≡ heard_from s 0 (Sync ∷ messages) edges told
unfolding heard_from
sync_passes s messages edges told = refl

pub frames_heard : (s : Settings) (sync : Option SyncWindows) (before : SentBefore) (sent : List Sending) (time : ℕ) (edges : List NumberedEdge) (told : List Bool) → AreBounds s.bit s.jitter → IsTrainBehind s sync before sent
    → AreEdges s.jitter (on_data (ideal_edges s sent)) edges → Tells s (changes_after s.bit time edges) (heard_from s 0 (map message_of sent) (changes_after s.bit time edges) told)
frames_heard s sync before [] time [] told b train recorded = none_told s time told
frames_heard s sync before [] time (e ∷ edges) told b train recorded = absurd recorded
frames_heard s sync before (SyncAt pulse ∷ sent) time edges told b train recorded =
    subst (λ (l : List HeardFrame). Tells s (changes_after s.bit time edges) l) (sync_passes s (map message_of sent) (changes_after s.bit time edges) told)
    (frames_heard s sync (sent_with s before (SyncAt pulse)) sent time edges told b train.1 recorded)
frames_heard s sync before (FrameAt f ∷ sent) time edges told b train recorded =
    let p = frame_parts s sync before f sent time edges b train.0 recorded in
    let first = first_change p.heard in
    let later = later_changes p.heard in
    let after = last_time time p.left in
    let rest = changes_after s.bit after p.right in
    let all = first ∷ (later ++ rest) in
    let count = count-parts s f sent time edges p in
    let n = edge_count s (message_of (FrameAt f)) in
    let behind = sent_with s before (FrameAt f) in
    let next = next_begins s sync behind sent (end_of s f) after p.right b train.1 refl p.heard.ends p.recorded in
    let left : drop n all ≡ rest = ap (λ k. drop k all) count ∙ drop_at later rest (length later) refl in
    let whole : heard_from s 0 (map message_of (FrameAt f ∷ sent)) all told ≡ heard_frame n f.slot f.payload all told ++ heard_from s 0 (map message_of sent) rest (drop n told) =
    first_frame s f.slot f.payload (map message_of sent) all told ∙ ap (λ l. heard_frame n f.slot f.payload all told ++ heard_from s 0 (map message_of sent) l (drop n told)) left in
    let tells = frame_tells s f.slot f.payload first later rest (heard_from s 0 (map message_of sent) rest (drop n told)) told p.heard.goes_on next p.heard.said count
    (frames_heard s sync behind sent after p.right (drop n told) b train.1 p.recorded) in
    subst (λ (l : List Change). Tells s l (heard_from s 0 (map message_of (FrameAt f ∷ sent)) l told)) (sym (changes-parts s f sent time edges p))
    (subst (λ (l : List HeardFrame). Tells s all l) (sym whole) tells)

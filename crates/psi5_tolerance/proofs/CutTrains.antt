-- What is read of a data line, where the first edges of a train are missing.
--     drop_in, drop_past, take_in, take_past      a joined list
--     part_loud      no burst begins in what is left of a frame
--     trace_heard      the frames of such a train
use Rattle.std.proofs.Common.{◌≡◌, ℕ, zero, suc, ◌+◌, ◌-◌, ◌*◌, ◌<◌, ◌≤◌, Bool, true, false, not, Option, List, [], ◌∷◌, ◌++◌, length, map, take, drop, refl, sym, ◌∙◌, ap, ap₂, subst, inl, inr, arith}
use Rattle.std.proofs.lemmas.Bool.{cases_lt}
use Rattle.std.proofs.lemmas.List.{drop_at, map-append}
use Rattle.line_base.specs.Edges.{NumberedEdge}
use Rattle.link_math.specs.Manchester.{halves_in}
use Rattle.psi5_frame.specs.Intervals.{is_quiet}
use Rattle.psi5_frame.specs.Setup.{Settings}
use Rattle.psi5_frame.specs.Edges.{Change, changes_after}
use Rattle.psi5_frame.specs.Frames.{frame_of, waveform}
use Rattle.psi5_frame.specs.Bursts.{has_start, all_bursts, starts_in}
use Rattle.link_tolerance.specs.Recorded.{IsRecorded, OpensAfter}
use Rattle.psi5_tolerance.specs.Lines.{SyncWindows}
use Rattle.psi5_tolerance.specs.Trains.{Psi5Message, Sync, FrameSent, Sending, SyncAt, FrameAt, message_of, IdealEdge, edges_at, edges_sent, ideal_edges, SentBefore, sent_with, IsHalf, IsFrameSent, IsTrainBehind}
use Rattle.psi5_tolerance.specs.Traces.{on_data, ideal_times}
use Rattle.psi5_tolerance.specs.FromFirst.{HeardFrame, edge_count, heard_from}
use Rattle.psi5_tolerance.proofs.Intervals.{AreBounds, from_opening}
use Rattle.psi5_tolerance.proofs.RecordedFrames.{AreEdges, length-edges, last_time, StepPlaces, are_places, heard, later_bits, later_places, waveform_is, no_start_in}
use Rattle.psi5_tolerance.proofs.HeardFrames.{parted, changes_after-append, length-changes_after, length-frame, data-append, skip_loud, skip_starts, Tells, frames_heard}

-- ---- joined lists
pub drop_past : {A : Type 0} (n : ℕ) (front back : List A) → length front ≤ n → drop n (front ++ back) ≡ drop (n - length front) back
drop_past n [] back within = let e : n ≡ n - 0 = omega arith in ap (λ k. drop k back) e
drop_past zero (x ∷ front) back within = absurd (omega arith)
drop_past (suc n) (x ∷ front) back within = let e : n - length front ≡ suc n - suc (length front) = omega arith in drop_past n front back (omega arith) ∙ ap (λ k. drop k back) e

pub take_past : {A : Type 0} (n : ℕ) (front back : List A) → length front ≤ n → take n (front ++ back) ≡ front ++ take (n - length front) back
take_past n [] back within = let e : n ≡ n - 0 = omega arith in ap (λ k. take k back) e
take_past zero (x ∷ front) back within = absurd (omega arith)
take_past (suc n) (x ∷ front) back within = let e : n - length front ≡ suc n - suc (length front) = omega arith in ap (λ l. x ∷ l) (take_past n front back (omega arith) ∙ ap (λ k. front ++ take k back) e)

pub drop_in : {A : Type 0} (n : ℕ) (front back : List A) → n ≤ length front → drop n (front ++ back) ≡ drop n front ++ back
drop_in zero front back within = refl
drop_in (suc n) [] back within = absurd (omega arith)
drop_in (suc n) (x ∷ front) back within = drop_in n front back (omega arith)

pub take_in : {A : Type 0} (n : ℕ) (front back : List A) → n ≤ length front → take n (front ++ back) ≡ take n front
take_in zero front back within = refl
take_in (suc n) [] back within = absurd (omega arith)
take_in (suc n) (x ∷ front) back within = ap (λ l. x ∷ l) (take_in n front back (omega arith))

pub length-dropped : {A : Type 0} (n : ℕ) (xs : List A) → length (drop n xs) ≡ length xs - n
length-dropped zero xs = omega arith
length-dropped (suc n) [] = omega arith
length-dropped (suc n) (x ∷ xs) = omega (arith, length-dropped n xs)

-- an opening behind a joined list is behind its back
pub opens-later : (jitter opening : ℕ) (front back : List ℕ) → OpensAfter jitter opening (front ++ back) → OpensAfter jitter opening back
opens-later jitter opening [] back opens = opens
opens-later jitter opening (ideal ∷ []) [] opens = tt
opens-later jitter opening (ideal ∷ []) (next ∷ back) opens = opens
opens-later jitter opening (ideal ∷ next ∷ front) back opens = opens-later jitter opening (next ∷ front) back opens

-- ---- the edges of a frame
at-places : (start half : ℕ) (level : Bool) (place : ℕ) (places : List ℕ)
    → edges_at start half level (place ∷ places) ≡ record { on_sync = false; time = start + place * half; level = level } ∷ edges_at start half (not level) places
unfolding edges_at
at-places start half level place places = refl

dropped_at : (n start half : ℕ) (level : Bool) (places : List ℕ) → on_data (drop n (edges_at start half level places)) ≡ drop n (edges_at start half level places)
unfolding edges_at
dropped_at zero start half level [] = refl
dropped_at zero start half level (place ∷ places) = ap (λ l. record { on_sync = false; time = start + place * half; level = level } ∷ l) (dropped_at zero start half (not level) places)
dropped_at (suc n) start half level [] = refl
dropped_at (suc n) start half level (place ∷ places) = dropped_at n start half (not level) places

taken_at : (n start half : ℕ) (level : Bool) (places : List ℕ) → on_data (take n (edges_at start half level places)) ≡ take n (edges_at start half level places)
unfolding edges_at
taken_at zero start half level places = refl
taken_at (suc n) start half level [] = refl
taken_at (suc n) start half level (place ∷ places) = ap (λ l. record { on_sync = false; time = start + place * half; level = level } ∷ l) (taken_at n start half (not level) places)

pub data-dropped : (s : Settings) (f : FrameSent) (n : ℕ) → on_data (drop n (edges_sent s (FrameAt f))) ≡ drop n (edges_sent s (FrameAt f))
data-dropped s f n = dropped_at n f.start f.half true (waveform (frame_of s f.payload))

pub data-taken : (s : Settings) (f : FrameSent) (n : ℕ) → on_data (take n (edges_sent s (FrameAt f))) ≡ take n (edges_sent s (FrameAt f))
data-taken s f n = taken_at n f.start f.half true (waveform (frame_of s f.payload))

-- ---- what is left of a frame
-- where the line was opened within a frame, no burst begins in what is left of it
part_loud : (s : Settings) (f : FrameSent) (missing place : ℕ) (level : Bool) (opening : ℕ) (places : List ℕ) (edges : List NumberedEdge) → AreBounds s.bit s.jitter → IsHalf s.bit f.half → StepPlaces place places
    → OpensAfter s.jitter opening (ideal_times (record { on_sync = false; time = f.start + place * f.half; level = level } ∷ take missing (edges_at f.start f.half (not level) places)))
    → AreEdges s.jitter (drop missing (edges_at f.start f.half (not level) places)) edges → has_start (changes_after s.bit opening edges) ≡ false
unfolding edges_at changes_after has_start
part_loud s f zero place level opening [] [] b h apart opens recorded = refl
part_loud s f zero place level opening [] (e ∷ edges) b h apart opens recorded = absurd recorded
part_loud s f zero place level opening (next ∷ places) [] b h apart opens recorded = absurd recorded
part_loud s f zero place level opening (next ∷ places) (e ∷ edges) b h apart opens recorded =
    let there = recorded.0.at in
    let rest = heard s f.start f.half next (not level) e.edge.time places edges b h there apart.1 recorded.1 in
    let first : is_quiet (halves_in (e.edge.time - opening) s.bit) ≡ false = elim apart.0 [
      | inl one ↦ from_opening s.bit s.jitter f.half (f.start + place * f.half) opening e.edge.time 1 b h (omega arith) opens
          (subst (λ (n : ℕ). IsRecorded s.jitter n e.edge.time) (ap (λ n. f.start + n * f.half) one ∙ omega arith) there)
      | inr two ↦ from_opening s.bit s.jitter f.half (f.start + place * f.half) opening e.edge.time 2 b h (omega arith) opens
          (subst (λ (n : ℕ). IsRecorded s.jitter n e.edge.time) (ap (λ n. f.start + n * f.half) two ∙ omega arith) there)
    ] in
    rw first (no_start_in (changes_after s.bit e.edge.time edges) rest.steps)
part_loud s f (suc missing) place level opening [] [] b h apart opens recorded = refl
part_loud s f (suc missing) place level opening [] (e ∷ edges) b h apart opens recorded = absurd recorded
part_loud s f (suc missing) place level opening (next ∷ places) edges b h apart opens recorded =
    part_loud s f missing next (not level) opening places edges b h apart.1 opens recorded

-- a frame of which the first edges are missing
pub part_frame : (s : Settings) (sync : Option SyncWindows) (before : SentBefore) (f : FrameSent) (missing opening : ℕ) (edges : List NumberedEdge) → AreBounds s.bit s.jitter → IsFrameSent s sync before f
    → OpensAfter s.jitter opening (ideal_times (take (suc missing) (edges_sent s (FrameAt f)))) → AreEdges s.jitter (drop (suc missing) (edges_sent s (FrameAt f))) edges
    → has_start (changes_after s.bit opening edges) ≡ false
part_frame s sync before f missing opening edges b may opens recorded =
    let places = later_places s f.payload in
    let whole : edges_sent s (FrameAt f) ≡ record { on_sync = false; time = f.start + 1 * f.half; level = true } ∷ edges_at f.start f.half false places =
    ap (edges_at f.start f.half true) (waveform_is s f.payload) ∙ at-places f.start f.half true 1 places in
    part_loud s f missing 1 true opening places edges b may.half_bits (are_places (later_bits s f.payload) 1 true).apart
    (subst (λ (l : List IdealEdge). OpensAfter s.jitter opening (ideal_times (take (suc missing) l))) whole opens)
    (subst (λ (l : List IdealEdge). AreEdges s.jitter (drop (suc missing) l) edges) whole recorded)

-- ---- a train of which the first edges are missing
pub none_left : (s : Settings) (missing time : ℕ) (told : List Bool) → Tells s (changes_after s.bit time []) (heard_from s missing [] (changes_after s.bit time []) told)
unfolding all_bursts starts_in changes_after heard_from
none_left s missing time told = record { bursts = refl; starts = refl }

pub next_missing : (s : Settings) (missing : ℕ) (message : Psi5Message) (messages : List Psi5Message) (edges : List Change) (told : List Bool) (rest dropped : ℕ) → suc missing - edge_count s message ≡ rest → edge_count s message - suc missing ≡ dropped
    → heard_from s rest messages (drop dropped edges) (drop dropped told) ≡ heard_from s (suc missing) (message ∷ messages) edges told
unfolding heard_from
next_missing s missing message messages edges told rest dropped e d = sym (ap₂ (λ n k. heard_from s n messages (drop k edges) (drop k told)) e d)

-- the parts of a train that begins with a frame, all of whose edges are missing, or only some
pub record PastFrame (s : Settings) (f : FrameSent) (sent : List Sending) (missing : ℕ) (opening : ℕ) (edges : List NumberedEdge) : Type 0 where
  pub recorded : AreEdges s.jitter (on_data (drop (suc missing - edge_count s (message_of (FrameAt f))) (ideal_edges s sent))) edges
  pub opens : OpensAfter s.jitter opening (ideal_times (on_data (take (suc missing - edge_count s (message_of (FrameAt f))) (ideal_edges s sent))))

pub past_frame : (s : Settings) (f : FrameSent) (sent : List Sending) (missing opening : ℕ) (edges : List NumberedEdge) → edge_count s (message_of (FrameAt f)) ≤ suc missing
    → AreEdges s.jitter (on_data (drop (suc missing) (ideal_edges s (FrameAt f ∷ sent)))) edges → OpensAfter s.jitter opening (ideal_times (on_data (take (suc missing) (ideal_edges s (FrameAt f ∷ sent)))))
    → PastFrame s f sent missing opening edges
past_frame s f sent missing opening edges whole recorded opens =
    let front = edges_sent s (FrameAt f) in
    let back = ideal_edges s sent in
    let long : length front ≤ suc missing = omega (arith, whole, length-frame s f) in
    let rest = suc missing - edge_count s (message_of (FrameAt f)) in
    let same : suc missing - length front ≡ rest = ap (λ n. suc missing - n) (length-frame s f) in
    let dropped : drop (suc missing) (front ++ back) ≡ drop rest back = drop_past (suc missing) front back long ∙ ap (λ n. drop n back) same in
    let taken : take (suc missing) (front ++ back) ≡ front ++ take rest back = take_past (suc missing) front back long ∙ ap (λ n. front ++ take n back) same in
    let parts : ideal_times (on_data (front ++ take rest back)) ≡ ideal_times (on_data front) ++ ideal_times (on_data (take rest back)) =
    ap ideal_times (data-append front (take rest back)) ∙ map-append (λ (ideal : IdealEdge). ideal.time) (on_data front) (on_data (take rest back)) in
    record {
      recorded = subst (λ (l : List IdealEdge). AreEdges s.jitter (on_data l) edges) dropped recorded;
      opens = opens-later s.jitter opening (ideal_times (on_data front)) (ideal_times (on_data (take rest back)))
          (subst (λ (l : List ℕ). OpensAfter s.jitter opening l) (ap (λ l. ideal_times (on_data l)) taken ∙ parts) opens);
    }

pub record InFrame (s : Settings) (f : FrameSent) (sent : List Sending) (missing : ℕ) (opening : ℕ) (edges : List NumberedEdge) : Type 0 where
  pub left : List NumberedEdge
  pub right : List NumberedEdge
  pub is : edges ≡ left ++ right
  pub loud : has_start (changes_after s.bit opening left) ≡ false
  pub long : length left ≡ edge_count s (message_of (FrameAt f)) - suc missing
  pub recorded : AreEdges s.jitter (on_data (ideal_edges s sent)) right

pub in_frame : (s : Settings) (sync : Option SyncWindows) (before : SentBefore) (f : FrameSent) (sent : List Sending) (missing opening : ℕ) (edges : List NumberedEdge) → AreBounds s.bit s.jitter → IsFrameSent s sync before f
    → suc missing < edge_count s (message_of (FrameAt f))
    → AreEdges s.jitter (on_data (drop (suc missing) (ideal_edges s (FrameAt f ∷ sent)))) edges → OpensAfter s.jitter opening (ideal_times (on_data (take (suc missing) (ideal_edges s (FrameAt f ∷ sent)))))
    → InFrame s f sent missing opening edges
in_frame s sync before f sent missing opening edges b may part recorded opens =
    let front = edges_sent s (FrameAt f) in
    let back = ideal_edges s sent in
    let within : suc missing ≤ length front = omega (arith, part, length-frame s f) in
    let dropped : on_data (drop (suc missing) (front ++ back)) ≡ drop (suc missing) front ++ on_data back =
    ap on_data (drop_in (suc missing) front back within) ∙ data-append (drop (suc missing) front) back ∙ ap (λ l. l ++ on_data back) (data-dropped s f (suc missing)) in
    let taken : on_data (take (suc missing) (front ++ back)) ≡ take (suc missing) front = ap on_data (take_in (suc missing) front back within) ∙ data-taken s f (suc missing) in
    let parts = parted s.jitter (drop (suc missing) front) (on_data back) edges (subst (λ (l : List IdealEdge). AreEdges s.jitter l edges) dropped recorded) in
    record {
      left = parts.left;
      right = parts.right;
      is = parts.is;
      loud = part_frame s sync before f missing opening parts.left b may (subst (λ (l : List IdealEdge). OpensAfter s.jitter opening (ideal_times l)) taken opens) parts.left_recorded;
      long = length-edges s.jitter (drop (suc missing) front) parts.left parts.left_recorded ∙ length-dropped (suc missing) front ∙ ap (λ n. n - suc missing) (length-frame s f);
      recorded = parts.right_recorded;
    }

pub trace_heard : (s : Settings) (sync : Option SyncWindows) (before : SentBefore) (sent : List Sending) (missing opening : ℕ) (edges : List NumberedEdge) (told : List Bool) → AreBounds s.bit s.jitter → IsTrainBehind s sync before sent
    → AreEdges s.jitter (on_data (drop missing (ideal_edges s sent))) edges → OpensAfter s.jitter opening (ideal_times (on_data (take missing (ideal_edges s sent))))
    → Tells s (changes_after s.bit opening edges) (heard_from s missing (map message_of sent) (changes_after s.bit opening edges) told)
trace_heard s sync before sent zero opening edges told b train recorded opens = frames_heard s sync before sent opening edges told b train recorded
trace_heard s sync before [] (suc missing) opening [] told b train recorded opens = none_left s (suc missing) opening told
trace_heard s sync before [] (suc missing) opening (e ∷ edges) told b train recorded opens = absurd recorded
trace_heard s sync before (SyncAt pulse ∷ sent) (suc missing) opening edges told b train recorded opens =
    let changes = changes_after s.bit opening edges in
    subst (λ (l : List HeardFrame). Tells s changes l) (next_missing s missing Sync (map message_of sent) changes told missing 0 (omega arith) (omega arith))
    (trace_heard s sync (sent_with s before (SyncAt pulse)) sent missing opening edges told b train.1 recorded opens)
trace_heard s sync before (FrameAt f ∷ sent) (suc missing) opening edges told b train recorded opens =
    let message = message_of (FrameAt f) in
    let count = edge_count s message in
    let changes = changes_after s.bit opening edges in
    let messages = map message_of sent in
    let behind = sent_with s before (FrameAt f) in
    elim (cases_lt (suc missing) count) [
      | inl part ↦
          let p = in_frame s sync before f sent missing opening edges b train.0 part recorded opens in
          let after = last_time opening p.left in
          let left = changes_after s.bit opening p.left in
          let right = changes_after s.bit after p.right in
          let n = count - suc missing in
          let all : changes ≡ left ++ right = ap (changes_after s.bit opening) p.is ∙ changes_after-append s.bit opening p.left p.right in
          let long : length left ≡ n = length-changes_after s.bit opening p.left ∙ p.long in
          let h = frames_heard s sync behind sent after p.right (drop n told) b train.1 p.recorded in
          let frames : heard_from s 0 messages right (drop n told) ≡ heard_from s (suc missing) (message ∷ messages) changes told =
          ap (λ l. heard_from s 0 messages l (drop n told)) (sym (ap (drop n) all ∙ drop_at left right n long))
          ∙ next_missing s missing message messages changes told 0 n (omega (arith, part)) refl in
          subst (λ (l : List HeardFrame). Tells s changes l) frames (record {
            bursts = ap (all_bursts s) all ∙ skip_loud s left right p.loud ∙ h.bursts;
            starts = ap starts_in all ∙ skip_starts s left right p.loud ∙ h.starts;
          })
      | inr whole ↦
          let p = past_frame s f sent missing opening edges whole recorded opens in
          let rest = suc missing - count in
          subst (λ (l : List HeardFrame). Tells s changes l) (next_missing s missing message messages changes told rest 0 refl (omega (arith, whole)))
          (trace_heard s sync behind sent rest opening edges told b train.1 p.recorded p.opens)
    ]

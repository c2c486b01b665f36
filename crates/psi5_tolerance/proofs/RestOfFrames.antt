-- Behind the first frame that is read none is missing.
--     line-rest      of the frames that are heard on the data line
--     none-missing      of those that are told
use Rattle.std.proofs.Common.{◌≡◌, ℕ, zero, suc, ◌-◌, Bool, true, false, ◌&&◌, ◌||◌, not, cond, if◌then◌else◌, Option, is_none, List, [], ◌∷◌, ◌++◌, length, map, take, drop, refl, sym, ◌∙◌, ap, subst, inl, inr, arith}
use Rattle.std.specs.List.{filter}
use Rattle.std.proofs.lemmas.Bool.{cases_lt}
use Rattle.std.proofs.lemmas.List.{drop_at}
use Rattle.line_base.specs.Edges.{NumberedEdge}
use Rattle.psi5_frame.specs.declared.burst.Payload.{Payload}
use Rattle.psi5_frame.specs.Setup.{Settings}
use Rattle.psi5_frame.specs.Edges.{Change, changes_of, changes_after}
use Rattle.psi5_frame.specs.Bursts.{begins}
use Rattle.link_tolerance.specs.Recorded.{OpensAfter}
use Rattle.psi5_tolerance.specs.Lines.{SyncWindows, is_on_sync, data_edges, synced_after, told_edges}
use Rattle.psi5_tolerance.specs.Trains.{Psi5Message, Sync, Burst as Sent, FrameSent, Sending, SyncAt, FrameAt, message_of, ideal_edges, SentBefore, nothing_sent, end_of, sent_with, IsTrainBehind}
use Rattle.psi5_tolerance.specs.Traces.{on_data, ideal_times, IsHonest}
use Rattle.psi5_tolerance.specs.FromFirst.{HeardFrame, edge_count, number_at, heard_frame, heard_from, edges_in, recorded_in, heard_of, from_first, bursts_in, said, IsRestOf}
use Rattle.psi5_tolerance.proofs.Intervals.{AreBounds, bounds-accepted}
use Rattle.psi5_tolerance.proofs.RecordedFrames.{AreEdges, last_time}
use Rattle.psi5_tolerance.proofs.HeardFrames.{BeginsOrEmpty, changes_after-append, length-changes_after, frame_parts, changes-parts, count-parts, first_change, later_changes, next_begins, first_frame, sync_passes}
use Rattle.psi5_tolerance.proofs.CutTrains.{next_missing, in_frame, past_frame}
use Rattle.psi5_tolerance.proofs.DataLines.{by-line, Covers, covers-drop, all_told}

-- ---- what is said
abbrev Says : List HeardFrame → List Psi5Message → Type 0
Says frames messages = IsRestOf (map said frames) messages

says-all : (frames : List HeardFrame) (messages : List Psi5Message) → map said frames ≡ messages → Says frames messages
says-all frames messages is = record { passed = 0; is = is }

says-less : (frames : List HeardFrame) (message : Psi5Message) (messages : List Psi5Message) → Says frames messages → Says frames (message ∷ messages)
says-less frames message messages says = record { passed = suc says.passed; is = says.is }

drop_none : (n : ℕ) → drop {A = Psi5Message} n [] ≡ []
drop_none zero = refl
drop_none (suc n) = refl

-- nothing is the rest of all messages
drop_all : (messages : List Psi5Message) → drop (length messages) messages ≡ []
drop_all [] = refl
drop_all (message ∷ messages) = drop_all messages

says-nothing : (messages : List Psi5Message) → Says [] messages
says-nothing messages = record { passed = length messages; is = sym (drop_all messages) }

-- ---- all edges of a train
-- a frame's part of what is heard
frame_said : (count : ℕ) (slot : Option ℕ) (p : Payload) (edge : Change) (edges : List Change) (told : List Bool) (frames : List HeardFrame) (messages : List Psi5Message) (b : Bool) → begins edge ≡ b → map said frames ≡ messages
    → map said (heard_frame count slot p (edge ∷ edges) told ++ frames) ≡ (if b then Sent slot p ∷ messages else messages)
frame_said count slot p edge edges told frames messages true is rest = rw is (ap (λ l. Sent slot p ∷ l) rest)
frame_said count slot p edge edges told frames messages false is rest = rw is rest

-- a frame, and those behind it, all of which are heard
record FrameSaid (s : Settings) (f : FrameSent) (sent : List Sending) (changes : List Change) (told : List Bool) : Type 0 where
  first : Change
  said_all : (b : Bool) → begins first ≡ b → map said (heard_from s 0 (map message_of (FrameAt f ∷ sent)) changes told) ≡ (if b then message_of (FrameAt f) ∷ bursts_in (map message_of sent) else bursts_in (map message_of sent))
  begins_first : BeginsOrEmpty changes → begins first ≡ true

frame_says : (s : Settings) (sync : Option SyncWindows) (before : SentBefore) (f : FrameSent) (sent : List Sending) (time : ℕ) (edges : List NumberedEdge) (told : List Bool) → AreBounds s.bit s.jitter → IsTrainBehind s sync before (FrameAt f ∷ sent)
    → AreEdges s.jitter (on_data (ideal_edges s (FrameAt f ∷ sent))) edges
    → ((t : ℕ) (right : List NumberedEdge) (rest_told : List Bool) → AreEdges s.jitter (on_data (ideal_edges s sent)) right → BeginsOrEmpty (changes_after s.bit t right)
    → map said (heard_from s 0 (map message_of sent) (changes_after s.bit t right) rest_told) ≡ bursts_in (map message_of sent))
    → FrameSaid s f sent (changes_after s.bit time edges) told
frame_says s sync before f sent time edges told b train recorded later_said =
    let p = frame_parts s sync before f sent time edges b train.0 recorded in
    let first = first_change p.heard in
    let later = later_changes p.heard in
    let after = last_time time p.left in
    let rest = changes_after s.bit after p.right in
    let all = first ∷ (later ++ rest) in
    let whole = changes-parts s f sent time edges p in
    let count = count-parts s f sent time edges p in
    let n = edge_count s (message_of (FrameAt f)) in
    let next = next_begins s sync (sent_with s before (FrameAt f)) sent (end_of s f) after p.right b train.1 refl p.heard.ends p.recorded in
    let left : drop n all ≡ rest = ap (λ k. drop k all) count ∙ drop_at later rest (length later) refl in
    let messages = map message_of sent in
    let frames = heard_from s 0 messages rest (drop n told) in
    let behind : map said frames ≡ bursts_in messages = later_said after p.right (drop n told) p.recorded next in
    let heard : heard_from s 0 (message_of (FrameAt f) ∷ messages) all told ≡ heard_frame n f.slot f.payload all told ++ frames =
    first_frame s f.slot f.payload messages all told ∙ ap (λ l. heard_frame n f.slot f.payload all told ++ heard_from s 0 messages l (drop n told)) left in
    record {
      first = first;
      said_all = λ c is. ap (λ l. map said (heard_from s 0 (message_of (FrameAt f) ∷ messages) l told)) whole ∙ ap (map said) heard
          ∙ frame_said n f.slot f.payload first (later ++ rest) told frames (bursts_in messages) c is behind;
      begins_first = λ starts. subst (λ (l : List Change). BeginsOrEmpty l) whole starts;
    }

none_said : (s : Settings) (missing : ℕ) (edges : List Change) (told : List Bool) → map said (heard_from s missing [] edges told) ≡ []
unfolding heard_from
none_said s missing edges told = refl

-- each frame, where the first begins a burst
pub all_said : (s : Settings) (sync : Option SyncWindows) (before : SentBefore) (sent : List Sending) (time : ℕ) (edges : List NumberedEdge) (told : List Bool) → AreBounds s.bit s.jitter → IsTrainBehind s sync before sent
    → AreEdges s.jitter (on_data (ideal_edges s sent)) edges → BeginsOrEmpty (changes_after s.bit time edges)
    → map said (heard_from s 0 (map message_of sent) (changes_after s.bit time edges) told) ≡ bursts_in (map message_of sent)
all_said s sync before [] time edges told b train recorded starts = none_said s 0 (changes_after s.bit time edges) told
all_said s sync before (SyncAt pulse ∷ sent) time edges told b train recorded starts =
    ap (map said) (sym (sync_passes s (map message_of sent) (changes_after s.bit time edges) told)) ∙ all_said s sync (sent_with s before (SyncAt pulse)) sent time edges told b train.1 recorded starts
all_said s sync before (FrameAt f ∷ sent) time edges told b train recorded starts =
    let h = frame_says s sync before f sent time edges told b train recorded (λ t right rest_told rest begins_next. all_said s sync (sent_with s before (FrameAt f)) sent t right rest_told b train.1 rest begins_next) in
    h.said_all true (h.begins_first starts)

-- or all but the first
some_said : (s : Settings) (sync : Option SyncWindows) (before : SentBefore) (sent : List Sending) (time : ℕ) (edges : List NumberedEdge) (told : List Bool) → AreBounds s.bit s.jitter → IsTrainBehind s sync before sent
    → AreEdges s.jitter (on_data (ideal_edges s sent)) edges → Says (heard_from s 0 (map message_of sent) (changes_after s.bit time edges) told) (bursts_in (map message_of sent))
some_said s sync before [] time edges told b train recorded = says-all (heard_from s 0 [] (changes_after s.bit time edges) told) [] (none_said s 0 (changes_after s.bit time edges) told)
some_said s sync before (SyncAt pulse ∷ sent) time edges told b train recorded =
    subst (λ (l : List HeardFrame). Says l (bursts_in (map message_of sent))) (sync_passes s (map message_of sent) (changes_after s.bit time edges) told)
    (some_said s sync (sent_with s before (SyncAt pulse)) sent time edges told b train.1 recorded)
some_said s sync before (FrameAt f ∷ sent) time edges told b train recorded =
    let h = frame_says s sync before f sent time edges told b train recorded (λ t right rest_told rest begins_next. all_said s sync (sent_with s before (FrameAt f)) sent t right rest_told b train.1 rest begins_next) in
    by_first h (begins h.first) refl
  where
    by_first : (h : FrameSaid s f sent (changes_after s.bit time edges) told) (c : Bool) → begins h.first ≡ c
        → Says (heard_from s 0 (map message_of (FrameAt f ∷ sent)) (changes_after s.bit time edges) told) (bursts_in (map message_of (FrameAt f ∷ sent)))
    by_first h true is = record { passed = 0; is = h.said_all true is }
    by_first h false is = record { passed = 1; is = h.said_all false is }

-- ---- a train of which the first edges are missing
cut_said : (s : Settings) (sync : Option SyncWindows) (before : SentBefore) (sent : List Sending) (missing opening : ℕ) (edges : List NumberedEdge) (told : List Bool) → AreBounds s.bit s.jitter → IsTrainBehind s sync before sent
    → AreEdges s.jitter (on_data (drop missing (ideal_edges s sent))) edges → OpensAfter s.jitter opening (ideal_times (on_data (take missing (ideal_edges s sent))))
    → Says (heard_from s missing (map message_of sent) (changes_after s.bit opening edges) told) (bursts_in (map message_of sent))
cut_said s sync before sent zero opening edges told b train recorded opens = some_said s sync before sent opening edges told b train recorded
cut_said s sync before [] (suc missing) opening edges told b train recorded opens =
    says-all (heard_from s (suc missing) [] (changes_after s.bit opening edges) told) [] (none_said s (suc missing) (changes_after s.bit opening edges) told)
cut_said s sync before (SyncAt pulse ∷ sent) (suc missing) opening edges told b train recorded opens =
    let changes = changes_after s.bit opening edges in
    subst (λ (l : List HeardFrame). Says l (bursts_in (map message_of sent))) (next_missing s missing Sync (map message_of sent) changes told missing 0 (omega arith) (omega arith))
    (cut_said s sync (sent_with s before (SyncAt pulse)) sent missing opening edges told b train.1 recorded opens)
cut_said s sync before (FrameAt f ∷ sent) (suc missing) opening edges told b train recorded opens =
    let message = message_of (FrameAt f) in
    let count = edge_count s message in
    let changes = changes_after s.bit opening edges in
    let messages = map message_of sent in
    let behind = sent_with s before (FrameAt f) in
    elim (cases_lt (suc missing) count) [
      | inl part ↦
          let n = count - suc missing in
          let p = in_frame s sync before f sent missing opening edges b train.0 part recorded opens in
          let after = last_time opening p.left in
          let left = changes_after s.bit opening p.left in
          let right = changes_after s.bit after p.right in
          let all : changes ≡ left ++ right = ap (changes_after s.bit opening) p.is ∙ changes_after-append s.bit opening p.left p.right in
          let long : length left ≡ n = length-changes_after s.bit opening p.left ∙ p.long in
          let frames : heard_from s 0 messages right (drop n told) ≡ heard_from s (suc missing) (message ∷ messages) changes told =
          ap (λ l. heard_from s 0 messages l (drop n told)) (sym (ap (drop n) all ∙ drop_at left right n long))
          ∙ next_missing s missing message messages changes told 0 n (omega (arith, part)) refl in
          says-less (heard_from s (suc missing) (message ∷ messages) changes told) message (bursts_in messages)
          (subst (λ (l : List HeardFrame). Says l (bursts_in messages)) frames (some_said s sync behind sent after p.right (drop n told) b train.1 p.recorded))
      | inr whole ↦
          let p = past_frame s f sent missing opening edges whole recorded opens in
          let rest = suc missing - count in
          says-less (heard_from s (suc missing) (message ∷ messages) changes told) message (bursts_in messages)
          (subst (λ (l : List HeardFrame). Says l (bursts_in messages)) (next_missing s missing message messages changes told rest 0 refl (omega (arith, whole)))
          (cut_said s sync behind sent rest opening edges told b train.1 p.recorded p.opens))
    ]

pub line-rest : (s : Settings) (sync : Option SyncWindows) (messages : List Psi5Message) (edges : List NumberedEdge) → IsHonest s sync messages edges → IsRestOf (map said (heard_of s sync messages edges)) (bursts_in messages)
unfolding heard_of
line-rest s sync messages edges h =
    let told = drop 1 (told_edges sync edges) in
    by-line s sync messages edges (data_edges sync edges) told h (λ changes frames. Says frames (bursts_in messages)) refl (says-nothing (bursts_in messages))
    (λ opening rest recorded opens. subst (λ (l : List Psi5Message). Says (heard_from s h.left_out (map message_of h.sent) (changes_after s.bit opening rest) told) (bursts_in l)) h.carries
    (cut_said s sync nothing_sent h.sent h.left_out opening rest told (bounds-accepted s h.accepted) h.train recorded opens))

-- ---- those that are told
-- once a burst that begins with an edge is told, all later ones are
abbrev Rises : List Bool → List Change → Type 0
Rises told [] = Unit {0}
Rises [] (edge ∷ edges) = ⊥
Rises (is_told ∷ told) (edge ∷ edges) = (is_told ≡ true → Covers told edges) × Rises told edges

rises-drop : (n : ℕ) (told : List Bool) (edges : List Change) → Rises told edges → Rises (drop n told) (drop n edges)
rises-drop zero told edges rises = rises
rises-drop (suc n) told [] rises = tt
rises-drop (suc n) [] (edge ∷ edges) rises = absurd rises
rises-drop (suc n) (is_told ∷ told) (edge ∷ edges) rises = rises-drop n told edges rises.1

-- the told ones of these frames are all but the first so many
record IsToldFrom (frames : List HeardFrame) : Type 0 where
  untold : ℕ
  is : filter (λ (f : HeardFrame). f.is_told) frames ≡ drop untold frames

by_frame : (count : ℕ) (slot : Option ℕ) (p : Payload) (edges : List Change) (told : List Bool) (frames : List HeardFrame) → Rises told edges
    → (Covers told edges → filter (λ (f : HeardFrame). f.is_told) frames ≡ frames) → IsToldFrom frames → IsToldFrom (heard_frame count slot p edges told ++ frames)
by_frame count slot p [] told frames rises all some = some
by_frame count slot p (edge ∷ edges) [] frames rises all some = absurd rises
by_frame count slot p (edge ∷ edges) (is_told ∷ told) frames rises all some = by_first (begins edge) is_told refl
  where
    here : Bool → HeardFrame
    here t = record { first = edge.number; last = number_at (edge ∷ edges) (count - 1); is_told = t; slot = slot; payload = p }

    by_first : (b t : Bool) → is_told ≡ t → IsToldFrom ((if b then here is_told ∷ [] else []) ++ frames)
    by_first true true is =
        record { untold = 0; is = rw is (ap (λ l. here true ∷ l) (all (is, rises.0 is))) }
    by_first true false is = record { untold = suc some.untold; is = rw is some.is }
    by_first false t is = some

told_from : (s : Settings) (missing : ℕ) (messages : List Psi5Message) (edges : List Change) (told : List Bool) → Rises told edges → IsToldFrom (heard_from s missing messages edges told)
unfolding heard_from
told_from s missing [] edges told rises = record { untold = 0; is = refl }
told_from s zero (Sync ∷ messages) edges told rises = told_from s 0 messages edges told rises
told_from s zero (Sent slot p ∷ messages) edges told rises =
    let n = edge_count s (Sent slot p) in
    by_frame n slot p edges told (heard_from s 0 messages (drop n edges) (drop n told)) rises (λ covers. all_told s 0 messages (drop n edges) (drop n told) (covers-drop n told edges covers))
    (told_from s 0 messages (drop n edges) (drop n told) (rises-drop n told edges rises))
told_from s (suc missing) (message ∷ messages) edges told rises =
    let n = edge_count s message - suc missing in
    told_from s (suc missing - edge_count s message) messages (drop n edges) (drop n told) (rises-drop n told edges rises)

-- ---- the flags of a line
covers-synced : (bit time : ℕ) (sync : Option SyncWindows) (opened : Bool) (edges : List NumberedEdge) → Covers (synced_after sync opened true edges) (changes_after bit time (data_edges sync edges))
unfolding synced_after changes_after
covers-synced bit time sync opened [] = tt
covers-synced bit time sync opened (e ∷ edges) = by_which (is_on_sync sync e) (covers-synced bit time sync true edges) (covers-synced bit e.edge.time sync opened edges)
  where
    by_which : (b : Bool) → Covers (synced_after sync true true edges) (changes_after bit time (data_edges sync edges)) → Covers (synced_after sync opened true edges) (changes_after bit e.edge.time (data_edges sync edges))
        → Covers (cond b (synced_after sync true true edges) (true ∷ synced_after sync opened true edges)) (changes_after bit time (cond (not b) (e ∷ data_edges sync edges) (data_edges sync edges)))
    by_which true on off = on
    by_which false on off = (refl, off)

rises-after : (bit time : ℕ) (sync : Option SyncWindows) (opened synced : Bool) (edges : List NumberedEdge) → Rises (synced_after sync opened synced edges) (changes_after bit time (data_edges sync edges))
unfolding synced_after changes_after
rises-after bit time sync opened synced [] = tt
rises-after bit time sync opened synced (e ∷ edges) =
    by_which (is_on_sync sync e) (rises-after bit time sync true (synced || (e.edge.level && opened)) edges)
    (λ is. subst (λ (b : Bool). Covers (synced_after sync opened b edges) (changes_after bit e.edge.time (data_edges sync edges))) (sym is) (covers-synced bit e.edge.time sync opened edges))
    (rises-after bit e.edge.time sync opened synced edges)
  where
    by_which : (b : Bool) → Rises (synced_after sync true (synced || (e.edge.level && opened)) edges) (changes_after bit time (data_edges sync edges))
        → (synced ≡ true → Covers (synced_after sync opened synced edges) (changes_after bit e.edge.time (data_edges sync edges))) → Rises (synced_after sync opened synced edges) (changes_after bit e.edge.time (data_edges sync edges))
        → Rises (cond b (synced_after sync true (synced || (e.edge.level && opened)) edges) (synced ∷ synced_after sync opened synced edges)) (changes_after bit time (cond (not b) (e ∷ data_edges sync edges) (data_edges sync edges)))
    by_which true on all off = on
    by_which false on all off = (all, off)

rises-line : (bit : ℕ) (sync : Option SyncWindows) (opened synced : Bool) (edges : List NumberedEdge) → Rises (drop 1 (synced_after sync opened synced edges)) (changes_of bit (data_edges sync edges))
unfolding synced_after changes_of
rises-line bit sync opened synced [] = tt
rises-line bit sync opened synced (e ∷ edges) =
    by_which (is_on_sync sync e) (rises-line bit sync true (synced || (e.edge.level && opened)) edges) (rises-after bit e.edge.time sync opened synced edges)
  where
    by_which : (b : Bool) → Rises (drop 1 (synced_after sync true (synced || (e.edge.level && opened)) edges)) (changes_of bit (data_edges sync edges))
        → Rises (synced_after sync opened synced edges) (changes_after bit e.edge.time (data_edges sync edges))
        → Rises (drop 1 (cond b (synced_after sync true (synced || (e.edge.level && opened)) edges) (synced ∷ synced_after sync opened synced edges))) (changes_of bit (cond (not b) (e ∷ data_edges sync edges) (data_edges sync edges)))
    by_which true on off = on
    by_which false on off = off

-- ---- the rest of a rest
drop-said : (n : ℕ) (frames : List HeardFrame) → map said (drop n frames) ≡ drop n (map said frames)
drop-said zero frames = refl
drop-said (suc n) [] = refl
drop-said (suc n) (f ∷ frames) = drop-said n frames

rest-of : (n k : ℕ) (messages : List Psi5Message) → IsRestOf (drop n (drop k messages)) messages
rest-of n zero messages = record { passed = n; is = refl }
rest-of n (suc k) [] = record { passed = n; is = refl }
rest-of n (suc k) (message ∷ messages) = let h = rest-of n k messages in record { passed = suc h.passed; is = h.is }

pub none-missing : (s : Settings) (sync : Option SyncWindows) (messages : List Psi5Message) (edges : List NumberedEdge) → IsHonest s sync messages edges → IsRestOf (map said (from_first s sync messages edges)) (bursts_in messages)
unfolding heard_of
none-missing s sync messages edges h =
    let heard = line-rest s sync messages edges h in
    let told = told_from s (edges_in s messages - recorded_in sync edges) messages (changes_of s.bit (data_edges sync edges)) (drop 1 (told_edges sync edges)) (rises-line s.bit sync false (is_none sync) edges) in
    subst (λ (l : List Psi5Message). IsRestOf l (bursts_in messages))
    (sym (ap (map said) told.is ∙ drop-said told.untold (heard_of s sync messages edges) ∙ ap (drop told.untold) heard.is))
    (rest-of told.untold heard.passed (bursts_in messages))

-- What is read of the data line of an honest trace.
--     same_missing      how many edges are missing follows from how many are recorded
--     by-line      what holds of its edges behind an opening holds of the line
--     bursts-heard      the bursts of the data line are the frames that are heard
--     all-told      without slots each of them is told
use Rattle.std.proofs.Common.{◌≡◌, ℕ, zero, suc, ◌+◌, ◌-◌, ◌≤◌, Bool, true, false, not, cond, if◌then◌else◌, Option, None, List, [], ◌∷◌, ◌++◌, length, map, take, drop, refl, sym, ◌∙◌, ap, ap₂, subst, inl, inr, arith}
use Rattle.std.specs.List.{filter}
use Rattle.std.proofs.lemmas.Bool.{cases_lt}
use Rattle.std.proofs.lemmas.List.{length-append, length-map}
use Rattle.std.proofs.lemmas.List.Elements.{filter-append}
use Rattle.std.proofs.lemmas.List.Sums.{sum_by-cons}
use Rattle.line_base.specs.Edges.{NumberedEdge}
use Rattle.psi5_frame.specs.declared.burst.Payload.{Payload}
use Rattle.psi5_frame.specs.Setup.{Settings}
use Rattle.psi5_frame.specs.Edges.{Change, changes_of, changes_after}
use Rattle.psi5_frame.specs.Bursts.{begins, all_bursts, starts_in, bursts_at_end, burst_starts}
use Rattle.link_tolerance.specs.Recorded.{AreRecorded, OpensAfter}
use Rattle.psi5_tolerance.specs.Lines.{SyncWindows, data_edges, sync_edges, behind_opening, rises_of, times_of, told_edges, synced_after}
use Rattle.psi5_tolerance.specs.Trains.{Psi5Message, Sync, Burst as Sent, Sending, SyncAt, FrameAt, message_of, IdealEdge, edges_sent, ideal_edges, nothing_sent}
use Rattle.psi5_tolerance.specs.Traces.{on_data, on_sync, ideal_times, OpensBehind, IsHonest}
use Rattle.psi5_tolerance.specs.FromFirst.{HeardFrame, edge_count, number_at, heard_frame, heard_from, edges_in, recorded_in, heard_of, from_first, good_burst}
use Rattle.psi5_tolerance.proofs.Intervals.{bounds-accepted}
use Rattle.psi5_tolerance.proofs.RecordedFrames.{AreEdges, edges-recorded}
use Rattle.psi5_tolerance.proofs.HeardFrames.{length-changes_after, length-frame, Tells}
use Rattle.psi5_tolerance.proofs.CutTrains.{length-dropped, trace_heard}

-- ---- how many edges are missing
drop_nil : {A : Type 0} (n : ℕ) → drop {A = A} n [] ≡ []
drop_nil zero = refl
drop_nil (suc n) = refl

pub none_given : (s : Settings) (missing : ℕ) (messages : List Psi5Message) (told : List Bool) → heard_from s missing messages [] told ≡ []
unfolding heard_from
none_given s missing [] told = refl
none_given s zero (Sync ∷ messages) told = none_given s 0 messages told
none_given s zero (Sent slot p ∷ messages) told =
    ap (λ l. heard_from s 0 messages l (drop (edge_count s (Sent slot p)) told)) (drop_nil (edge_count s (Sent slot p))) ∙ none_given s 0 messages (drop (edge_count s (Sent slot p)) told)
none_given s (suc missing) (message ∷ messages) told =
    let n = edge_count s message - suc missing in
    ap (λ l. heard_from s (suc missing - edge_count s message) messages l (drop n told)) (drop_nil n) ∙ none_given s (suc missing - edge_count s message) messages (drop n told)

pub total-edges : (s : Settings) (sent : List Sending) → length (ideal_edges s sent) ≡ edges_in s (map message_of sent)
total-edges s [] = refl
total-edges s (SyncAt pulse ∷ sent) = let rest = total-edges s sent in omega (arith, rest, sum_by-cons (edge_count s) Sync (map message_of sent))
total-edges s (FrameAt f ∷ sent) =
    let rest = total-edges s sent in
    length-append (edges_sent s (FrameAt f)) (ideal_edges s sent)
    ∙ ap₂ (λ a b. a + b) (length-frame s f) rest
    ∙ sym (sum_by-cons (edge_count s) (message_of (FrameAt f)) (map message_of sent))

-- each ideal edge is on one line
both_lines : (ideals : List IdealEdge) → length (on_data ideals) + length (on_sync ideals) ≡ length ideals
both_lines [] = refl
both_lines (ideal ∷ ideals) = by_line ideal.on_sync (both_lines ideals)
  where
    by_line : (b : Bool) → length (on_data ideals) + length (on_sync ideals) ≡ length ideals
        → length (cond (not b) (ideal ∷ on_data ideals) (on_data ideals)) + length (cond b (ideal ∷ on_sync ideals) (on_sync ideals)) ≡ suc (length ideals)
    by_line true rest = omega (arith, rest)
    by_line false rest = omega (arith, rest)

length-recorded : (jitter : ℕ) (ideals times : List ℕ) → AreRecorded jitter ideals times → length times ≡ length ideals
length-recorded jitter [] [] recorded = refl
length-recorded jitter [] (time ∷ times) recorded = absurd recorded
length-recorded jitter (ideal ∷ ideals) [] recorded = absurd recorded
length-recorded jitter (ideal ∷ ideals) (time ∷ times) recorded = ap suc (length-recorded jitter ideals times recorded.1)

none_of : {A : Type 0} (xs : List A) → length xs ≡ 0 → xs ≡ []
none_of [] e = refl
none_of (x ∷ xs) e = absurd (omega (arith, e))

pub same_missing : (s : Settings) (messages : List Psi5Message) (left_out recorded : ℕ) (edges : List Change) (told : List Bool) → recorded ≡ edges_in s messages - left_out → length edges ≤ recorded
    → heard_from s left_out messages edges told ≡ heard_from s (edges_in s messages - recorded) messages edges told
same_missing s messages left_out recorded edges told all few = elim (cases_lt (edges_in s messages) left_out) [
  | inl past ↦
      let none : edges ≡ [] = none_of edges (omega (arith, all, past, few)) in
      ap (λ l. heard_from s left_out messages l told) none ∙ none_given s left_out messages told
      ∙ sym (ap (λ l. heard_from s (edges_in s messages - recorded) messages l told) none ∙ none_given s (edges_in s messages - recorded) messages told)
  | inr within ↦ let e : left_out ≡ edges_in s messages - recorded = omega (arith, all, within) in ap (λ n. heard_from s n messages edges told) e
]

-- as many edges are recorded as are not left out
pub recorded-all : (s : Settings) (sync : Option SyncWindows) (messages : List Psi5Message) (edges : List NumberedEdge) (h : IsHonest s sync messages edges) → recorded_in sync edges ≡ edges_in s messages - h.left_out
recorded-all s sync messages edges h =
    let rest = drop h.left_out (ideal_edges s h.sent) in
    let line = behind_opening (data_edges sync edges) in
    let rises = rises_of (sync_edges sync edges) in
    let on_line : length line ≡ length (on_data rest) =
    sym (length-map line (λ e. e.edge.time)) ∙ length-recorded s.jitter (ideal_times (on_data rest)) (times_of line) h.data_line.times ∙ length-map (on_data rest) (λ ideal. ideal.time) in
    let syncs : length rises ≡ length (on_sync rest) =
    sym (length-map rises (λ e. e.edge.time)) ∙ length-recorded s.jitter (ideal_times (on_sync rest)) (times_of rises) h.sync_line.times ∙ length-map (on_sync rest) (λ ideal. ideal.time) in
    ap₂ (λ a b. a + b) on_line syncs ∙ both_lines rest ∙ length-dropped h.left_out (ideal_edges s h.sent)
    ∙ ap (λ n. n - h.left_out) (total-edges s h.sent ∙ ap (edges_in s) h.carries)

-- ---- the data line
-- what holds where the line has no edge, and of its edges behind an opening with so many left out, holds of the line
pub by-line : (s : Settings) (sync : Option SyncWindows) (messages : List Psi5Message) (edges line : List NumberedEdge) (told : List Bool) (h : IsHonest s sync messages edges) (P : List Change → List HeardFrame → Type 0) → data_edges sync edges ≡ line → P [] []
    → ((opening : ℕ) (rest : List NumberedEdge) → AreEdges s.jitter (on_data (drop h.left_out (ideal_edges s h.sent))) rest → OpensAfter s.jitter opening (ideal_times (on_data (take h.left_out (ideal_edges s h.sent))))
    → P (changes_after s.bit opening rest) (heard_from s h.left_out (map message_of h.sent) (changes_after s.bit opening rest) told))
    → P (changes_of s.bit line) (heard_from s (edges_in s messages - recorded_in sync edges) messages (changes_of s.bit line) told)
unfolding changes_of
by-line s sync messages edges [] told h P is none some = subst (λ (l : List HeardFrame). P [] l) (sym (none_given s (edges_in s messages - recorded_in sync edges) messages told)) none
by-line s sync messages edges (opening ∷ line) told h P is none some =
    let rest = on_data (drop h.left_out (ideal_edges s h.sent)) in
    let before = on_data (take h.left_out (ideal_edges s h.sent)) in
    let changes = changes_after s.bit opening.edge.time line in
    let times = subst (λ (l : List NumberedEdge). AreRecorded s.jitter (ideal_times rest) (times_of (behind_opening l))) is h.data_line.times in
    let levels = subst (λ (l : List NumberedEdge). map (λ (e : NumberedEdge). e.edge.level) (behind_opening l) ≡ map (λ (ideal : IdealEdge). ideal.level) rest) is h.data_line.levels in
    let opens = subst (λ (l : List NumberedEdge). OpensBehind s.jitter l before) is h.data_line.opens in
    let few : length changes ≤ recorded_in sync edges =
    omega (arith, length-changes_after s.bit opening.edge.time line, ap (λ l. length (behind_opening l)) is) in
    let same : heard_from s h.left_out (map message_of h.sent) changes told ≡ heard_from s (edges_in s messages - recorded_in sync edges) messages changes told =
    ap (λ l. heard_from s h.left_out l changes told) h.carries
    ∙ same_missing s messages h.left_out (recorded_in sync edges) changes told (recorded-all s sync messages edges h) few in
    subst (λ (l : List HeardFrame). P changes l) same (some opening.edge.time line (edges-recorded s.jitter rest line times levels) opens)

tells_none : (s : Settings) → Tells s [] []
unfolding all_bursts starts_in
tells_none s = record { bursts = refl; starts = refl }

pub bursts-heard : (s : Settings) (sync : Option SyncWindows) (messages : List Psi5Message) (edges : List NumberedEdge) → IsHonest s sync messages edges
    → Tells s (changes_of s.bit (data_edges sync edges)) (heard_of s sync messages edges)
unfolding heard_of
bursts-heard s sync messages edges h =
    let told = drop 1 (told_edges sync edges) in
    by-line s sync messages edges (data_edges sync edges) told h (Tells s) refl (tells_none s)
    (λ opening rest recorded opens. trace_heard s sync nothing_sent h.sent h.left_out opening rest told (bounds-accepted s h.accepted) h.train recorded opens)

-- ---- without slots
-- a burst that begins with one of these edges is told
abbrev pub Covers : List Bool → List Change → Type 0
Covers told [] = Unit {0}
Covers [] (edge ∷ edges) = ⊥
Covers (is_told ∷ told) (edge ∷ edges) = (is_told ≡ true) × Covers told edges

pub covers-drop : (n : ℕ) (told : List Bool) (edges : List Change) → Covers told edges → Covers (drop n told) (drop n edges)
covers-drop zero told edges covers = covers
covers-drop (suc n) told [] covers = tt
covers-drop (suc n) [] (edge ∷ edges) covers = absurd covers
covers-drop (suc n) (is_told ∷ told) (edge ∷ edges) covers = covers-drop n told edges covers.1

told_frame : (count : ℕ) (slot : Option ℕ) (p : Payload) (edges : List Change) (told : List Bool) → Covers told edges
    → filter (λ (f : HeardFrame). f.is_told) (heard_frame count slot p edges told) ≡ heard_frame count slot p edges told
told_frame count slot p [] told covers = refl
told_frame count slot p (edge ∷ edges) [] covers = absurd covers
told_frame count slot p (edge ∷ edges) (is_told ∷ told) covers = rw covers.0 (by_first (begins edge))
  where
    by_first : (b : Bool) → filter (λ (f : HeardFrame). f.is_told) (if b then record { first = edge.number; last = number_at (edge ∷ edges) (count - 1); is_told = true; slot = slot; payload = p } ∷ [] else [])
        ≡ (if b then record { first = edge.number; last = number_at (edge ∷ edges) (count - 1); is_told = true; slot = slot; payload = p } ∷ [] else [])
    by_first true = refl
    by_first false = refl

pub all_told : (s : Settings) (missing : ℕ) (messages : List Psi5Message) (edges : List Change) (told : List Bool) → Covers told edges
    → filter (λ (f : HeardFrame). f.is_told) (heard_from s missing messages edges told) ≡ heard_from s missing messages edges told
unfolding heard_from
all_told s missing [] edges told covers = refl
all_told s zero (Sync ∷ messages) edges told covers = all_told s 0 messages edges told covers
all_told s zero (Sent slot p ∷ messages) edges told covers =
    let n = edge_count s (Sent slot p) in
    filter-append (λ (f : HeardFrame). f.is_told) (heard_frame n slot p edges told) (heard_from s 0 messages (drop n edges) (drop n told))
    ∙ ap₂ (λ a b. a ++ b) (told_frame n slot p edges told covers) (all_told s 0 messages (drop n edges) (drop n told) (covers-drop n told edges covers))
all_told s (suc missing) (message ∷ messages) edges told covers =
    let n = edge_count s message - suc missing in
    all_told s (suc missing - edge_count s message) messages (drop n edges) (drop n told) (covers-drop n told edges covers)

pub one_line : (edges : List NumberedEdge) → data_edges None edges ≡ edges
one_line [] = refl
one_line (e ∷ edges) = ap (λ l. e ∷ l) (one_line edges)

covers_after : (bit time : ℕ) (edges : List NumberedEdge) → Covers (synced_after None false true edges) (changes_after bit time (data_edges None edges))
unfolding synced_after changes_after
covers_after bit time [] = tt
covers_after bit time (e ∷ edges) = (refl, covers_after bit e.edge.time edges)

covers_line : (bit : ℕ) (edges : List NumberedEdge) → Covers (drop 1 (told_edges None edges)) (changes_of bit (data_edges None edges))
unfolding synced_after changes_of
covers_line bit [] = tt
covers_line bit (e ∷ edges) = covers_after bit e.edge.time edges

pub all-told : (s : Settings) (messages : List Psi5Message) (edges : List NumberedEdge) → from_first s None messages edges ≡ heard_of s None messages edges
unfolding heard_of
all-told s messages edges = all_told s (edges_in s messages - recorded_in None edges) messages (changes_of s.bit (data_edges None edges)) (drop 1 (told_edges None edges)) (covers_line s.bit edges)

-- ---- the laws
pub line-bursts : (s : Settings) (sync : Option SyncWindows) (messages : List Psi5Message) (edges : List NumberedEdge) → IsHonest s sync messages edges
    → bursts_at_end s (data_edges sync edges) ≡ map good_burst (heard_of s sync messages edges)
line-bursts s sync messages edges h = (bursts-heard s sync messages edges h).bursts

pub line-starts : (s : Settings) (sync : Option SyncWindows) (messages : List Psi5Message) (edges : List NumberedEdge) → IsHonest s sync messages edges
    → burst_starts s (data_edges sync edges) ≡ map (λ (f : HeardFrame). f.first) (heard_of s sync messages edges)
line-starts s sync messages edges h = (bursts-heard s sync messages edges h).starts

pub free-bursts : (s : Settings) (messages : List Psi5Message) (edges : List NumberedEdge) → IsHonest s None messages edges → bursts_at_end s edges ≡ map good_burst (from_first s None messages edges)
free-bursts s messages edges h = ap (bursts_at_end s) (sym (one_line edges)) ∙ line-bursts s None messages edges h ∙ ap (map good_burst) (sym (all-told s messages edges))

pub free-starts : (s : Settings) (messages : List Psi5Message) (edges : List NumberedEdge) → IsHonest s None messages edges → burst_starts s edges ≡ map (λ (f : HeardFrame). f.first) (from_first s None messages edges)
free-starts s messages edges h = ap (burst_starts s) (sym (one_line edges)) ∙ line-starts s None messages edges h ∙ ap (map (λ (f : HeardFrame). f.first)) (sym (all-told s messages edges))

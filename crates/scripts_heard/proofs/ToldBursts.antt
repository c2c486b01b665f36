-- All bursts are told where the lines were opened before their first edges.
--     all-said           where the data line was opened at 0, and its first edge begins a burst that is told
--     FirstSides         how the lines are opened
--     channel-said       of any channel
use Rattle.std.proofs.Common.{◌≡◌, ℕ, zero, suc, ◌+◌, ◌-◌, ◌*◌, ◌<◌, ◌≤◌, ◌⊎◌, min, max, Bool, true, false, not, cond, Option, None, Some, List, [], ◌∷◌, ◌++◌, length, map, flat_map, take, drop, refl, ap, sym, subst, ◌∙◌, inl, inr, arith}
use Rattle.std.specs.Prelude.{nat_eq}
use Rattle.std.specs.List.{filter}
use Rattle.std.proofs.lemmas.Bool.{eq-eqb, ne_eqb, false≢true}
use Rattle.line_base.specs.declared.edge.Edge.{Edge}
use Rattle.line_base.specs.Edges.{NumberedEdge}
use Rattle.link_math.specs.Division.{bits_of}
use Rattle.psi5_frame.specs.Intervals.{is_quiet}
use Rattle.psi5_frame.specs.Setup.{Settings, bit_count, check_width}
use Rattle.psi5_frame.specs.Edges.{Change, changes_after, changes_of}
use Rattle.psi5_frame.specs.Frames.{changed_at, check_number, frame_of, levels_of, payload_bits, waveform}
use Rattle.link_tolerance.specs.Recorded.{AreRecorded, OpensAfter}
use Rattle.psi5_tolerance.specs.Lines.{SyncWindows, behind_opening, data_edges, is_on_sync, synced_after, times_of, told_edges}
use Rattle.psi5_tolerance.specs.Trains.{FrameSent, FrameAt, IdealEdge, IsTrainBehind, Psi5Message, Sending, SentBefore, Sync, SyncAt, edges_at, edges_sent, ideal_edges, message_of, nothing_sent, sent_with}
use Rattle.psi5_tolerance.specs.Traces.{AreSlots, IsHonest, OpensBehind, ideal_times, on_data}
use Rattle.psi5_tolerance.specs.FromFirst.{HeardFrame, bursts_in, edges_in, from_first, heard_from, heard_of, recorded_in, said}
use Rattle.psi5_tolerance.proofs.CutTrains.{next_missing}
use Rattle.psi5_tolerance.proofs.DataLines.{Covers, all_told, recorded-all, same_missing}
use Rattle.psi5_tolerance.proofs.HeardFrames.{BeginsOrEmpty, changes-parts, frame_parts, length-changes_after}
use Rattle.psi5_tolerance.proofs.Intervals.{AreBounds, between_frames, bounds-accepted}
use Rattle.psi5_tolerance.proofs.RecordedFrames.{AreEdges, edges-recorded}
use Rattle.psi5_tolerance.proofs.RestOfFrames.{all_said}
use Rattle.psi5_tolerance.proofs.Windows.{window-low, windows-accepted}
use Rattle.receiver_core.specs.declared.message.Message.{Message}
use Rattle.receiver_core.specs.declared.setup.SyncSlots.{SyncSlots}
use Rattle.receiver_core.specs.Psi5Traces.{IsPsi5Trace, psi5_message_in, windows_of}
use Rattle.receiver_core.specs.Traces.{numbered}
use Rattle.sim_base.specs.Recordings.{edge_at}
use Rattle.psi5_sim.proofs.BurstTimes.{frame-begins}
use Rattle.psi5_sim.proofs.FramePlaces.{AreWithin, frame-within}
use Rattle.psi5_sim.proofs.Psi5Setups.{AreTwoLines}
use Rattle.scripts_heard.proofs.FirstEdges.{Begins, BusFirst, FreeFirst}

-- ---- no edge of a frame is ideal at the opening
-- these times are no earlier than this
abbrev AreLate : ℕ → List ℕ → Type 0
AreLate low [] = Unit {0}
AreLate low (time ∷ times) = (low ≤ time) × AreLate low times

-- the ideal edges on the data line are no earlier than this
abbrev IsLate : ℕ → List IdealEdge → Type 0
IsLate low [] = Unit {0}
IsLate low (ideal ∷ ideals) = (ideal.on_sync ≡ false → low ≤ ideal.time) × IsLate low ideals

-- edges behind edges
late-append : (low : ℕ) (xs ys : List IdealEdge) → IsLate low xs → IsLate low ys → IsLate low (xs ++ ys)
late-append low [] ys first second = second
late-append low (x ∷ xs) ys first second = (first.0, late-append low xs ys first.1 second)

-- the first so many edges
late-take : (low n : ℕ) (xs : List IdealEdge) → IsLate low xs → IsLate low (take n xs)
late-take low zero xs late = tt
late-take low (suc n) [] late = tt
late-take low (suc n) (x ∷ xs) late = (late.0, late-take low n xs late.1)

-- their times
late-times : (low : ℕ) (ideals : List IdealEdge) → IsLate low ideals → AreLate low (ideal_times (on_data ideals))
late-times low [] late = tt
late-times low (ideal ∷ ideals) late = by-line ideal.on_sync late.0 (late-times low ideals late.1)
  where
    by-line : (b : Bool) → (b ≡ false → low ≤ ideal.time) → AreLate low (ideal_times (on_data ideals)) → AreLate low (ideal_times (cond (not b) (ideal ∷ on_data ideals) (on_data ideals)))
    by-line true here rest = rest
    by-line false here rest = (here refl, rest)

-- the edges of a frame are at half-bit 1 or later
late-places : (low start half from high : ℕ) (level : Bool) (places : List ℕ) → low ≤ half → 1 ≤ from → AreWithin from high places → IsLate low (edges_at start half level places)
unfolding edges_at
late-places low start half from high level [] long some within = tt
late-places low start half from high level (zero ∷ places) long some within = absurd (omega (arith, some, within.0))
late-places low start half from high level (suc place ∷ places) long some within =
    let time : suc place * half ≡ place * half + half = omega arith in
    (λ is. omega (arith, long, time), late-places low start half (suc (suc place)) high (not level) places long (omega arith) within.2)

-- so are those of a train
late-train : (s : Settings) (sync : Option SyncWindows) (before : SentBefore) (sent : List Sending) → IsTrainBehind s sync before sent → IsLate (475 * s.bit) (ideal_edges s sent)
late-train s sync before [] train = tt
late-train s sync before (SyncAt pulse ∷ sent) train = (λ is. absurd (false≢true (sym is)), late-train s sync (sent_with s before (SyncAt pulse)) sent train.1)
late-train s sync before (FrameAt f ∷ sent) train =
    late-append (475 * s.bit) (edges_sent s (FrameAt f)) (ideal_edges s sent)
    (late-places (475 * s.bit) f.start f.half 1 (2 * bit_count s + 1) true (waveform (frame_of s f.payload)) train.0.half_bits.not_below (omega arith) (frame-within s f.payload))
    (late-train s sync (sent_with s before (FrameAt f)) sent train.1)

-- a line that was opened at 0 wasn't opened behind an edge that is later than the jitter
opens-never : (jitter low time : ℕ) (times : List ℕ) → low ≤ time → AreLate low times → 1000 * jitter < low → OpensAfter jitter 0 (time ∷ times) → ⊥
opens-never jitter low time [] here late small opens = omega (arith, here, small, opens)
opens-never jitter low time (next ∷ times) here late small opens = opens-never jitter low next times late.0 late.1 small opens

-- so no first edges of a frame are left out
never-cut : (jitter low n time : ℕ) (level : Bool) (ideals whole : List IdealEdge) → whole ≡ record { on_sync = false; time = time; level = level } ∷ ideals → IsLate low whole → 1000 * jitter < low
    → OpensAfter jitter 0 (ideal_times (on_data (take (suc n) whole))) → ⊥
never-cut jitter low n time level ideals whole is late small opens =
    let late' = subst (IsLate low) is late in
    let opens' = subst (λ (l : List IdealEdge). OpensAfter jitter 0 (ideal_times (on_data (take (suc n) l)))) is opens in
    opens-never jitter low time (ideal_times (on_data (take n ideals))) (late'.0 refl) (late-times low (take n ideals) (late-take low n ideals late'.1)) small opens'

-- the first edge of a frame
frame-first : (s : Settings) (f : FrameSent)
    → edges_sent s (FrameAt f) ≡ record { on_sync = false; time = f.start + 1 * f.half; level = true } ∷ edges_at f.start f.half false (changed_at 2 true (levels_of (false ∷ (payload_bits s.parts f.payload ++ bits_of (check_width s.check) (check_number s.check (payload_bits s.parts f.payload)))) ++ false ∷ []))
unfolding edges_at
frame-first s f = ap (edges_at f.start f.half true) (frame-begins s f.payload)

-- a frame's first edge isn't before the opening
frame-cut : (s : Settings) (sync : Option SyncWindows) (before : SentBefore) (f : FrameSent) (sent : List Sending) (n : ℕ) → AreBounds s.bit s.jitter → IsTrainBehind s sync before (FrameAt f ∷ sent)
    → OpensAfter s.jitter 0 (ideal_times (on_data (take (suc n) (ideal_edges s (FrameAt f ∷ sent))))) → ⊥
frame-cut s sync before f sent n b train opens =
    never-cut s.jitter (475 * s.bit) n (f.start + 1 * f.half) true _ (ideal_edges s (FrameAt f ∷ sent)) (ap (λ l. l ++ ideal_edges s sent) (frame-first s f)) (late-train s sync before (FrameAt f ∷ sent) train) (omega (arith, b)) opens

-- ---- all bursts
-- no message is left
none-left : (s : Settings) (missing : ℕ) (edges : List Change) (told : List Bool) → map said (heard_from s missing [] edges told) ≡ []
unfolding heard_from
none-left s missing edges told = refl

-- of a train of which sync pulses alone may be left out
train-said : (s : Settings) (sync : Option SyncWindows) (before : SentBefore) (sent : List Sending) (missing : ℕ) (line : List NumberedEdge) (told : List Bool) → AreBounds s.bit s.jitter → IsTrainBehind s sync before sent
    → AreEdges s.jitter (on_data (drop missing (ideal_edges s sent))) line → OpensAfter s.jitter 0 (ideal_times (on_data (take missing (ideal_edges s sent))))
    → ((before : SentBefore) (sent : List Sending) → IsTrainBehind s sync before sent → AreEdges s.jitter (on_data (ideal_edges s sent)) line → BeginsOrEmpty (changes_after s.bit 0 line))
    → map said (heard_from s missing (map message_of sent) (changes_after s.bit 0 line) told) ≡ bursts_in (map message_of sent)
train-said s sync before sent zero line told b train recorded opens starts = all_said s sync before sent 0 line told b train recorded (starts before sent train recorded)
train-said s sync before [] (suc missing) line told b train recorded opens starts = none-left s (suc missing) (changes_after s.bit 0 line) told
train-said s sync before (SyncAt pulse ∷ sent) (suc missing) line told b train recorded opens starts =
    ap (map said) (sym (next_missing s missing Sync (map message_of sent) (changes_after s.bit 0 line) told missing 0 (omega arith) (omega arith)))
    ∙ train-said s sync (sent_with s before (SyncAt pulse)) sent missing line told b train.1 recorded opens starts
train-said s sync before (FrameAt f ∷ sent) (suc missing) line told b train recorded opens starts = absurd (frame-cut s sync before f sent missing b train opens)

-- the data line was opened at 0, the first of its edges begins a burst, and each burst that begins with one of them is told
pub record FirstSides (s : Settings) (sync : Option SyncWindows) (edges : List NumberedEdge) : Type 0 where
  pub opening : NumberedEdge
  pub line : List NumberedEdge
  pub are : data_edges sync edges ≡ opening ∷ line
  pub at_once : opening.edge.time ≡ 0
  pub covers : Covers (drop 1 (told_edges sync edges)) (changes_after s.bit 0 line)
  pub starts : (before : SentBefore) (sent : List Sending) → IsTrainBehind s sync before sent → AreEdges s.jitter (on_data (ideal_edges s sent)) line → BeginsOrEmpty (changes_after s.bit 0 line)

-- so all bursts of an honest trace are told
pub all-said : (s : Settings) (sync : Option SyncWindows) (messages : List Psi5Message) (edges : List NumberedEdge) → IsHonest s sync messages edges → FirstSides s sync edges
    → map said (from_first s sync messages edges) ≡ bursts_in messages
unfolding heard_of changes_of
all-said s sync messages edges h first =
    let line = first.line in
    let left = on_data (drop h.left_out (ideal_edges s h.sent)) in
    let before = on_data (take h.left_out (ideal_edges s h.sent)) in
    let told = drop 1 (told_edges sync edges) in
    let changes = changes_after s.bit 0 line in
    let missing = edges_in s messages - recorded_in sync edges in
    let changes_are : changes_of s.bit (data_edges sync edges) ≡ changes = ap (changes_of s.bit) first.are ∙ ap (λ t. changes_after s.bit t line) first.at_once in
    let times = subst (λ (l : List NumberedEdge). AreRecorded s.jitter (ideal_times left) (times_of (behind_opening l))) first.are h.data_line.times in
    let levels = subst (λ (l : List NumberedEdge). map (λ (e : NumberedEdge). e.edge.level) (behind_opening l) ≡ map (λ (ideal : IdealEdge). ideal.level) left) first.are h.data_line.levels in
    let opens = subst (λ (l : List NumberedEdge). OpensBehind s.jitter l before) first.are h.data_line.opens in
    let opens_at = subst (λ (t : ℕ). OpensAfter s.jitter t (ideal_times before)) first.at_once opens in
    let few : length changes ≤ recorded_in sync edges = omega (arith, length-changes_after s.bit 0 line, ap (λ l. length (behind_opening l)) first.are) in
    let same = same_missing s messages h.left_out (recorded_in sync edges) changes told (recorded-all s sync messages edges h) few in
    let heard = train-said s sync nothing_sent h.sent h.left_out line told (bounds-accepted s h.accepted) h.train (edges-recorded s.jitter left line times levels) opens_at first.starts in
    ap (λ l. map said (filter (λ (f : HeardFrame). f.is_told) (heard_from s missing messages l told))) changes_are
    ∙ ap (map said) (all_told s missing messages changes told first.covers)
    ∙ ap (map said) (sym same)
    ∙ ap (λ l. map said (heard_from s h.left_out l changes told)) (sym h.carries)
    ∙ heard
    ∙ ap bursts_in h.carries

-- ---- the flags
-- behind a sync pulse, or without slots, each burst is told
covers-synced : (bit time : ℕ) (sync : Option SyncWindows) (opened : Bool) (edges : List NumberedEdge) → Covers (synced_after sync opened true edges) (changes_after bit time (data_edges sync edges))
unfolding synced_after changes_after
covers-synced bit time sync opened [] = tt
covers-synced bit time sync opened (e ∷ edges) = by-which (is_on_sync sync e) (covers-synced bit time sync true edges) (covers-synced bit e.edge.time sync opened edges)
  where
    by-which : (b : Bool) → Covers (synced_after sync true true edges) (changes_after bit time (data_edges sync edges)) → Covers (synced_after sync opened true edges) (changes_after bit e.edge.time (data_edges sync edges))
        → Covers (cond b (synced_after sync true true edges) (true ∷ synced_after sync opened true edges)) (changes_after bit time (cond (not b) (e ∷ data_edges sync edges) (data_edges sync edges)))
    by-which true on off = on
    by-which false on off = (refl, off)

-- ---- without slots
-- edges that begin so, with their numbers
free-sides : (s : Settings) (line : ℕ) (edges : List Edge) → AreBounds s.bit s.jitter → FreeFirst s line edges → FirstSides s None (numbered 0 edges)
unfolding numbered synced_after changes_after
free-sides s line edges b first =
    let rest = numbered 2 first.rest in
    let one : NumberedEdge = record { number = 1; edge = first.first } in
    let quiet = between_frames s.bit s.jitter first.half 0 0 first.start first.first.time b first.is_half (omega arith) (omega (arith, first.apart)) first.at in
    subst (λ (l : List Edge). FirstSides s None (numbered 0 l)) (sym first.are) (record {
      opening = record { number = 0; edge = edge_at line 0 false };
      line = one ∷ data_edges None rest;
      are = refl;
      at_once = refl;
      covers = covers-synced s.bit 0 None false (one ∷ rest);
      starts = λ before sent train recorded. ap is_quiet quiet;
    })

-- ---- with slots
-- the smaller and the greater of two
smaller : (a b : ℕ) → ((min a b ≡ a) × (max a b ≡ b)) ⊎ ((min a b ≡ b) × (max a b ≡ a))
smaller a b = by-order (le-cases a b)
  where
    le-cases : (a b : ℕ) → (a ≤ b) ⊎ (b ≤ a)
    le-cases a b = grind arith

    by-order : (a ≤ b) ⊎ (b ≤ a) → ((min a b ≡ a) × (max a b ≡ b)) ⊎ ((min a b ≡ b) × (max a b ≡ a))
    by-order (inl le) = inl (omega arith, omega arith)
    by-order (inr le) = inr (omega arith, omega arith)

-- an edge with its number
abbrev at_number : ℕ → ℕ → ℕ → Bool → NumberedEdge
at_number number line time level = record { number = number; edge = edge_at line time level }

-- the data line behind both openings and a sync pulse
record BusLine (bit : ℕ) (w : SyncWindows) (edges : List NumberedEdge) : Type 0 where
  opening : NumberedEdge
  line : List NumberedEdge
  are : data_edges (Some w) edges ≡ opening ∷ line
  at_once : opening.edge.time ≡ 0
  covers : Covers (drop 1 (told_edges (Some w) edges)) (changes_after bit 0 line)

-- the edges that begin so, whichever line has the smaller number
bus-line : (bit line low high time : ℕ) (w : SyncWindows) (rest : List NumberedEdge) → nat_eq line w.line ≡ false → nat_eq w.line w.line ≡ true → ((low ≡ line) × (high ≡ w.line)) ⊎ ((low ≡ w.line) × (high ≡ line))
    → BusLine bit w (at_number 0 low 0 false ∷ at_number 1 high 0 false ∷ at_number 2 w.line time true ∷ rest)
unfolding synced_after
bus-line bit line low high time w rest other own (inl is) = record {
  opening = at_number 0 low 0 false;
  line = data_edges (Some w) rest;
  are = rw (is.0, is.1, other, own) refl;
  at_once = refl;
  covers = rw (is.0, is.1, other, own) (covers-synced bit 0 (Some w) true rest);
}
bus-line bit line low high time w rest other own (inr is) = record {
  opening = at_number 1 high 0 false;
  line = data_edges (Some w) rest;
  are = rw (is.0, is.1, other, own) refl;
  at_once = refl;
  covers = rw (is.0, is.1, other, own) (covers-synced bit 0 (Some w) true rest);
}

-- the first frame of a train comes in a window, long behind 0
answer-begins : (s : Settings) (w : SyncWindows) (before : SentBefore) (sent : List Sending) (line : List NumberedEdge) → AreBounds s.bit s.jitter → AreSlots s (Some w) → IsTrainBehind s (Some w) before sent
    → AreEdges s.jitter (on_data (ideal_edges s sent)) line → BeginsOrEmpty (changes_after s.bit 0 line)
unfolding changes_after
answer-begins s w before [] [] b range train recorded = tt
answer-begins s w before [] (e ∷ line) b range train recorded = absurd recorded
answer-begins s w before (SyncAt pulse ∷ sent) line b range train recorded = answer-begins s w (sent_with s before (SyncAt pulse)) sent line b range train.1 recorded
answer-begins s w before (FrameAt f ∷ sent) line b range train recorded =
    let p = frame_parts s (Some w) before f sent 0 line b train.0 recorded in
    let answer = train.0.in_slot in
    let low = window-low s.bit (4 * s.bit) w.windows answer.number (windows-accepted s w.windows range) answer.is_window in
    let early = answer.not_early in
    let short = train.0.half_bits.not_above in
    let apart : 0 + 1050 * s.bit ≤ f.start = omega (arith, low, early, short) in
    let quiet = between_frames s.bit s.jitter f.half 0 0 f.start p.heard.first.edge.time b train.0.half_bits (omega arith) apart p.heard.at in
    subst (λ (l : List Change). BeginsOrEmpty l) (sym (changes-parts s f sent 0 line p)) (ap is_quiet quiet)

-- edges that begin so, with their numbers
bus-sides : (s : Settings) (line : ℕ) (slots : SyncSlots) (edges : List Edge) → AreBounds s.bit s.jitter → AreTwoLines line (Some slots) → AreSlots s (windows_of (Some slots)) → BusFirst line slots edges
    → FirstSides s (windows_of (Some slots)) (numbered 0 edges)
unfolding numbered
bus-sides s line slots edges b two range first =
    let w : SyncWindows = record { line = slots.line; windows = slots.setup.windows } in
    let other : nat_eq line slots.line ≡ false = ne_eqb line slots.line (λ same. false≢true (sym two ∙ eq-eqb slots.line line (sym same))) in
    let found = bus-line s.bit line (min line slots.line) (max line slots.line) first.time w (numbered 3 first.rest) other (eq-eqb slots.line slots.line refl) (smaller line slots.line) in
    subst (λ (l : List Edge). FirstSides s (Some w) (numbered 0 l)) (sym first.are) (record {
      opening = found.opening;
      line = found.line;
      are = found.are;
      at_once = found.at_once;
      covers = found.covers;
      starts = λ before sent train recorded. answer-begins s w before sent found.line b range train recorded;
    })

-- ---- any channel
-- the lines of any channel are opened so
sides-of : (line : ℕ) (s : Settings) (slots : Option SyncSlots) (edges : List Edge) → AreBounds s.bit s.jitter → AreTwoLines line slots → AreSlots s (windows_of slots) → Begins line s slots edges → FirstSides s (windows_of slots) (numbered 0 edges)
sides-of line s None edges b two range first = free-sides s line edges b first
sides-of line s (Some slots) edges b two range first = bus-sides s line slots edges b two range first

-- all bursts of a channel are told whose edges begin so
pub channel-said : (line : ℕ) (s : Settings) (slots : Option SyncSlots) (messages : List Message) (edges : List Edge) → IsPsi5Trace s slots messages (numbered 0 edges) → AreTwoLines line slots → Begins line s slots edges
    → map said (from_first s (windows_of slots) (flat_map psi5_message_in messages) (numbered 0 edges)) ≡ bursts_in (flat_map psi5_message_in messages)
channel-said line s slots messages edges trace two first =
    let h = trace.honest in
    all-said s (windows_of slots) (flat_map psi5_message_in messages) (numbered 0 edges) h (sides-of line s slots edges (bounds-accepted s h.accepted) two h.slots first)

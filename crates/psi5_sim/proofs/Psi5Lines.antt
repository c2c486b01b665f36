-- The edges that are sent, line by line.
--     data_of, sync_of                 those of each line
--     data-numbered, sync-numbered     the same of edges with numbers
--     LinesSent, lines-opened          openings, and the edges of a train
--     lines-sync, lines-frame          with a sync pulse more, and with a frame more
--     lines-data, lines-syncs          so both lines are recorded of the train
use Rattle.std.proofs.Common.{◌≡◌, ℕ, ◌+◌, ◌*◌, ◌≤◌, ◌⊎◌, min, max, Bool, true, false, not, Option, None, Some, List, [], ◌∷◌, ◌++◌, length, map, refl, ap, ap₂, subst, sym, ◌∙◌, append-nil, cond, inl, inr, arith}
use Rattle.std.specs.Prelude.{nat_eq}
use Rattle.std.specs.List.{filter}
use Rattle.std.proofs.lemmas.Bool.{eq-eqb, ne_eqb, false≢true}
use Rattle.std.proofs.lemmas.List.{map-append}
use Rattle.std.proofs.lemmas.List.Elements.{filter-append}
use Rattle.std.proofs.lemmas.Grind.{flat_map-append}
use Rattle.line_base.specs.Edges.{NumberedEdge}
use Rattle.line_base.specs.declared.edge.Edge.{Edge}
use Rattle.psi5_frame.specs.Setup.{Settings}
use Rattle.psi5_frame.specs.Frames.{frame_of, waveform}
use Rattle.psi5_tolerance.specs.Lines.{behind_opening, data_edges, rises_of, sync_edges, times_of}
use Rattle.psi5_tolerance.specs.Trains.{FrameSent, IdealEdge, Sending, SyncAt, FrameAt, edges_at, edges_sent as ideal_sent, ideal_edges}
use Rattle.psi5_tolerance.specs.Traces.{IsDataLine, IsSyncLine, OpensBehind, ideal_times, on_data, on_sync}
use Rattle.receiver_core.specs.declared.setup.SyncSlots.{SyncSlots}
use Rattle.receiver_core.specs.Psi5Traces.{windows_of}
use Rattle.receiver_core.specs.Traces.{numbered}
use Rattle.link_tolerance.specs.Recorded.{AreRecorded}
use Rattle.sim_base.specs.Recordings.{edge_at, rises_with_falls, pulses_at}
use Rattle.sim_base.proofs.RecordedTimes.{recorded-append}
use Rattle.psi5_sim.specs.Psi5Sims.{alternating, openings}
use Rattle.psi5_sim.proofs.Psi5Setups.{AreTwoLines}

-- ---- one line
-- an edge is on the sync line, if there is one
abbrev pub is_on : Option SyncSlots → Edge → Bool
is_on None e = false
is_on (Some slots) e = nat_eq e.line slots.line

-- the edges of the data line
abbrev pub data_of : Option SyncSlots → List Edge → List Edge
data_of slots edges = filter (λ e. not (is_on slots e)) edges

-- the edges of the sync line
abbrev pub sync_of : Option SyncSlots → List Edge → List Edge
sync_of slots edges = filter (is_on slots) edges

-- their times
abbrev pub edge_times : List Edge → List ℕ
edge_times edges = map (λ (e : Edge). e.time) edges

-- and their levels
abbrev pub edge_levels : List Edge → List Bool
edge_levels edges = map (λ (e : Edge). e.level) edges

-- the rises among them
abbrev pub rises_among : List Edge → List Edge
rises_among edges = filter (λ (e : Edge). e.level) edges

-- the levels of ideal edges
abbrev pub ideal_levels : List IdealEdge → List Bool
ideal_levels ideals = map (λ (i : IdealEdge). i.level) ideals

-- edges without their numbers
abbrev pub plain : List NumberedEdge → List Edge
plain edges = map (λ (e : NumberedEdge). e.edge) edges

kept : (b : Bool) (e : NumberedEdge) (xs : List NumberedEdge) (ys : List Edge) → plain xs ≡ ys → plain (cond b (e ∷ xs) xs) ≡ cond b (e.edge ∷ ys) ys
kept true e xs ys same = ap (λ l. e.edge ∷ l) same
kept false e xs ys same = same

pub data-numbered : (slots : Option SyncSlots) (number : ℕ) (edges : List Edge) → plain (data_edges (windows_of slots) (numbered number edges)) ≡ data_of slots edges
unfolding numbered
data-numbered slots number [] = refl
data-numbered None number (e ∷ edges) = ap (λ l. e ∷ l) (data-numbered None (number + 1) edges)
data-numbered (Some slots) number (e ∷ edges) = kept (not (nat_eq e.line slots.line)) (record { number = number; edge = e }) _ _ (data-numbered (Some slots) (number + 1) edges)

pub sync-numbered : (slots : Option SyncSlots) (number : ℕ) (edges : List Edge) → plain (sync_edges (windows_of slots) (numbered number edges)) ≡ sync_of slots edges
unfolding numbered
sync-numbered slots number [] = refl
sync-numbered None number (e ∷ edges) = sync-numbered None (number + 1) edges
sync-numbered (Some slots) number (e ∷ edges) = kept (nat_eq e.line slots.line) (record { number = number; edge = e }) _ _ (sync-numbered (Some slots) (number + 1) edges)

times-plain : (edges : List NumberedEdge) → times_of edges ≡ edge_times (plain edges)
times-plain [] = refl
times-plain (e ∷ edges) = ap (λ l. e.edge.time ∷ l) (times-plain edges)

levels-plain : (edges : List NumberedEdge) → map (λ (e : NumberedEdge). e.edge.level) edges ≡ edge_levels (plain edges)
levels-plain [] = refl
levels-plain (e ∷ edges) = ap (λ l. e.edge.level ∷ l) (levels-plain edges)

rises-plain : (edges : List NumberedEdge) → plain (filter (λ (e : NumberedEdge). e.edge.level) edges) ≡ rises_among (plain edges)
rises-plain [] = refl
rises-plain (e ∷ edges) = kept e.edge.level e _ _ (rises-plain edges)

opens-anywhere : (jitter : ℕ) (edges : List NumberedEdge) → OpensBehind jitter edges []
opens-anywhere jitter [] = tt
opens-anywhere jitter (opening ∷ edges) = tt

-- ---- edges that are sent
-- the rises of the sync line are recorded of these ideal edges; there are none without slots
pub record RisesSent (jitter line : ℕ) (edges : List Edge) (ideals : List IdealEdge) : Type 0 where
  pub rest : List Edge
  pub are : edges ≡ edge_at line 0 false ∷ rest
  pub times : AreRecorded jitter (ideal_times ideals) (edge_times (rises_among rest))

abbrev pub SyncsSent : ℕ → Option SyncSlots → List Edge → List IdealEdge → Type 0
SyncsSent jitter None edges ideals = ideals ≡ []
SyncsSent jitter (Some slots) edges ideals = RisesSent jitter slots.line (sync_of (Some slots) edges) ideals

-- both lines are opened, and recorded of this train
pub record LinesSent (line : ℕ) (s : Settings) (slots : Option SyncSlots) (train : List Sending) (edges : List Edge) : Type 0 where
  pub own : List Edge
  pub own_are : data_of slots edges ≡ edge_at line 0 false ∷ own
  pub times : AreRecorded s.jitter (ideal_times (on_data (ideal_edges s train))) (edge_times own)
  pub levels : edge_levels own ≡ ideal_levels (on_data (ideal_edges s train))
  pub syncs : SyncsSent s.jitter slots edges (on_sync (ideal_edges s train))

-- ---- the openings
-- the smaller and the greater of two
smaller : (a b : ℕ) → ((min a b ≡ a) × (max a b ≡ b)) ⊎ ((min a b ≡ b) × (max a b ≡ a))
smaller a b = by_order (le_cases a b)
  where
    le_cases : (a b : ℕ) → (a ≤ b) ⊎ (b ≤ a)
    le_cases a b = grind arith

    by_order : (a ≤ b) ⊎ (b ≤ a) → ((min a b ≡ a) × (max a b ≡ b)) ⊎ ((min a b ≡ b) × (max a b ≡ a))
    by_order (inl le) = inl (omega arith, omega arith)
    by_order (inr le) = inr (omega arith, omega arith)

two-openings : (line : ℕ) (slots : SyncSlots) (low high : ℕ) → nat_eq slots.line line ≡ false → ((low ≡ line) × (high ≡ slots.line)) ⊎ ((low ≡ slots.line) × (high ≡ line))
    → (data_of (Some slots) (edge_at low 0 false ∷ edge_at high 0 false ∷ []) ≡ edge_at line 0 false ∷ []) × (sync_of (Some slots) (edge_at low 0 false ∷ edge_at high 0 false ∷ []) ≡ edge_at slots.line 0 false ∷ [])
two-openings line slots low high differ order =
    let other : nat_eq line slots.line ≡ false = ne_eqb line slots.line (λ same. false≢true (sym differ ∙ eq-eqb slots.line line (sym same))) in
    let own : nat_eq slots.line slots.line ≡ true = eq-eqb slots.line slots.line refl in
    by_order other own order
  where
    by_order : nat_eq line slots.line ≡ false → nat_eq slots.line slots.line ≡ true → ((low ≡ line) × (high ≡ slots.line)) ⊎ ((low ≡ slots.line) × (high ≡ line))
        → (data_of (Some slots) (edge_at low 0 false ∷ edge_at high 0 false ∷ []) ≡ edge_at line 0 false ∷ []) × (sync_of (Some slots) (edge_at low 0 false ∷ edge_at high 0 false ∷ []) ≡ edge_at slots.line 0 false ∷ [])
    by_order other own (inl is) = rw (is.0, is.1, other, own) (refl, refl)
    by_order other own (inr is) = rw (is.0, is.1, other, own) (refl, refl)

pub lines-opened : (line : ℕ) (s : Settings) (slots : Option SyncSlots) → AreTwoLines line slots → LinesSent line s slots [] (openings line slots None None)
lines-opened line s None two = record { own = []; own_are = refl; times = tt; levels = refl; syncs = refl }
lines-opened line s (Some slots) two =
    let both = two-openings line slots (min line slots.line) (max line slots.line) two (smaller line slots.line) in
    record { own = []; own_are = both.0; times = tt; levels = refl; syncs = record { rest = []; are = both.1; times = tt } }

-- ---- one message more
ideal-push : (s : Settings) (train : List Sending) (t : Sending) → ideal_edges s (train ++ t ∷ []) ≡ ideal_edges s train ++ ideal_sent s t
ideal-push s train t = flat_map-append (ideal_sent s) train (t ∷ []) ∙ ap (λ l. ideal_edges s train ++ l) (append-nil (ideal_sent s t))

data-push : (s : Settings) (train : List Sending) (t : Sending) → on_data (ideal_edges s (train ++ t ∷ [])) ≡ on_data (ideal_edges s train) ++ on_data (ideal_sent s t)
data-push s train t = ap on_data (ideal-push s train t) ∙ filter-append (λ (i : IdealEdge). not i.on_sync) (ideal_edges s train) (ideal_sent s t)

sync-push : (s : Settings) (train : List Sending) (t : Sending) → on_sync (ideal_edges s (train ++ t ∷ [])) ≡ on_sync (ideal_edges s train) ++ on_sync (ideal_sent s t)
sync-push s train t = ap on_sync (ideal-push s train t) ∙ filter-append (λ (i : IdealEdge). i.on_sync) (ideal_edges s train) (ideal_sent s t)

times-append : (xs ys : List IdealEdge) → ideal_times (xs ++ ys) ≡ ideal_times xs ++ ideal_times ys
times-append xs ys = map-append (λ (i : IdealEdge). i.time) xs ys

-- what is new on both lines
pub record NewLines (line : ℕ) (s : Settings) (slots : Option SyncSlots) (t : Sending) (more : List Edge) : Type 0 where
  pub own : List Edge
  pub own_are : data_of slots more ≡ own
  pub times : AreRecorded s.jitter (ideal_times (on_data (ideal_sent s t))) (edge_times own)
  pub levels : edge_levels own ≡ ideal_levels (on_data (ideal_sent s t))
  pub sync : List Edge
  pub sync_are : sync_of slots more ≡ sync
  pub sync_times : AreRecorded s.jitter (ideal_times (on_sync (ideal_sent s t))) (edge_times (rises_among sync))

syncs-push : (line : ℕ) (s : Settings) (slots : Option SyncSlots) (train : List Sending) (t : Sending) (edges more : List Edge) → SyncsSent s.jitter slots edges (on_sync (ideal_edges s train)) → NewLines line s slots t more
    → SyncsSent s.jitter slots (edges ++ more) (on_sync (ideal_edges s (train ++ t ∷ [])))
syncs-push line s None train t edges more syncs new = sync-push s train t ∙ ap₂ (λ a b. a ++ b) syncs (none-new (on_sync (ideal_sent s t)) (subst (λ l. AreRecorded s.jitter (ideal_times (on_sync (ideal_sent s t))) (edge_times (rises_among l))) (sym new.sync_are ∙ sync-none more) new.sync_times))
  where
    sync-none : (edges : List Edge) → sync_of None edges ≡ []
    sync-none [] = refl
    sync-none (e ∷ edges) = sync-none edges

    none-new : (ideals : List IdealEdge) → AreRecorded s.jitter (ideal_times ideals) [] → ideals ≡ []
    none-new [] recorded = refl
    none-new (i ∷ ideals) recorded = absurd recorded
syncs-push line s (Some slots) train t edges more syncs new = record {
  rest = syncs.rest ++ new.sync;
  are = filter-append (is_on (Some slots)) edges more ∙ ap₂ (λ a b. a ++ b) syncs.are new.sync_are;
  times = subst (λ l. AreRecorded s.jitter l (edge_times (rises_among (syncs.rest ++ new.sync)))) (sym (ap ideal_times (sync-push s train t) ∙ times-append (on_sync (ideal_edges s train)) (on_sync (ideal_sent s t))))
      (subst (AreRecorded s.jitter (ideal_times (on_sync (ideal_edges s train)) ++ ideal_times (on_sync (ideal_sent s t)))) (sym (ap edge_times (filter-append (λ (e : Edge). e.level) syncs.rest new.sync) ∙ map-append (λ (e : Edge). e.time) (rises_among syncs.rest) (rises_among new.sync)))
      (recorded-append s.jitter (ideal_times (on_sync (ideal_edges s train))) (ideal_times (on_sync (ideal_sent s t))) (edge_times (rises_among syncs.rest)) (edge_times (rises_among new.sync)) syncs.times new.sync_times));
}

pub lines-push : (line : ℕ) (s : Settings) (slots : Option SyncSlots) (train : List Sending) (t : Sending) (edges more : List Edge) → LinesSent line s slots train edges → NewLines line s slots t more
    → LinesSent line s slots (train ++ t ∷ []) (edges ++ more)
lines-push line s slots train t edges more lines new = record {
  own = lines.own ++ new.own;
  own_are = filter-append (λ e. not (is_on slots e)) edges more ∙ ap₂ (λ a b. a ++ b) lines.own_are new.own_are;
  times = subst (λ l. AreRecorded s.jitter l (edge_times (lines.own ++ new.own))) (sym (ap ideal_times (data-push s train t) ∙ times-append (on_data (ideal_edges s train)) (on_data (ideal_sent s t))))
      (subst (AreRecorded s.jitter (ideal_times (on_data (ideal_edges s train)) ++ ideal_times (on_data (ideal_sent s t)))) (sym (map-append (λ (e : Edge). e.time) lines.own new.own))
      (recorded-append s.jitter (ideal_times (on_data (ideal_edges s train))) (ideal_times (on_data (ideal_sent s t))) (edge_times lines.own) (edge_times new.own) lines.times new.times));
  levels = map-append (λ (e : Edge). e.level) lines.own new.own ∙ ap₂ (λ a b. a ++ b) lines.levels new.levels ∙ sym (map-append (λ (i : IdealEdge). i.level) (on_data (ideal_edges s train)) (on_data (ideal_sent s t))) ∙ ap ideal_levels (sym (data-push s train t));
  syncs = syncs-push line s slots train t edges more lines.syncs new;
}

-- ---- a sync pulse
pub new-sync : (line : ℕ) (s : Settings) (slots : SyncSlots) (rise time : ℕ) → AreRecorded s.jitter (rise ∷ []) (time ∷ []) → NewLines line s (Some slots) (SyncAt rise) (rises_with_falls slots.line (2 * s.bit) (time ∷ []))
unfolding pulses_at
new-sync line s slots rise time recorded =
    let here : nat_eq slots.line slots.line ≡ true = eq-eqb slots.line slots.line refl in
    record {
      own = [];
      own_are = rw here refl;
      times = tt;
      levels = refl;
      sync = edge_at slots.line time true ∷ edge_at slots.line (time + 2 * s.bit) false ∷ [];
      sync_are = rw here refl;
      sync_times = recorded;
    }

-- ---- a frame
data-frame : (start half : ℕ) (level : Bool) (places : List ℕ) → on_data (edges_at start half level places) ≡ edges_at start half level places
unfolding edges_at
data-frame start half level [] = refl
data-frame start half level (place ∷ places) = ap (λ l. record { on_sync = false; time = start + place * half; level = level } ∷ l) (data-frame start half (not level) places)

sync-frame : (start half : ℕ) (level : Bool) (places : List ℕ) → on_sync (edges_at start half level places) ≡ []
unfolding edges_at
sync-frame start half level [] = refl
sync-frame start half level (place ∷ places) = sync-frame start half (not level) places

times-alternating : (line : ℕ) (level : Bool) (times : List ℕ) → edge_times (alternating line level times) ≡ times
unfolding alternating
times-alternating line level [] = refl
times-alternating line level (time ∷ times) = ap (λ l. time ∷ l) (times-alternating line (not level) times)

levels-alternating : (line start half : ℕ) (level : Bool) (places times : List ℕ) → length times ≡ length places → edge_levels (alternating line level times) ≡ ideal_levels (edges_at start half level places)
unfolding alternating edges_at
levels-alternating line start half level [] [] same = refl
levels-alternating line start half level [] (time ∷ times) same = absurd (omega (arith, same))
levels-alternating line start half level (place ∷ places) [] same = absurd (omega (arith, same))
levels-alternating line start half level (place ∷ places) (time ∷ times) same = ap (λ l. level ∷ l) (levels-alternating line start half (not level) places times (omega (arith, same)))

data-alternating : (slots : Option SyncSlots) (line : ℕ) (level : Bool) (times : List ℕ) → AreTwoLines line slots → data_of slots (alternating line level times) ≡ alternating line level times
unfolding alternating
data-alternating slots line level [] two = refl
data-alternating None line level (time ∷ times) two = ap (λ l. edge_at line time level ∷ l) (data-alternating None line (not level) times two)
data-alternating (Some slots) line level (time ∷ times) two =
    let other : nat_eq line slots.line ≡ false = ne_eqb line slots.line (λ same. false≢true (sym two ∙ eq-eqb slots.line line (sym same))) in
    rw other (ap (λ l. edge_at line time level ∷ l) (data-alternating (Some slots) line (not level) times two))

sync-alternating : (slots : Option SyncSlots) (line : ℕ) (level : Bool) (times : List ℕ) → AreTwoLines line slots → sync_of slots (alternating line level times) ≡ []
unfolding alternating
sync-alternating slots line level [] two = refl
sync-alternating None line level (time ∷ times) two = sync-alternating None line (not level) times two
sync-alternating (Some slots) line level (time ∷ times) two =
    let other : nat_eq line slots.line ≡ false = ne_eqb line slots.line (λ same. false≢true (sym two ∙ eq-eqb slots.line line (sym same))) in
    rw other (sync-alternating (Some slots) line (not level) times two)

pub new-frame : (line : ℕ) (s : Settings) (slots : Option SyncSlots) (f : FrameSent) (times : List ℕ) → AreTwoLines line slots → AreRecorded s.jitter (ideal_times (ideal_sent s (FrameAt f))) times → length times ≡ length (waveform (frame_of s f.payload))
    → NewLines line s slots (FrameAt f) (alternating line true times)
new-frame line s slots f times two recorded as_many =
    let places = waveform (frame_of s f.payload) in
    record {
      own = alternating line true times;
      own_are = data-alternating slots line true times two;
      times = subst (λ l. AreRecorded s.jitter (ideal_times l) (edge_times (alternating line true times))) (sym (data-frame f.start f.half true places)) (subst (AreRecorded s.jitter (ideal_times (ideal_sent s (FrameAt f)))) (sym (times-alternating line true times)) recorded);
      levels = levels-alternating line f.start f.half true places times as_many ∙ ap ideal_levels (sym (data-frame f.start f.half true places));
      sync = [];
      sync_are = sync-alternating slots line true times two;
      sync_times = subst (λ l. AreRecorded s.jitter (ideal_times l) []) (sym (sync-frame f.start f.half true places)) tt;
    }

-- ---- both lines are honest
tail-plain : (edges : List NumberedEdge) (opening : Edge) (rest : List Edge) → plain edges ≡ opening ∷ rest → plain (behind_opening edges) ≡ rest
tail-plain [] opening rest is = absurd cc
tail-plain (e ∷ edges) opening rest is = cc

pub lines-data : (line : ℕ) (s : Settings) (slots : Option SyncSlots) (train : List Sending) (edges : List Edge) → LinesSent line s slots train edges
    → IsDataLine s.jitter [] (on_data (ideal_edges s train)) (data_edges (windows_of slots) (numbered 0 edges))
lines-data line s slots train edges lines =
    let found = data_edges (windows_of slots) (numbered 0 edges) in
    let rest : plain (behind_opening found) ≡ lines.own = tail-plain found (edge_at line 0 false) lines.own (data-numbered slots 0 edges ∙ lines.own_are) in
    record {
      times = subst (AreRecorded s.jitter (ideal_times (on_data (ideal_edges s train)))) (sym (times-plain (behind_opening found) ∙ ap edge_times rest)) lines.times;
      levels = levels-plain (behind_opening found) ∙ ap edge_levels rest ∙ lines.levels;
      opens = opens-anywhere s.jitter found;
    }

no-plain : (edges : List NumberedEdge) → plain edges ≡ [] → edges ≡ []
no-plain [] is = refl
no-plain (e ∷ edges) is = absurd cc

pub lines-syncs : (line : ℕ) (s : Settings) (slots : Option SyncSlots) (train : List Sending) (edges : List Edge) → LinesSent line s slots train edges
    → IsSyncLine s.jitter [] (on_sync (ideal_edges s train)) (sync_edges (windows_of slots) (numbered 0 edges))
lines-syncs line s None train edges lines =
    let found = sync_edges None (numbered 0 edges) in
    let empty : found ≡ [] = no-plain found (sync-numbered None 0 edges ∙ sync-none edges) in
    record {
      times = subst (λ l. AreRecorded s.jitter (ideal_times l) (times_of (rises_of found))) (sym lines.syncs) (subst (λ l. AreRecorded s.jitter [] (times_of (rises_of l))) (sym empty) tt);
      opens = opens-anywhere s.jitter found;
    }
  where
    sync-none : (edges : List Edge) → sync_of None edges ≡ []
    sync-none [] = refl
    sync-none (e ∷ edges) = sync-none edges
lines-syncs line s (Some slots) train edges lines =
    let found = sync_edges (windows_of (Some slots)) (numbered 0 edges) in
    let rest : plain (behind_opening found) ≡ lines.syncs.rest = tail-plain found (edge_at slots.line 0 false) lines.syncs.rest (sync-numbered (Some slots) 0 edges ∙ lines.syncs.are) in
    record {
      times = subst (AreRecorded s.jitter (ideal_times (on_sync (ideal_edges s train)))) (sym (times-plain (rises_of found) ∙ ap edge_times (rises-plain (behind_opening found) ∙ ap rises_among rest))) lines.syncs.times;
      opens = opens-anywhere s.jitter found;
    }

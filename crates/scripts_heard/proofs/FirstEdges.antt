-- What the first edges are that a simulator of PSI5 sends.
--     FreeFirst, BusFirst      without slots, and with them
--     Begins, begins-more      so edges begin, whatever follows
--     first-begins             the edges of the first message that is sent
--     run-begins               so do those of each simulator that has run, once it has sent a message
use Rattle.std.proofs.Common.{◌≡◌, ℕ, ◌+◌, ◌*◌, ◌^◌, ◌≤◌, ◌⊎◌, min, max, Bool, true, false, not, Option, None, Some, List, [], ◌∷◌, ◌++◌, length, map, refl, ap, sym, subst, ◌∙◌, inl, inr, if◌then◌else◌, ltb, arith}
use Rattle.rand_pcg.specs.Lcg.{Lcg}
use Rattle.line_base.specs.declared.edge.Edge.{Edge}
use Rattle.link_math.specs.Division.{bits_of}
use Rattle.psi5_frame.specs.declared.burst.Payload.{Payload}
use Rattle.psi5_frame.specs.Setup.{Settings, check_width, fault_of}
use Rattle.psi5_frame.specs.Frames.{changed_at, check_number, levels_of, payload_bits}
use Rattle.link_tolerance.specs.Recorded.{IsRecorded}
use Rattle.psi5_tolerance.specs.Trains.{IsHalf, Sending, SyncAt, FrameAt, nothing_sent}
use Rattle.spc_tolerance.specs.Trains.{last_of}
use Rattle.receiver_core.specs.declared.message.Message.{Message}
use Rattle.receiver_core.specs.declared.message.Message.TheVariants as message
use Rattle.receiver_core.specs.declared.setup.SyncSlots.{SyncSlots}
use Rattle.sim_base.specs.declared.sim_fault.SimFault.{SimFault}
use Rattle.sim_base.specs.declared.sim_fault.SimFault.TheVariants as fault
use Rattle.sim_base.specs.Outcomes.{Sent, Refused}
use Rattle.sim_base.specs.Recordings.{edge_at, pulses_at, recorded_at, recorded_by}
use Rattle.sim_base.specs.Runs.{HasRun, NotYet, OneMore}
use Rattle.sim_base.specs.Wobbles.{behind_word, past, word, words}
use Rattle.sim_base.proofs.RecordedTimes.{recorded-near}
use Rattle.psi5_sim.specs.Psi5Sims.{alternating, behind, burst_next, edges_sent, fits_burst, frame_drawn, is_in_order, message_edges, next_sync, psi5_next, start_of, started, sync_next, times_sent}
use Rattle.psi5_sim.specs.Psi5States.{Psi5State}
use Rattle.psi5_sim.proofs.BurstTimes.{frame-begins, time_at}
use Rattle.psi5_sim.proofs.Psi5Edges.{Bounds, bounds-of}
use Rattle.psi5_sim.proofs.Psi5Outcomes.{burst-fits, frame-times}
use Rattle.psi5_sim.proofs.Psi5Times.{free-behind, half-near}

-- without slots: the opening at 0, and the first edge of a frame that starts at least 1.05 nominal bit times later
pub record FreeFirst (s : Settings) (line : ℕ) (edges : List Edge) : Type 0 where
  pub first : Edge
  pub rest : List Edge
  pub are : edges ≡ edge_at line 0 false ∷ first ∷ rest
  pub start : ℕ
  pub half : ℕ
  pub is_half : IsHalf s.bit half
  pub apart : 1050 * s.bit ≤ start
  pub at : IsRecorded s.jitter (start + half) first.time

-- with slots: the openings of both lines at 0, and the rise of a sync pulse
pub record BusFirst (line : ℕ) (slots : SyncSlots) (edges : List Edge) : Type 0 where
  pub time : ℕ
  pub rest : List Edge
  pub are : edges ≡ edge_at (min line slots.line) 0 false ∷ edge_at (max line slots.line) 0 false ∷ edge_at slots.line time true ∷ rest

-- so the edges of a channel begin
abbrev pub Begins : ℕ → Settings → Option SyncSlots → List Edge → Type 0
Begins line s None edges = FreeFirst s line edges
Begins line s (Some slots) edges = BusFirst line slots edges

-- whatever follows
begins-more : (line : ℕ) (s : Settings) (slots : Option SyncSlots) (edges more : List Edge) → Begins line s slots edges → Begins line s slots (edges ++ more)
begins-more line s None edges more b = record {
  first = b.first;
  rest = b.rest ++ more;
  are = ap (λ l. l ++ more) b.are;
  start = b.start;
  half = b.half;
  is_half = b.is_half;
  apart = b.apart;
  at = b.at;
}
begins-more line s (Some slots) edges more b = record { time = b.time; rest = b.rest ++ more; are = ap (λ l. l ++ more) b.are }

-- ---- the first message
-- what is refused isn't sent
refused-not : {refused : SimFault} {edges : List Edge} {state state' : Psi5State} {g g' : Lcg} {X : Type 0} → Refused refused state g ≡ Sent edges state' g' → X
refused-not same = absurd cc

-- a message's edges, by whether it is too late
sent-late : (state : Psi5State) (t : Sending) (g later : Lcg) (more : List Edge) (next : Psi5State) (late : Bool)
    → (if late then Refused fault.Late state g else Sent (message_edges state t (words (length (times_sent state.setup t)) g)) (behind state t) (past (length (times_sent state.setup t)) g)) ≡ Sent more next later
    → message_edges state t (words (length (times_sent state.setup t)) g) ≡ more
sent-late state t g later more next true same = refused-not same
sent-late state t g later more next false same = cc

-- the edges of a message that is sent
sent-by : (state : Psi5State) (t : Sending) (g later : Lcg) (more : List Edge) (next : Psi5State) → edges_sent state t g ≡ Sent more next later → message_edges state t (words (length (times_sent state.setup t)) g) ≡ more
unfolding edges_sent
sent-by state t g later more next same = sent-late state t g later more next (ltb (9 * 10 ^ 17) (last_of 0 (times_sent state.setup t))) same

-- a sync pulse
sync-first : (line : ℕ) (s : Settings) (slots : SyncSlots) (rise : ℕ) (g : Lcg) → BusFirst line slots (message_edges (started line s (Some slots)) (SyncAt rise) (words (length (times_sent s (SyncAt rise))) g))
unfolding message_edges times_sent recorded_by words pulses_at
sync-first line s slots rise g =
    let time = recorded_at s.jitter rise (word g) in
    record { time = time; rest = edge_at slots.line (time + 2 * s.bit) false ∷ []; are = refl }

-- the first of edges that are recorded
first-recorded : (line jitter ideal : ℕ) (ideals times : List ℕ) (g : Lcg) → times ≡ ideal ∷ ideals
    → (rest : List Edge) × (alternating line true (recorded_by jitter times (words (length times) g)) ≡ edge_at line (recorded_at jitter ideal (word g)) true ∷ rest)
unfolding alternating recorded_by words
first-recorded line jitter ideal ideals times g is =
    (alternating line false (recorded_by jitter ideals (words (length ideals) (behind_word g))), ap (λ l. alternating line true (recorded_by jitter l (words (length l) g))) is)

-- a burst without slots
free-first : (line : ℕ) (s : Settings) (payload : Payload) (g drawn : Lcg) → Bounds s
    → FreeFirst s line (message_edges (started line s None) (FrameAt (frame_drawn (started line s None) None payload g)) (words (length (times_sent s (FrameAt (frame_drawn (started line s None) None payload g)))) drawn))
unfolding message_edges frame_drawn start_of
free-first line s payload g drawn bounds =
    let f = frame_drawn (started line s None) None payload g in
    let later = changed_at 2 true (levels_of (false ∷ (payload_bits s.parts payload ++ bits_of (check_width s.check) (check_number s.check (payload_bits s.parts payload)))) ++ false ∷ []) in
    let times : times_sent s (FrameAt f) ≡ time_at f.start f.half 1 ∷ map (time_at f.start f.half) later = frame-times s f ∙ ap (map (time_at f.start f.half)) (frame-begins s payload) in
    let edges = first-recorded line s.jitter (time_at f.start f.half 1) (map (time_at f.start f.half) later) (times_sent s (FrameAt f)) drawn times in
    let apart = free-behind s None (word (behind_word g)) in
    let one : time_at f.start f.half 1 ≡ f.start + f.half = omega arith in
    record {
      first = edge_at line (recorded_at s.jitter (time_at f.start f.half 1) (word drawn)) true;
      rest = edges.0;
      are = ap (λ l. edge_at line 0 false ∷ l) edges.1;
      start = f.start;
      half = f.half;
      is_half = half-near s.bit (word g);
      apart = omega (arith, apart);
      at = subst (λ t. IsRecorded s.jitter t (recorded_at s.jitter (time_at f.start f.half 1) (word drawn))) one (recorded-near s.jitter (time_at f.start f.half 1) (word drawn) bounds.jitter_low);
    }

module _ (line : ℕ) (s : Settings) (more : List Edge) (next : Psi5State) (later : Lcg) (bounds : Bounds s) where
  -- a burst that fits and comes in order
  burst-fitting : (slots : Option SyncSlots) (slot : Option ℕ) (payload : Payload) (g : Lcg) → fits_burst s slots slot payload ≡ true → is_in_order nothing_sent slot ≡ true
      → edges_sent (started line s slots) (FrameAt (frame_drawn (started line s slots) slot payload g)) (behind_word (behind_word g)) ≡ Sent more next later → Begins line s slots more
  burst-fitting None None payload g fits order same =
      let drawn = behind_word (behind_word g) in
      subst (FreeFirst s line) (sent-by (started line s None) (FrameAt (frame_drawn (started line s None) None payload g)) drawn later more next same) (free-first line s payload g drawn bounds)
  burst-fitting None (Some number) payload g fits order same = no-slot (burst-fits s None (Some number) payload fits).1
    where
      no-slot : {X : Type 0} → false ≡ true → X
      no-slot e = absurd cc
  burst-fitting (Some slots) None payload g fits order same = no-slot (burst-fits s (Some slots) None payload fits).1
    where
      no-slot : {X : Type 0} → false ≡ true → X
      no-slot e = absurd cc
  burst-fitting (Some slots) (Some number) payload g fits order same = absurd cc

  -- a burst, by its tests
  burst-tested : (slots : Option SyncSlots) (slot : Option ℕ) (payload : Payload) (g : Lcg) (fits order : Bool) → fits_burst s slots slot payload ≡ fits → is_in_order nothing_sent slot ≡ order
      → (if not fits then Refused fault.Range (started line s slots) g else (if not order then Refused fault.Order (started line s slots) g
      else edges_sent (started line s slots) (FrameAt (frame_drawn (started line s slots) slot payload g)) (behind_word (behind_word g)))) ≡ Sent more next later
      → Begins line s slots more
  burst-tested slots slot payload g false order fits_is order_is same = refused-not same
  burst-tested slots slot payload g true false fits_is order_is same = refused-not same
  burst-tested slots slot payload g true true fits_is order_is same = burst-fitting slots slot payload g fits_is order_is same

  -- a sync pulse, by whether there are slots
  sync-begins : (slots : Option SyncSlots) (g : Lcg) → sync_next (started line s slots) slots g ≡ Sent more next later → Begins line s slots more
  sync-begins None g same = refused-not same
  sync-begins (Some slots) g same =
      let rise = next_sync s slots None in
      subst (BusFirst line slots) (sent-by (started line s (Some slots)) (SyncAt rise) g later more next same) (sync-first line s slots rise g)

  -- the first message that is sent
  first-begins : (slots : Option SyncSlots) (m : Message) (g : Lcg) → psi5_next (started line s slots) m g ≡ Sent more next later → Begins line s slots more
  unfolding psi5_next burst_next
  first-begins slots (message.Frame frame) g same = refused-not same
  first-begins slots (message.Short id value) g same = refused-not same
  first-begins slots (message.Enhanced id value wide) g same = refused-not same
  first-begins slots (message.Answer code frame) g same = refused-not same
  first-begins slots (message.Silent code) g same = refused-not same
  first-begins slots message.Sync g same = sync-begins slots g same
  first-begins slots (message.Burst slot payload) g same = burst-tested slots slot payload g (fits_burst s slots slot payload) (is_in_order nothing_sent slot) refl refl same
  first-begins slots (message.Down down) g same = refused-not same

-- ---- each simulator that has run
-- nothing was sent, or the edges begin so
abbrev pub HasBegun : ℕ → Settings → Option SyncSlots → Psi5State → List Message → List Edge → Type 0
HasBegun line s slots state messages edges = ((state ≡ started line s slots) × (messages ≡ []) × (edges ≡ [])) ⊎ Begins line s slots edges

-- one message more
begun-next : (line : ℕ) (s : Settings) (slots : Option SyncSlots) (state behind : Psi5State) (messages : List Message) (edges more : List Edge) (m : Message) (g later : Lcg) → Bounds s → HasBegun line s slots state messages edges
    → psi5_next state m g ≡ Sent more behind later → HasBegun line s slots behind (messages ++ m ∷ []) (edges ++ more)
begun-next line s slots state behind messages edges more m g later bounds (inl none) same =
    let first = first-begins line s more behind later bounds slots m g (ap (λ (n : Psi5State). psi5_next n m g) (sym none.0) ∙ same) in
    inr (subst (λ (l : List Edge). Begins line s slots (l ++ more)) (sym none.2) first)
begun-next line s slots state behind messages edges more m g later bounds (inr b) same = inr (begins-more line s slots edges more b)

-- once a simulator has sent a message, its edges begin so
pub run-begins : (line : ℕ) (s : Settings) (slots : Option SyncSlots) → fault_of s.bit s.parts s.jitter ≡ None → (state : Psi5State) (messages : List Message) (edges : List Edge)
    → HasRun Psi5State psi5_next (started line s slots) state messages edges → HasBegun line s slots state messages edges
run-begins line s slots accepted _ _ _ NotYet = inl (refl, refl, refl)
run-begins line s slots accepted _ _ _ (OneMore {state} {behind} {messages} {edges} {more} run m g later same) =
    begun-next line s slots state behind messages edges more m g later (bounds-of s accepted) (run-begins line s slots accepted state messages edges run) same

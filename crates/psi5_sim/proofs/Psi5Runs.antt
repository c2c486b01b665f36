-- What was sent on the lines of PSI5 of the messages that were accepted is an honest trace of them.
--     Keeps            what holds of a simulator that has accepted these messages and sent these edges
--     keeps-started    of a new one
--     keeps-next       of one that accepts a message more
--     run-honest, run-orderly      so of each
use Rattle.std.proofs.Common.{◌≡◌, ℕ, ◌+◌, ◌*◌, ◌^◌, ◌<◌, ◌≤◌, min, max, Bool, true, false, not, Option, None, Some, List, [], ◌∷◌, ◌++◌, length, map, flat_map, refl, ap, sym, subst, ◌∙◌, append-nil, append_assoc, if◌then◌else◌, ltb, ltb-false, ltb-true, arith}
use Rattle.std.specs.List.{All}
use Rattle.std.specs.Option.{unwrap_or}
use Rattle.std.proofs.lemmas.List.{map-append}
use Rattle.std.proofs.lemmas.List.Elements.{All-nil, All-push}
use Rattle.std.proofs.lemmas.Grind.{flat_map-append}
use Rattle.rand_pcg.specs.Lcg.{Lcg}
use Rattle.line_base.specs.declared.edge.Edge.{Edge}
use Rattle.line_base.specs.declared.edge.Item.TheVariants as item
use Rattle.line_base.specs.Orderly.{IsOrderly, IsOrderlyFrom, levels_with}
use Rattle.line_base.proofs.Orders.{IsOrderly-nil}
use Rattle.psi5_frame.specs.declared.burst.Payload.{Payload}
use Rattle.psi5_frame.specs.Setup.{Settings, bit_count, fault_of}
use Rattle.psi5_slots.specs.Meanings.{window_at}
use Rattle.psi5_tolerance.specs.Lines.{SyncWindows, AreInOrder as LinesInOrder, data_edges, sync_edges}
use Rattle.psi5_tolerance.specs.Trains.{IsSent, IsTrain, IsTrainBehind, Sending, SyncAt, FrameAt, SentBefore, ideal_edges, message_of, nothing_sent, sent_with}
use Rattle.psi5_tolerance.specs.Traces.{AreSlots, AreTogether, IsDataLine, IsSyncLine, on_data, on_sync}
use Rattle.spc_tolerance.specs.Trains.{last_of}
use Rattle.receiver_core.specs.declared.message.Message.{Message}
use Rattle.receiver_core.specs.declared.message.Message.TheVariants as message
use Rattle.receiver_core.specs.declared.setup.ChannelSetup.TheVariants.{Psi5}
use Rattle.receiver_core.specs.declared.setup.SyncSlots.{SyncSlots}
use Rattle.receiver_core.specs.Psi5Traces.{IsOfPsi5, IsPsi5Trace, psi5_message_in, windows_of}
use Rattle.receiver_core.specs.Setups.{setup_fault_of}
use Rattle.receiver_core.specs.Traces.{numbered}
use Rattle.sim_base.specs.declared.sim_fault.SimFault.{SimFault}
use Rattle.sim_base.specs.declared.sim_fault.SimFault.TheVariants as fault
use Rattle.sim_base.specs.Outcomes.{Sent, Refused}
use Rattle.sim_base.specs.Recordings.{opening_of, recorded_at, recorded_by}
use Rattle.sim_base.specs.Runs.{HasRun, NotYet, OneMore}
use Rattle.sim_base.specs.Wobbles.{behind_word, past, word, words}
use Rattle.sim_base.proofs.OrderlyEdges.{so_far-orderly}
use Rattle.sim_base.proofs.RecordedTimes.{length-words, recorded-near}
use Rattle.psi5_sim.specs.Psi5Sims.{behind, burst_next, edges_recorded, edges_sent, fits_burst, frame_drawn, half_of, is_in_order, message_edges, next_sync, openings, psi5_next, rise_in, start_of, started, sync_next, times_sent}
use Rattle.psi5_sim.specs.Psi5States.{AreAccepted, Psi5State, lines_of}
use Rattle.psi5_sim.proofs.Psi5Edges.{Bounds, Comes, Opened, bounds-of, first-opened, frame-opened, sync-opened}
use Rattle.psi5_sim.proofs.Psi5Lines.{lines-data, lines-syncs}
use Rattle.psi5_sim.proofs.Psi5Outcomes.{burst-fits}
use Rattle.psi5_sim.proofs.Psi5Setups.{AreTwoLines, channel-accepted}
use Rattle.psi5_sim.proofs.Psi5Times.{above-some, before-some, behind-some, free-behind, half-near, slot-within, starts-in-time, sync-later}

-- ---- trains
-- what was sent behind this train
abbrev sent_after : Settings → SentBefore → List Sending → SentBefore
sent_after s before [] = before
sent_after s before (t ∷ train) = sent_after s (sent_with s before t) train

train-push : (s : Settings) (sync : Option SyncWindows) (before : SentBefore) (train : List Sending) (t : Sending) → IsTrainBehind s sync before train → IsSent s sync (sent_after s before train) t → IsTrainBehind s sync before (train ++ t ∷ [])
train-push s sync before [] t sent is = (is, tt)
train-push s sync before (first ∷ train) t sent is = (sent.0, train-push s sync (sent_with s before first) train t sent.1 is)

after-push : (s : Settings) (before : SentBefore) (train : List Sending) (t : Sending) → sent_after s before (train ++ t ∷ []) ≡ sent_with s (sent_after s before train) t
after-push s before [] t = refl
after-push s before (first ∷ train) t = after-push s (sent_with s before first) train t

-- ---- edges
-- the setup of a channel is accepted
record Accepted (line : ℕ) (s : Settings) (slots : Option SyncSlots) : Type 0 where
  pub frame : fault_of s.bit s.parts s.jitter ≡ None
  pub bounds : Bounds s
  pub windows : AreSlots s (windows_of slots)
  pub two : AreTwoLines line slots

-- when something was sent last: a frame, or a sync pulse where there are slots
abbrev last_sent : Option SyncSlots → SentBefore → Option ℕ
last_sent None before = before.frame_end
last_sent (Some slots) before = before.sync

-- the lines are opened once something was sent
abbrev EdgesBy : ℕ → Settings → Option SyncSlots → SentBefore → List Sending → List Edge → Option ℕ → Type 0
EdgesBy line s slots before train edges None = (before ≡ nothing_sent) × (train ≡ []) × (edges ≡ [])
EdgesBy line s slots before train edges (Some last) = Opened line s slots before train edges

no-openings : (line : ℕ) (slots : Option SyncSlots) (before : SentBefore) (last : ℕ) → last_sent slots before ≡ Some last → openings line slots before.frame_end before.sync ≡ []
no-openings line None before last has = ap (λ o. opening_of line false o) has
no-openings line (Some slots) before last has = ap (λ o. opening_of (min line slots.line) false o ++ opening_of (max line slots.line) false o) has

opened-by : (line : ℕ) (s : Settings) (slots : Option SyncSlots) (before : SentBefore) (train : List Sending) (edges : List Edge) (last : Option ℕ) → AreTwoLines line slots → last_sent slots before ≡ last → EdgesBy line s slots before train edges last
    → Opened line s slots before train (edges ++ openings line slots before.frame_end before.sync)
opened-by line s slots before train edges None two has nothing =
    subst (λ (b : SentBefore). Opened line s slots b train (edges ++ openings line slots b.frame_end b.sync)) (sym nothing.0)
    (subst (λ (l : List Sending). Opened line s slots nothing_sent l (edges ++ openings line slots None None)) (sym nothing.1)
    (subst (λ (l : List Edge). Opened line s slots nothing_sent [] (l ++ openings line slots None None)) (sym nothing.2) (first-opened line s slots two)))
opened-by line s slots before train edges (Some last) two has now =
    subst (λ (l : List Edge). Opened line s slots before train (edges ++ l)) (sym (no-openings line slots before last has))
    (subst (λ (l : List Edge). Opened line s slots before train l) (sym (append-nil edges)) now)

-- ---- what holds of a simulator that has accepted these messages and sent these edges
record Keeps (line : ℕ) (s : Settings) (slots : Option SyncSlots) (before : SentBefore) (messages : List Message) (edges : List Edge) : Type 0 where
  pub all_sent : All IsOfPsi5 messages
  pub train : List Sending
  pub says : map message_of train ≡ flat_map psi5_message_in messages
  pub is_train : IsTrain s (windows_of slots) train
  pub before_is : sent_after s nothing_sent train ≡ before
  pub edges_sent : EdgesBy line s slots before train edges (last_sent slots before)

keeps-started : (line : ℕ) (s : Settings) (slots : Option SyncSlots) → Keeps line s slots nothing_sent [] []
keeps-started line s slots = record { all_sent = All-nil IsOfPsi5; train = []; says = refl; is_train = tt; before_is = refl; edges_sent = none slots }
  where
    none : (slots : Option SyncSlots) → EdgesBy line s slots nothing_sent [] [] (last_sent slots nothing_sent)
    none None = (refl, refl, refl)
    none (Some slots) = (refl, refl, refl)

-- a simulator with these lines, this setup and these slots
abbrev made : ℕ → Settings → Option SyncSlots → SentBefore → Psi5State
made line s slots before = record { line = line; setup = s; slots = slots; before = before }

keeps-more : (line : ℕ) (s : Settings) (slots : Option SyncSlots) (before : SentBefore) (messages : List Message) (edges more : List Edge) (m : Message) (t : Sending) (last : ℕ) → (keeps : Keeps line s slots before messages edges) → IsOfPsi5 m
    → psi5_message_in m ≡ message_of t ∷ [] → IsSent s (windows_of slots) before t → last_sent slots (sent_with s before t) ≡ Some last
    → Opened line s slots (sent_with s before t) (keeps.train ++ t ∷ []) (edges ++ more) → Keeps line s slots (sent_with s before t) (messages ++ m ∷ []) (edges ++ more)
keeps-more line s slots before messages edges more m t last keeps is_of says is_sent has opened =
    let said : flat_map psi5_message_in (messages ++ m ∷ []) ≡ flat_map psi5_message_in messages ++ message_of t ∷ [] =
    flat_map-append psi5_message_in messages (m ∷ []) ∙ ap (λ l. flat_map psi5_message_in messages ++ (l ++ [])) says in
    record {
      all_sent = All-push IsOfPsi5 messages m keeps.all_sent is_of;
      train = keeps.train ++ t ∷ [];
      says = map-append message_of keeps.train (t ∷ []) ∙ ap (λ l. l ++ message_of t ∷ []) keeps.says ∙ sym said;
      is_train = train-push s (windows_of slots) nothing_sent keeps.train t keeps.is_train (subst (λ (b : SentBefore). IsSent s (windows_of slots) b t) (sym keeps.before_is) is_sent);
      before_is = after-push s nothing_sent keeps.train t ∙ ap (λ (b : SentBefore). sent_with s b t) keeps.before_is;
      edges_sent = subst (λ o. EdgesBy line s slots (sent_with s before t) (keeps.train ++ t ∷ []) (edges ++ more) o) (sym has) opened;
    }

-- ---- whatever becomes of a message
refused-not : {refused : SimFault} {edges : List Edge} {state state' : Psi5State} {g g' : Lcg} {X : Type 0} → Refused refused state g ≡ Sent edges state' g' → X
refused-not same = absurd cc

-- a message is sent
record IsSentBy (state : Psi5State) (t : Sending) (g : Lcg) (more : List Edge) (next : Psi5State) : Type 0 where
  pub in_time : last_of 0 (times_sent state.setup t) ≤ 9 * 10 ^ 17
  pub more_is : message_edges state t (words (length (times_sent state.setup t)) g) ≡ more
  pub next_is : behind state t ≡ next

sent-late : (state : Psi5State) (t : Sending) (g later : Lcg) (more : List Edge) (next : Psi5State) (late : Bool) → ltb (9 * 10 ^ 17) (last_of 0 (times_sent state.setup t)) ≡ late
    → (if late then Refused fault.Late state g else Sent (message_edges state t (words (length (times_sent state.setup t)) g)) (behind state t) (past (length (times_sent state.setup t)) g)) ≡ Sent more next later
    → IsSentBy state t g more next
sent-late state t g later more next true is same = refused-not same
sent-late state t g later more next false is same = record { in_time = ltb-false (9 * 10 ^ 17) (last_of 0 (times_sent state.setup t)) is; more_is = cc; next_is = cc }

sent-by : (state : Psi5State) (t : Sending) (g later : Lcg) (more : List Edge) (next : Psi5State) → edges_sent state t g ≡ Sent more next later → IsSentBy state t g more next
unfolding edges_sent
sent-by state t g later more next same = sent-late state t g later more next (ltb (9 * 10 ^ 17) (last_of 0 (times_sent state.setup t))) refl same

-- what is to be shown of the state behind a message
record KeepsBehind (line : ℕ) (s : Settings) (slots : Option SyncSlots) (next : Psi5State) (messages : List Message) (edges : List Edge) : Type 0 where
  pub made_is : next ≡ made line s slots next.before
  pub keeps : Keeps line s slots next.before messages edges

module _ (line : ℕ) (s : Settings) (messages : List Message) (edges : List Edge) (more : List Edge) (next : Psi5State) (later : Lcg) where
  -- one message more, by the edges behind the openings
  message-step : (slots : Option SyncSlots) (before : SentBefore) (m : Message) (t : Sending) (g : Lcg) (last : ℕ) → (keeps : Keeps line s slots before messages edges) → IsOfPsi5 m → psi5_message_in m ≡ message_of t ∷ []
      → IsSent s (windows_of slots) before t → last_sent slots (sent_with s before t) ≡ Some last
      → Opened line s slots (sent_with s before t) (keeps.train ++ t ∷ []) ((edges ++ openings line slots before.frame_end before.sync) ++ edges_recorded (made line s slots before) t (recorded_by s.jitter (times_sent s t) (words (length (times_sent s t)) g)))
      → IsSentBy (made line s slots before) t g more next → KeepsBehind line s slots next (messages ++ m ∷ []) (edges ++ more)
  unfolding message_edges
  message-step slots before m t g last keeps is_of says is_sent has opened sent =
      let opened_edges = openings line slots before.frame_end before.sync in
      let recorded = edges_recorded (made line s slots before) t (recorded_by s.jitter (times_sent s t) (words (length (times_sent s t)) g)) in
      let whole : (edges ++ opened_edges) ++ recorded ≡ edges ++ more = append_assoc edges opened_edges recorded ∙ ap (λ l. edges ++ l) sent.more_is in
      let after = subst (λ (l : List Edge). Opened line s slots (sent_with s before t) (keeps.train ++ t ∷ []) l) whole opened in
      let kept = keeps-more line s slots before messages edges more m t last keeps is_of says is_sent has after in
      subst (λ (n : Psi5State). KeepsBehind line s slots n (messages ++ m ∷ []) (edges ++ more)) sent.next_is (record { made_is = refl; keeps = kept })

  -- a sync pulse
  sync-step : (slots : SyncSlots) (before : SentBefore) (g : Lcg) → Accepted line s (Some slots) → (keeps : Keeps line s (Some slots) before messages edges)
      → edges_sent (made line s (Some slots) before) (SyncAt (next_sync s slots before.sync)) g ≡ Sent more next later → KeepsBehind line s (Some slots) next (messages ++ message.Sync ∷ []) (edges ++ more)
  unfolding times_sent recorded_by words
  sync-step slots before g accepted keeps same =
      let rise = next_sync s slots before.sync in
      let sent = sent-by (made line s (Some slots) before) (SyncAt rise) g later more next same in
      let opened = opened-by line s (Some slots) before keeps.train edges (last_sent (Some slots) before) accepted.two refl keeps.edges_sent in
      let coming = sync-later s slots before.sync before.slot (unwrap_or before.frame_end 0) accepted.bounds accepted.windows opened.ends in
      let time = recorded_at s.jitter rise (word g) in
      message-step (Some slots) before message.Sync (SyncAt rise) g rise keeps tt refl (record { after_frame = before-some before.frame_end rise coming.after_frame; after_sync = coming.after_sync }) refl
      (sync-opened line s slots before keeps.train (edges ++ openings line (Some slots) before.frame_end before.sync) rise time accepted.bounds accepted.two opened coming.behind coming.after_frame sent.in_time (recorded-near s.jitter rise (word g) accepted.bounds.jitter_low))
      sent

  -- a burst without slots
  free-step : (before : SentBefore) (payload : Payload) (g : Lcg) → Accepted line s None → (keeps : Keeps line s None before messages edges) → fits_burst s None None payload ≡ true
      → edges_sent (made line s None before) (FrameAt (frame_drawn (made line s None before) None payload g)) (behind_word (behind_word g)) ≡ Sent more next later
      → KeepsBehind line s None next (messages ++ message.Burst None payload ∷ []) (edges ++ more)
  unfolding frame_drawn start_of
  free-step before payload g accepted keeps fits same =
      let state = made line s None before in
      let f = frame_drawn state None payload g in
      let drawn = behind_word (behind_word g) in
      let sent = sent-by state (FrameAt f) drawn later more next same in
      let opened = opened-by line s None before keeps.train edges (last_sent None before) accepted.two refl keeps.edges_sent in
      let near = half-near s.bit (word g) in
      let apart = free-behind s before.frame_end (word (behind_word g)) in
      let comes : Comes s None before f = record {
        half_low = near.not_below;
        half_high = near.not_above;
        behind = omega (arith, apart);
        in_time = starts-in-time s f sent.in_time;
        ends = tt;
        reach_is = refl;
      } in
      message-step None before (message.Burst None payload) (FrameAt f) drawn (f.start + 2 * bit_count s * f.half) keeps tt refl
      (record { fits = (burst-fits s None None payload fits).0; half_bits = near; apart = behind-some before.frame_end (1050 * s.bit) f.start apart; in_slot = refl }) refl
      (frame-opened line s None before keeps.train (edges ++ openings line None before.frame_end before.sync) f (words (length (times_sent s (FrameAt f))) drawn) accepted.bounds accepted.two opened comes (length-words (length (times_sent s (FrameAt f))) drawn))
      sent

  -- a burst in a slot
  slot-step : (slots : SyncSlots) (frame_end sync last : Option ℕ) (number : ℕ) (payload : Payload) (g : Lcg) → Accepted line s (Some slots) → (keeps : Keeps line s (Some slots) (record { frame_end = frame_end; sync = sync; slot = last }) messages edges)
      → fits_burst s (Some slots) (Some number) payload ≡ true → is_in_order (record { frame_end = frame_end; sync = sync; slot = last }) (Some number) ≡ true
      → edges_sent (made line s (Some slots) (record { frame_end = frame_end; sync = sync; slot = last })) (FrameAt (frame_drawn (made line s (Some slots) (record { frame_end = frame_end; sync = sync; slot = last })) (Some number) payload g))
      (behind_word (behind_word g)) ≡ Sent more next later
      → KeepsBehind line s (Some slots) next (messages ++ message.Burst (Some number) payload ∷ []) (edges ++ more)
  unfolding frame_drawn start_of
  slot-step slots frame_end None last number payload g accepted keeps fits order same = absurd cc
  slot-step slots frame_end (Some sync) last number payload g accepted keeps fits order same =
      let before : SentBefore = record { frame_end = frame_end; sync = Some sync; slot = last } in
      let state = made line s (Some slots) before in
      let f = frame_drawn state (Some number) payload g in
      let drawn = behind_word (behind_word g) in
      let windows = slots.setup.windows in
      let sent = sent-by state (FrameAt f) drawn later more next same in
      let opened = opened-by line s (Some slots) before keeps.train edges (last_sent (Some slots) before) accepted.two refl keeps.edges_sent in
      let near = half-near s.bit (word g) in
      let fitting = burst-fits s (Some slots) (Some number) payload fits in
      let there : number < length windows = ltb-true number (length windows) fitting.1 in
      let within = slot-within s windows sync last (unwrap_or frame_end 0) number (half_of s.bit (word g)) (word (behind_word g)) accepted.bounds accepted.windows there order opened.ends near in
      let rise : f.start + f.half ≡ rise_in s.jitter (window_at windows number) sync (word (behind_word g)) = omega (arith, within.is_behind) in
      let comes : Comes s (Some slots) before f = record {
        half_low = near.not_below;
        half_high = near.not_above;
        behind = within.behind;
        in_time = starts-in-time s f sent.in_time;
        ends = (there, within.ends);
        reach_is = refl;
      } in
      message-step (Some slots) before (message.Burst (Some number) payload) (FrameAt f) drawn sync keeps tt refl
      (record {
        fits = fitting.0;
        half_bits = near;
        apart = behind-some frame_end (1050 * s.bit) f.start within.apart;
        in_slot = record {
          sync = sync;
          is_after = refl;
          number = number;
          slot_is = refl;
          is_window = there;
          is_later = above-some last number order;
          not_early = omega (arith, rise, within.not_early);
          not_late = omega (arith, rise, within.not_late);
        };
      }) refl
      (frame-opened line s (Some slots) before keeps.train (edges ++ openings line (Some slots) before.frame_end before.sync) f (words (length (times_sent s (FrameAt f))) drawn) accepted.bounds accepted.two opened comes (length-words (length (times_sent s (FrameAt f))) drawn))
      sent

  -- a burst, by its tests
  fitting-step : (slots : Option SyncSlots) (before : SentBefore) (slot : Option ℕ) (payload : Payload) (g : Lcg) → Accepted line s slots → Keeps line s slots before messages edges → fits_burst s slots slot payload ≡ true → is_in_order before slot ≡ true
      → edges_sent (made line s slots before) (FrameAt (frame_drawn (made line s slots before) slot payload g)) (behind_word (behind_word g)) ≡ Sent more next later
      → KeepsBehind line s slots next (messages ++ message.Burst slot payload ∷ []) (edges ++ more)
  fitting-step None before None payload g accepted keeps fits order same = free-step before payload g accepted keeps fits same
  fitting-step None before (Some number) payload g accepted keeps fits order same = no-slot (burst-fits s None (Some number) payload fits).1
    where
      no-slot : {X : Type 0} → false ≡ true → X
      no-slot e = absurd cc
  fitting-step (Some slots) before None payload g accepted keeps fits order same = no-slot (burst-fits s (Some slots) None payload fits).1
    where
      no-slot : {X : Type 0} → false ≡ true → X
      no-slot e = absurd cc
  fitting-step (Some slots) before (Some number) payload g accepted keeps fits order same = slot-step slots before.frame_end before.sync before.slot number payload g accepted keeps fits order same

  burst-tested : (slots : Option SyncSlots) (before : SentBefore) (slot : Option ℕ) (payload : Payload) (g : Lcg) (fits order : Bool) → Accepted line s slots → Keeps line s slots before messages edges → fits_burst s slots slot payload ≡ fits → is_in_order before slot ≡ order
      → (if not fits then Refused fault.Range (made line s slots before) g else (if not order then Refused fault.Order (made line s slots before) g
      else edges_sent (made line s slots before) (FrameAt (frame_drawn (made line s slots before) slot payload g)) (behind_word (behind_word g)))) ≡ Sent more next later
      → KeepsBehind line s slots next (messages ++ message.Burst slot payload ∷ []) (edges ++ more)
  burst-tested slots before slot payload g false order accepted keeps fits_is order_is same = refused-not same
  burst-tested slots before slot payload g true false accepted keeps fits_is order_is same = refused-not same
  burst-tested slots before slot payload g true true accepted keeps fits_is order_is same = fitting-step slots before slot payload g accepted keeps fits_is order_is same

  sync-by : (slots : Option SyncSlots) (before : SentBefore) (g : Lcg) → Accepted line s slots → Keeps line s slots before messages edges → sync_next (made line s slots before) slots g ≡ Sent more next later
      → KeepsBehind line s slots next (messages ++ message.Sync ∷ []) (edges ++ more)
  sync-by None before g accepted keeps same = refused-not same
  sync-by (Some slots) before g accepted keeps same = sync-step slots before g accepted keeps same

  keeps-next : (slots : Option SyncSlots) (before : SentBefore) (m : Message) (g : Lcg) → Accepted line s slots → Keeps line s slots before messages edges → psi5_next (made line s slots before) m g ≡ Sent more next later
      → KeepsBehind line s slots next (messages ++ m ∷ []) (edges ++ more)
  unfolding psi5_next burst_next
  keeps-next slots before (message.Frame frame) g accepted keeps same = refused-not same
  keeps-next slots before (message.Short id value) g accepted keeps same = refused-not same
  keeps-next slots before (message.Enhanced id value wide) g accepted keeps same = refused-not same
  keeps-next slots before (message.Answer code frame) g accepted keeps same = refused-not same
  keeps-next slots before (message.Silent code) g accepted keeps same = refused-not same
  keeps-next slots before message.Sync g accepted keeps same = sync-by slots before g accepted keeps same
  keeps-next slots before (message.Burst slot payload) g accepted keeps same = burst-tested slots before slot payload g (fits_burst s slots slot payload) (is_in_order before slot) accepted keeps refl refl same
  keeps-next slots before (message.Down down) g accepted keeps same = refused-not same

-- each simulator that has run
keeps-run : (line : ℕ) (s : Settings) (slots : Option SyncSlots) → Accepted line s slots → (state : Psi5State) (messages : List Message) (edges : List Edge) → HasRun Psi5State psi5_next (started line s slots) state messages edges
    → KeepsBehind line s slots state messages edges
keeps-run line s slots accepted _ _ _ NotYet = record { made_is = refl; keeps = keeps-started line s slots }
keeps-run line s slots accepted _ _ _ (OneMore {state} {behind} {messages} {edges} {more} run m g later same) =
    let kept = keeps-run line s slots accepted state messages edges run in
    keeps-next line s messages edges more behind later slots state.before m g accepted kept.keeps (ap (λ (n : Psi5State). psi5_next n m g) (sym kept.made_is) ∙ same)

-- ---- so its edges are honest and orderly
-- the times of orderly edges don't go back
in-order : (lines : List ℕ) (number time count : ℕ) (levels : ℕ → Option Bool) (edges : List Edge) → IsOrderlyFrom lines number time levels (map item.Edge edges) → LinesInOrder (numbered count edges)
unfolding IsOrderlyFrom numbered
in-order lines number time count levels [] orderly = tt
in-order lines number time count levels (edge ∷ []) orderly = (tt, tt)
in-order lines number time count levels (edge ∷ next ∷ edges) orderly =
    (orderly.1.0.not_earlier, in-order lines (number + 1) edge.time (count + 1) (levels_with levels edge.line edge.level) (next ∷ edges) orderly.1)

in_order : (lines : List ℕ) (edges : List Edge) → IsOrderly lines (map item.Edge edges) → LinesInOrder (numbered 0 edges)
unfolding IsOrderly
in_order lines edges orderly = in-order lines 0 0 0 (λ _. None) edges orderly

together : (slots : Option SyncSlots) (edges : List Edge) → LinesInOrder (numbered 0 edges) → AreTogether (windows_of slots) (numbered 0 edges)
together None edges ordered = tt
together (Some slots) edges ordered = ordered

module _ (line : ℕ) (s : Settings) (slots : Option SyncSlots) where
  edges-orderly : (before : SentBefore) (train : List Sending) (edges : List Edge) (last : Option ℕ) → EdgesBy line s slots before train edges last → IsOrderly (lines_of line slots) (map item.Edge edges)
  edges-orderly before train edges None nothing = subst (λ (l : List Edge). IsOrderly (lines_of line slots) (map item.Edge l)) (sym nothing.2) (IsOrderly-nil (lines_of line slots))
  edges-orderly before train edges (Some last) now = so_far-orderly (lines_of line slots) edges now.time now.levels now.so_far

  -- both lines are recorded of a train
  record BothLines (train : List Sending) (edges : List Edge) : Type 0 where
    pub on_data_line : IsDataLine s.jitter [] (on_data (ideal_edges s train)) (data_edges (windows_of slots) (numbered 0 edges))
    pub on_sync_line : IsSyncLine s.jitter [] (on_sync (ideal_edges s train)) (sync_edges (windows_of slots) (numbered 0 edges))

  none-sent : BothLines [] []
  unfolding numbered
  none-sent = record { on_data_line = record { times = tt; levels = refl; opens = tt }; on_sync_line = record { times = tt; opens = tt } }

  both-lines : (before : SentBefore) (train : List Sending) (edges : List Edge) (last : Option ℕ) → EdgesBy line s slots before train edges last → BothLines train edges
  both-lines before train edges None nothing = subst (λ (l : List Sending). BothLines l edges) (sym nothing.1) (subst (λ (l : List Edge). BothLines [] l) (sym nothing.2) none-sent)
  both-lines before train edges (Some last) now = record { on_data_line = lines-data line s slots train edges now.lines; on_sync_line = lines-syncs line s slots train edges now.lines }

  keeps-honest : (before : SentBefore) (messages : List Message) (edges : List Edge) → Accepted line s slots → Keeps line s slots before messages edges → IsPsi5Trace s slots messages (numbered 0 edges)
  keeps-honest before messages edges accepted keeps =
      let both_lines = both-lines before keeps.train edges (last_sent slots before) keeps.edges_sent in
      let orderly = edges-orderly before keeps.train edges (last_sent slots before) keeps.edges_sent in
      record {
        all_sent = keeps.all_sent;
        honest = record {
          accepted = accepted.frame;
          slots = accepted.windows;
          sent = keeps.train;
          carries = keeps.says;
          train = keeps.is_train;
          left_out = 0;
          data_line = both_lines.on_data_line;
          sync_line = both_lines.on_sync_line;
          together = together slots edges (in_order (lines_of line slots) edges orderly);
        };
      }

-- ---- of each simulator that has run
is-accepted : (line : ℕ) (s : Settings) (slots : Option SyncSlots) (init : Option ℕ) → fault_of s.bit s.parts s.jitter ≡ None → AreAccepted slots → setup_fault_of (Psi5 line s slots init) ≡ None → Accepted line s slots
is-accepted line s slots init frame windows channel =
    let accepted = channel-accepted line s slots init windows channel in
    record { frame = frame; bounds = bounds-of s frame; windows = accepted.0; two = accepted.1 }

pub run-honest : (line : ℕ) (s : Settings) (slots : Option SyncSlots) (init : Option ℕ) (state : Psi5State) (messages : List Message) (edges : List Edge) → fault_of s.bit s.parts s.jitter ≡ None → AreAccepted slots → setup_fault_of (Psi5 line s slots init) ≡ None
    → HasRun Psi5State psi5_next (started line s slots) state messages edges → IsPsi5Trace s slots messages (numbered 0 edges)
run-honest line s slots init state messages edges frame windows channel run =
    let accepted = is-accepted line s slots init frame windows channel in
    keeps-honest line s slots state.before messages edges accepted (keeps-run line s slots accepted state messages edges run).keeps

pub run-orderly : (line : ℕ) (s : Settings) (slots : Option SyncSlots) (init : Option ℕ) (state : Psi5State) (messages : List Message) (edges : List Edge) → fault_of s.bit s.parts s.jitter ≡ None → AreAccepted slots → setup_fault_of (Psi5 line s slots init) ≡ None
    → HasRun Psi5State psi5_next (started line s slots) state messages edges → IsOrderly (lines_of line slots) (map item.Edge edges)
run-orderly line s slots init state messages edges frame windows channel run =
    let accepted = is-accepted line s slots init frame windows channel in
    let keeps = (keeps-run line s slots accepted state messages edges run).keeps in
    edges-orderly line s slots state.before keeps.train edges (last_sent slots state.before) keeps.edges_sent

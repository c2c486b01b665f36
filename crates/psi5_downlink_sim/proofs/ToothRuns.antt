-- What a control unit has sent by the tooth gap of the messages that it has accepted is an honest trace of them.
--     ToothKeeps       what holds of a control unit that has accepted these messages and sent these edges
--     keeps-started    of a new one
--     keeps-next       of one that accepts a message more
--     keeps-run        so of each
--     run-honest, run-orderly
use Rattle.std.proofs.Common.{◌≡◌, ℕ, ◌+◌, ◌*◌, ◌/◌, ◌^◌, ◌≤◌, Bool, true, false, Option, None, Some, List, [], ◌∷◌, ◌++◌, length, map, flat_map, sum, refl, ap, sym, subst, ◌∙◌, append-nil, if◌then◌else◌, ltb, ltb-false, arith}
use Rattle.std.specs.List.{All}
use Rattle.std.proofs.lemmas.List.{map-append}
use Rattle.std.proofs.lemmas.List.Elements.{All-append, All-nil, All-push, All-weaker}
use Rattle.std.proofs.lemmas.Grind.{flat_map-append}
use Rattle.std.proofs.lemmas.Nat.{mul-le}
use Rattle.rand_pcg.specs.Lcg.{Lcg}
use Rattle.line_base.specs.declared.edge.Edge.{Edge}
use Rattle.line_base.specs.declared.edge.Item.TheVariants as item
use Rattle.line_base.specs.Orderly.{IsOrderly}
use Rattle.line_base.proofs.Orders.{IsOrderly-nil}
use Rattle.psi5_downlink.specs.declared.down.Down.{Down}
use Rattle.psi5_downlink.specs.Setup.{InRange, Settings, fault_of}
use Rattle.psi5_downlink.specs.Rises.{Rise}
use Rattle.link_tolerance.specs.Pulses.{falls_behind}
use Rattle.link_tolerance.specs.Recorded.{AreRecorded}
use Rattle.psi5_downlink_tolerance.specs.Trains.{IsSent, IsTrain, Lasts, Sending, Span, ideal_rises, message_periods, rises_behind}
use Rattle.psi5_downlink_tolerance.specs.Traces.{IsHonest}
use Rattle.psi5_downlink_tolerance.proofs.HeardPeriods.{setup_range}
use Rattle.receiver_core.specs.declared.message.Message.{Message}
use Rattle.receiver_core.specs.declared.message.Message.TheVariants as message
use Rattle.receiver_core.specs.ToothReports.{rises_of}
use Rattle.receiver_core.specs.ToothTraces.{IsOfTooth, IsToothTrace, down_in, opened_at}
use Rattle.receiver_core.specs.Traces.{numbered}
use Rattle.sim_base.specs.declared.sim_fault.SimFault.{SimFault}
use Rattle.sim_base.specs.declared.sim_fault.SimFault.TheVariants as fault
use Rattle.sim_base.specs.Outcomes.{Outcome, Sent, Refused}
use Rattle.sim_base.specs.Runs.{HasRun, NotYet, OneMore}
use Rattle.sim_base.specs.Recordings.{edge_at, opening_of, pulses_at, recorded_at, recorded_by, rises_with_falls}
use Rattle.sim_base.specs.Wobbles.{past, words as drawn_words}
use Rattle.sim_base.proofs.OrderlyEdges.{so_far-orderly}
use Rattle.sim_base.proofs.PulseEdges.{LeaveRoom}
use Rattle.sim_base.proofs.PulseLengths.{many-long}
use Rattle.sim_base.proofs.RecordedTimes.{length-falls, length-words}
use Rattle.psi5_downlink_sim.specs.ToothSims.{down_next, ends_at, fits_down, ideal_of, message_edges, missing_drawn, past_words, period_drawn, rises_sent, started, tooth_next, tooth_words}
use Rattle.psi5_downlink_sim.specs.ToothStates.{ToothState}
use Rattle.psi5_downlink_sim.proofs.ToothEdges.{RisesSent, first-sent, more-sent, rise_times, rises-heard}
use Rattle.psi5_downlink_sim.proofs.ToothOutcomes.{fits-down}
use Rattle.psi5_downlink_sim.proofs.ToothSpans.{counts-back, counts_of, end-is, gap-wide, ideal-is, lengths_of, new_spans, period-near, rises-are_falls, sending_of, spans-last, spans-long}

-- ---- edges
-- the edges of these intervals, the last of whose rises was ideal at this time; none where there was none
abbrev EdgesSent : ℕ → Settings → Option ℕ → List Sending → List Span → List Edge → Type 0
EdgesSent line s None sent spans edges = (sent ≡ []) × (spans ≡ []) × (edges ≡ [])
EdgesSent line s (Some last) sent spans edges = RisesSent line s.jitter (s.period / 10) (1000 * s.period) last (lengths_of spans) edges

module _ (line : ℕ) (s : Settings) (range : InRange s.period s.jitter) where
  -- intervals that are so long leave room for falls and jitter
  room : (lengths : List ℕ) → All (λ length. 950 * s.period ≤ length) lengths → LeaveRoom s.jitter (s.period / 10) lengths
  room lengths long = All-weaker (λ length. 950 * s.period ≤ length) (λ length. 1000 * (s.period / 10) + 2000 * s.jitter ≤ length) (λ length enough. omega arith) lengths long

  many : (lengths : List ℕ) → All (λ length. 950 * s.period ≤ length) lengths → length lengths * 2000000 ≤ sum lengths
  many lengths long = omega (arith, many-long (950 * s.period) lengths long, mul-le (length lengths) 2000000 (length lengths) (950 * s.period) (omega arith) (omega arith))

  -- the edges of one message more
  abbrev new_edges : Option ℕ → Down → ℕ → ℕ → List ℕ → List Edge
  new_edges last down period missing drawn = opening_of line false last ++ rises_with_falls line (s.period / 10) (recorded_by s.jitter (ideal_of s last down period missing) drawn)

  -- behind a last rise
  behind-last : (last : ℕ) (spans more : List Span) (edges : List Edge) (drawn : List ℕ) → RisesSent line s.jitter (s.period / 10) (1000 * s.period) last (lengths_of spans) edges
      → All (λ length. 950 * s.period ≤ length) (lengths_of more) → length drawn ≡ length (lengths_of more) → last + sum (lengths_of more) ≤ 9 * 10 ^ 17
      → RisesSent line s.jitter (s.period / 10) (1000 * s.period) (last + sum (lengths_of more)) (lengths_of (spans ++ more)) (edges ++ rises_with_falls line (s.period / 10) (recorded_by s.jitter (falls_behind last (lengths_of more)) drawn))
  behind-last last spans more edges drawn sent long as_many in_time =
      let lengths = lengths_of more in
      let edges' = edges ++ rises_with_falls line (s.period / 10) (recorded_by s.jitter (falls_behind last lengths) drawn) in
      subst (λ l. RisesSent line s.jitter (s.period / 10) (1000 * s.period) (last + sum lengths) l edges') (sym (map-append (λ (span : Span). span.length) spans more))
      (more-sent line s.jitter (s.period / 10) (omega arith) (omega arith) (1000 * s.period) last (lengths_of spans) edges sent lengths drawn (room lengths long) (many lengths long) as_many in_time)

  -- the rises of a message are recorded behind the last
  edges-push : (last : Option ℕ) (sent : List Sending) (spans : List Span) (edges : List Edge) (down : Down) (period missing : ℕ) (drawn : List ℕ) → EdgesSent line s last sent spans edges → 950 * s.period ≤ period
      → length drawn ≡ length (ideal_of s last down period missing) → ends_at s last down period missing ≤ 9 * 10 ^ 17
      → RisesSent line s.jitter (s.period / 10) (1000 * s.period) (ends_at s last down period missing) (lengths_of (spans ++ new_spans last s.form down period missing)) (edges ++ new_edges last down period missing drawn)
  unfolding recorded_by pulses_at
  edges-push None sent spans edges down period missing [] none near as_many in_time = absurd (omega (arith, ap length (ideal-is s None down period missing)))
  edges-push None sent spans edges down period missing (word ∷ words) none near as_many in_time =
      let first = 1000 * s.period in
      let more = new_spans None s.form down period missing in
      let high = s.period / 10 in
      let ideal : ideal_of s None down period missing ≡ first ∷ falls_behind first (lengths_of more) = ideal-is s None down period missing ∙ ap (λ l. first ∷ l) (rises-are_falls first more) in
      let end = end-is s None down period missing in
      let begun = edge_at line 0 false ∷ rises_with_falls line high (recorded_at s.jitter first word ∷ []) in
      let start = first-sent line s.jitter high (omega arith) (omega arith) first word (omega arith) (omega arith) (omega (arith, end)) in
      let count : length words ≡ length (lengths_of more) = omega (arith, as_many, ap length ideal, length-falls first (lengths_of more)) in
      let all = behind-last first [] more begun words start (spans-long None s.form down (950 * s.period) period missing near) count (omega (arith, end)) in
      subst (λ (l : List Edge). RisesSent line s.jitter high first (ends_at s None down period missing) (lengths_of (spans ++ more)) (l ++ new_edges None down period missing (word ∷ words))) (sym none.2)
      (subst (λ (l : List Span). RisesSent line s.jitter high first (ends_at s None down period missing) (lengths_of (l ++ more)) (new_edges None down period missing (word ∷ words))) (sym none.1)
      (subst (λ e. RisesSent line s.jitter high first e (lengths_of more) (new_edges None down period missing (word ∷ words))) (sym end)
      (subst (λ l. RisesSent line s.jitter high first (first + sum (lengths_of more)) (lengths_of more) (edge_at line 0 false ∷ rises_with_falls line high (recorded_by s.jitter l (word ∷ words)))) (sym ideal) all)))
  edges-push (Some last) sent spans edges down period missing drawn rises near as_many in_time =
      let more = new_spans (Some last) s.form down period missing in
      let high = s.period / 10 in
      let ideal : ideal_of s (Some last) down period missing ≡ falls_behind last (lengths_of more) = ideal-is s (Some last) down period missing ∙ rises-are_falls last more in
      let end = end-is s (Some last) down period missing in
      let count : length drawn ≡ length (lengths_of more) = as_many ∙ ap length ideal ∙ length-falls last (lengths_of more) in
      let all = behind-last last spans more edges drawn rises (spans-long (Some last) s.form down (950 * s.period) period missing near) count (omega (arith, end)) in
      subst (λ e. RisesSent line s.jitter high (1000 * s.period) e (lengths_of (spans ++ more)) (edges ++ new_edges (Some last) down period missing drawn)) (sym end)
      (subst (λ l. RisesSent line s.jitter high (1000 * s.period) (last + sum (lengths_of more)) (lengths_of (spans ++ more)) (edges ++ rises_with_falls line high (recorded_by s.jitter l drawn))) (sym ideal) all)

-- ---- trains
-- behind a last rise messages may follow that have an interval of one period before their gap
train-push : (line : ℕ) (s : Settings) (last : Option ℕ) (sent : List Sending) (spans : List Span) (edges : List Edge) (down : Down) (missing : ℕ) → EdgesSent line s last sent spans edges → IsTrain s.form sent → IsSent s.form (sending_of last down missing)
    → IsTrain s.form (sent ++ sending_of last down missing ∷ [])
train-push line s None sent spans edges down missing none train is_sent = subst (λ (l : List Sending). IsTrain s.form (l ++ sending_of None down missing ∷ [])) (sym none.0) (is_sent, All-nil (λ sending. IsSent s.form sending × (1 ≤ sending.idle)))
train-push line s (Some last) [] spans edges down missing rises train is_sent = (is_sent, All-nil (λ sending. IsSent s.form sending × (1 ≤ sending.idle)))
train-push line s (Some last) (first ∷ others) spans edges down missing rises train is_sent =
    (train.0, All-push (λ sending. IsSent s.form sending × (1 ≤ sending.idle)) others (sending_of (Some last) down missing) train.1 (is_sent, omega arith))

-- ---- what holds of a control unit that has accepted these messages and sent these edges
record ToothKeeps (first state : ToothState) (messages : List Message) (edges : List Edge) : Type 0 where
  pub line_is : state.line ≡ first.line
  pub setup_is : state.setup ≡ first.setup
  pub accepted : fault_of state.setup.period state.setup.jitter ≡ None
  pub in_range : InRange state.setup.period state.setup.jitter
  pub all_sent : All IsOfTooth messages
  pub sent : List Sending
  pub carries : map (λ (sending : Sending). sending.down) sent ≡ flat_map down_in messages
  pub train : IsTrain state.setup.form sent
  pub spans : List Span
  pub periods : counts_of spans ≡ flat_map (message_periods state.setup.form) sent
  pub lasting : All (Lasts state.setup.period) spans
  pub edges_sent : EdgesSent state.line state.setup state.last sent spans edges

keeps-started : (line : ℕ) (s : Settings) → fault_of s.period s.jitter ≡ None → ToothKeeps (started line s) (started line s) [] []
keeps-started line s accepted = record {
  line_is = refl;
  setup_is = refl;
  accepted = accepted;
  in_range = setup_range s.period s.jitter accepted;
  all_sent = All-nil IsOfTooth;
  sent = [];
  carries = refl;
  train = tt;
  spans = [];
  periods = refl;
  lasting = All-nil (Lasts s.period);
  edges_sent = (refl, refl, refl);
}

keeps-down : (first state : ToothState) (messages : List Message) (edges : List Edge) (down : Down) (period missing : ℕ) (drawn : List ℕ) → ToothKeeps first state messages edges → fits_down state.setup.form down ≡ true
    → (950 * state.setup.period ≤ period) × (period ≤ 1050 * state.setup.period) → 5 ≤ missing → length drawn ≡ length (ideal_of state.setup state.last down period missing) → ends_at state.setup state.last down period missing ≤ 9 * 10 ^ 17
    → ToothKeeps first (record state { last = Some (ends_at state.setup state.last down period missing) }) (messages ++ message.Down down ∷ []) (edges ++ message_edges state down period missing drawn)
unfolding message_edges
keeps-down first state messages edges down period missing drawn keeps fits near wide as_many in_time =
    let s = state.setup in
    let sending = sending_of state.last down missing in
    let more = new_spans state.last s.form down period missing in
    let is_sent : IsSent s.form sending = record { fits = fits-down s.form down fits; gap = wide } in
    record {
      line_is = keeps.line_is;
      setup_is = keeps.setup_is;
      accepted = keeps.accepted;
      in_range = keeps.in_range;
      all_sent = All-push IsOfTooth messages (message.Down down) keeps.all_sent tt;
      sent = keeps.sent ++ sending ∷ [];
      carries = map-append (λ (sending : Sending). sending.down) keeps.sent (sending ∷ []) ∙ ap (λ l. l ++ down ∷ []) keeps.carries ∙ sym (flat_map-append down_in messages (message.Down down ∷ []));
      train = train-push state.line s state.last keeps.sent keeps.spans edges down missing keeps.edges_sent keeps.train is_sent;
      spans = keeps.spans ++ more;
      periods = map-append (λ (span : Span). span.periods) keeps.spans more ∙ ap (λ l. l ++ counts_of more) keeps.periods
          ∙ ap (λ l. flat_map (message_periods s.form) keeps.sent ++ l) (counts-back period (message_periods s.form sending) ∙ sym (append-nil (message_periods s.form sending)))
          ∙ sym (flat_map-append (message_periods s.form) keeps.sent (sending ∷ []));
      lasting = All-append (Lasts s.period) keeps.spans more keeps.lasting (spans-last s.period period (message_periods s.form sending) near.0 near.1);
      edges_sent = edges-push state.line s keeps.in_range state.last keeps.sent keeps.spans edges down period missing drawn keeps.edges_sent near.0 as_many in_time;
    }

-- ---- whatever becomes of a message
-- what is sent is sent by one way alone
sent-same : {edges edges' : List Edge} {state state' : ToothState} {g g' : Lcg} → Sent edges state g ≡ Sent edges' state' g' → (edges ≡ edges') × (state ≡ state')
sent-same same = (cc, cc)

-- what is refused isn't sent
refused-not : {refused : SimFault} {edges : List Edge} {state state' : ToothState} {g g' : Lcg} {X : Type 0} → Refused refused state g ≡ Sent edges state' g' → X
refused-not same = absurd cc

-- a message is sent, or it comes too late
abbrev by_late : ToothState → Down → ℕ → ℕ → Lcg → Bool → Outcome ToothState
by_late state down period missing g late =
    if late then Refused fault.Late state g
    else Sent (message_edges state down period missing (drawn_words (length (ideal_of state.setup state.last down period missing)) g)) (record state { last = Some (ends_at state.setup state.last down period missing) })
    (past (length (ideal_of state.setup state.last down period missing)) g)

module _ (first state : ToothState) (messages : List Message) (edges : List Edge) (keeps : ToothKeeps first state messages edges) (more : List Edge) (behind : ToothState) (later : Lcg) where
  -- the message was accepted
  abbrev Goes : Message → Type 0
  Goes m = ToothKeeps first behind (messages ++ m ∷ []) (edges ++ more)

  -- what holds of what is sent holds of this
  goes : (m : Message) (now : List Edge) (next : ToothState) (g : Lcg) → ToothKeeps first next (messages ++ m ∷ []) (edges ++ now) → Sent now next g ≡ Sent more behind later → Goes m
  goes m now next g holds same =
      let parts = sent-same same in
      subst (λ s. ToothKeeps first s (messages ++ m ∷ []) (edges ++ more)) parts.1 (subst (λ l. ToothKeeps first next (messages ++ m ∷ []) (edges ++ l)) parts.0 holds)

  down-late : (down : Down) (period missing : ℕ) (g : Lcg) → fits_down state.setup.form down ≡ true → (950 * state.setup.period ≤ period) × (period ≤ 1050 * state.setup.period) → 5 ≤ missing → (late : Bool)
      → ltb (9 * 10 ^ 17) (ends_at state.setup state.last down period missing) ≡ late → by_late state down period missing g late ≡ Sent more behind later → Goes (message.Down down)
  down-late down period missing g fits near wide true late same = refused-not same
  down-late down period missing g fits near wide false late same =
      let count = length (ideal_of state.setup state.last down period missing) in
      let end = ends_at state.setup state.last down period missing in
      goes (message.Down down) (message_edges state down period missing (drawn_words count g)) (record state { last = Some end }) (past count g)
      (keeps-down first state messages edges down period missing (drawn_words count g) keeps fits near wide (length-words count g) (ltb-false (9 * 10 ^ 17) end late)) same

  down-step : (down : Down) (g : Lcg) (fits : Bool) → fits_down state.setup.form down ≡ fits → (if fits then down_next state down g else Refused fault.Range state g) ≡ Sent more behind later → Goes (message.Down down)
  unfolding down_next rises_sent
  down-step down g false fits same = refused-not same
  down-step down g true fits same =
      let period = period_drawn state.setup.period (tooth_words g).period in
      let missing = missing_drawn (tooth_words g).gap in
      down-late down period missing (past_words g) fits (period-near state.setup.period (tooth_words g).period) (gap-wide (tooth_words g).gap) (ltb (9 * 10 ^ 17) (ends_at state.setup state.last down period missing)) refl same

  keeps-next : (m : Message) (g : Lcg) → tooth_next state m g ≡ Sent more behind later → ToothKeeps first behind (messages ++ m ∷ []) (edges ++ more)
  unfolding tooth_next
  keeps-next (message.Frame frame) g same = refused-not same
  keeps-next (message.Short id value) g same = refused-not same
  keeps-next (message.Enhanced id value wide) g same = refused-not same
  keeps-next (message.Answer code frame) g same = refused-not same
  keeps-next (message.Silent code) g same = refused-not same
  keeps-next message.Sync g same = refused-not same
  keeps-next (message.Burst slot payload) g same = refused-not same
  keeps-next (message.Down down) g same = down-step down g (fits_down state.setup.form down) refl same

-- each control unit that has run
keeps-run : (line : ℕ) (s : Settings) → fault_of s.period s.jitter ≡ None → (state : ToothState) (messages : List Message) (edges : List Edge) → HasRun ToothState tooth_next (started line s) state messages edges
    → ToothKeeps (started line s) state messages edges
keeps-run line s accepted _ _ _ NotYet = keeps-started line s accepted
keeps-run line s accepted _ _ _ (OneMore {state} {behind} {messages} {edges} {more} run m g later same) =
    keeps-next (started line s) state messages edges (keeps-run line s accepted state messages edges run) more behind later m g same

-- ---- so its edges are honest and orderly
module _ (s : Settings) (messages : List Down) (accepted : fault_of s.period s.jitter ≡ None) (sent : List Sending) (carries : map (λ (sending : Sending). sending.down) sent ≡ messages) (train : IsTrain s.form sent) (spans : List Span)
    (periods : counts_of spans ≡ flat_map (message_periods s.form) sent) (lasting : All (Lasts s.period) spans) where
  edges-honest : (line : ℕ) (last : Option ℕ) (edges : List Edge) → EdgesSent line s last sent spans edges → IsHonest s messages (opened_at (numbered 0 edges)) (rises_of (numbered 0 edges))
  unfolding numbered rises_behind
  edges-honest line None edges none =
      subst (λ (l : List Edge). IsHonest s messages (opened_at (numbered 0 l)) (rises_of (numbered 0 l))) (sym none.2)
      (record {
        accepted = accepted;
        sent = sent;
        carries = carries;
        train = train;
        idle = 0;
        spans = spans;
        periods = periods ∙ sym (append-nil (flat_map (message_periods s.form) sent));
        lasting = lasting;
        start = 0;
        left_out = 1;
        recorded = subst (λ (l : List Span). AreRecorded s.jitter (rises_behind 0 l) []) (sym none.1) tt;
        opens = tt;
      })
  edges-honest line (Some last) edges rises =
      let first = 1000 * s.period in
      let heard : map (λ (rise : Rise). rise.time) (rises_of (numbered 0 (edge_at line 0 false ∷ rises.later))) ≡ rise_times rises.later = rises-heard (0 + 1) rises.later in
      let ideal : first ∷ falls_behind first (lengths_of spans) ≡ ideal_rises first spans = ap (λ l. first ∷ l) (sym (rises-are_falls first spans)) in
      subst (λ (l : List Edge). IsHonest s messages (opened_at (numbered 0 l)) (rises_of (numbered 0 l))) (sym rises.edges_are)
      (record {
        accepted = accepted;
        sent = sent;
        carries = carries;
        train = train;
        idle = 0;
        spans = spans;
        periods = periods ∙ sym (append-nil (flat_map (message_periods s.form) sent));
        lasting = lasting;
        start = first;
        left_out = 0;
        recorded = subst (AreRecorded s.jitter (ideal_rises first spans)) (sym heard) (subst (λ l. AreRecorded s.jitter l (rise_times rises.later)) ideal rises.recorded);
        opens = tt;
      })

keeps-honest : (first state : ToothState) (messages : List Message) (edges : List Edge) → ToothKeeps first state messages edges → IsToothTrace state.setup messages (numbered 0 edges)
keeps-honest first state messages edges keeps = record {
  all_sent = keeps.all_sent;
  honest = edges-honest state.setup (flat_map down_in messages) keeps.accepted keeps.sent keeps.carries keeps.train keeps.spans keeps.periods keeps.lasting state.line state.last edges keeps.edges_sent;
}

edges-orderly : (line : ℕ) (s : Settings) (last : Option ℕ) (sent : List Sending) (spans : List Span) (edges : List Edge) → EdgesSent line s last sent spans edges → IsOrderly (line ∷ []) (map item.Edge edges)
edges-orderly line s None sent spans edges none = subst (λ (l : List Edge). IsOrderly (line ∷ []) (map item.Edge l)) (sym none.2) (IsOrderly-nil (line ∷ []))
edges-orderly line s (Some last) sent spans edges rises = so_far-orderly (line ∷ []) edges rises.time rises.levels rises.so_far

-- ---- of each control unit that has run
pub run-honest : (line : ℕ) (s : Settings) (state : ToothState) (messages : List Message) (edges : List Edge) → fault_of s.period s.jitter ≡ None
    → HasRun ToothState tooth_next (started line s) state messages edges → IsToothTrace s messages (numbered 0 edges)
run-honest line s state messages edges accepted run =
    let keeps = keeps-run line s accepted state messages edges run in
    subst (λ (t : Settings). IsToothTrace t messages (numbered 0 edges)) keeps.setup_is (keeps-honest (started line s) state messages edges keeps)

pub run-orderly : (line : ℕ) (s : Settings) (state : ToothState) (messages : List Message) (edges : List Edge) → fault_of s.period s.jitter ≡ None
    → HasRun ToothState tooth_next (started line s) state messages edges → IsOrderly (line ∷ []) (map item.Edge edges)
run-orderly line s state messages edges accepted run =
    let keeps = keeps-run line s accepted state messages edges run in
    subst (λ l. IsOrderly (l ∷ []) (map item.Edge edges)) keeps.line_is (edges-orderly state.line state.setup state.last keeps.sent keeps.spans edges keeps.edges_sent)

-- The gaps among the rises of messages that are sent by the tooth gap.
--     gaps-counted      they are counted by the times of the rises
--     gaps-append       behind rises no gap is lost
--     down-sent         each message has one
--     gaps-run          so there are as many as messages
use Rattle.std.proofs.Common.{◌≡◌, ℕ, suc, ◌+◌, ◌-◌, ◌*◌, ◌/◌, ◌^◌, ◌≤◌, Bool, true, false, Option, None, Some, List, [], ◌∷◌, ◌++◌, length, drop, map, flat_map, refl, ap, sym, subst, ◌∙◌, append-nil, if◌then◌else◌, ltb, eq-eqb, arith}
use Rattle.std.specs.Prelude.{nat_eq}
use Rattle.std.proofs.lemmas.List.{length-append}
use Rattle.std.proofs.lemmas.List.Elements.{All-head}
use Rattle.std.proofs.lemmas.Grind.{flat_map-append}
use Rattle.rand_pcg.specs.Lcg.{Lcg}
use Rattle.line_base.specs.declared.edge.Edge.{Edge}
use Rattle.link_math.specs.Periods.{periods_in}
use Rattle.psi5_downlink.specs.declared.down.Down.{Down}
use Rattle.psi5_downlink.specs.Rises.{Rise, intervals_after, intervals_of}
use Rattle.psi5_downlink.specs.Setup.{Settings, fault_of}
use Rattle.link_tolerance.proofs.HeardPulses.{heard_between}
use Rattle.psi5_downlink_tolerance.specs.FromFirst.{gap_count}
use Rattle.psi5_downlink_tolerance.specs.Trains.{Lasts, rises_behind}
use Rattle.psi5_downlink_tolerance.proofs.HeardPeriods.{many_heard, setup_range}
use Rattle.receiver_core.specs.declared.message.Message.{Message}
use Rattle.receiver_core.specs.declared.message.Message.TheVariants as message
use Rattle.receiver_core.specs.ToothReports.{rises_of}
use Rattle.receiver_core.specs.ToothTraces.{down_in}
use Rattle.receiver_core.specs.Traces.{numbered}
use Rattle.sim_base.specs.declared.sim_fault.SimFault.{SimFault}
use Rattle.sim_base.specs.declared.sim_fault.SimFault.TheVariants as fault
use Rattle.sim_base.specs.Outcomes.{Outcome, Sent, Refused}
use Rattle.sim_base.specs.Recordings.{edge_at, opening_of, recorded_at, recorded_by, rises_with_falls}
use Rattle.sim_base.specs.Runs.{HasRun, NotYet, OneMore}
use Rattle.sim_base.specs.Wobbles.{behind_word, past, word, words}
use Rattle.sim_base.proofs.RecordedTimes.{recorded-near}
use Rattle.psi5_downlink_sim.specs.ToothSims.{begins_at, down_next, ends_at, fits_down, ideal_of, message_edges, missing_drawn, past_words, period_drawn, rises_sent, span_of, started, tooth_next, tooth_words}
use Rattle.psi5_downlink_sim.specs.ToothStates.{ToothState}
use Rattle.psi5_downlink_sim.proofs.ToothEdges.{rise_times, rises-heard, times-append, times-heard}
use Rattle.psi5_downlink_sim.proofs.ToothSpans.{gap-wide, period-near, spans-last}

-- ---- gaps by the times of rises
-- how many gaps end at these times, where the rise before them came at this time
unfoldable pub gaps_after : ℕ → ℕ → List ℕ → ℕ
gaps_after period before [] = 0
gaps_after period before (time ∷ times) = if nat_eq (periods_in (time - before) period) 6 then suc (gaps_after period time times) else gaps_after period time times

-- how many gaps lie between these times
abbrev pub gaps_in : ℕ → List ℕ → ℕ
gaps_in period [] = 0
gaps_in period (time ∷ times) = gaps_after period time times

-- the times of rises
abbrev times_of : List Rise → List ℕ
times_of rises = map (λ (rise : Rise). rise.time) rises

-- the gaps behind a rise are counted by the times alone
counted-after : (period before : ℕ) (rises : List Rise) → gap_count (intervals_after period before rises) ≡ gaps_after period before (times_of rises)
unfolding gap_count intervals_after gaps_after
counted-after period before [] = refl
counted-after period before (rise ∷ rises) = ap (λ n. if nat_eq (periods_in (rise.time - before) period) 6 then suc n else n) (counted-after period rise.time rises)

-- and so are all
gaps-counted : (period : ℕ) (rises : List Rise) → gap_count (intervals_of period rises) ≡ gaps_in period (times_of rises)
unfolding gap_count
gaps-counted period [] = refl
gaps-counted period (rise ∷ rises) = counted-after period rise.time rises

-- one gap more, or none, is no gap fewer
count-more : (gap : Bool) (count : ℕ) → count ≤ (if gap then suc count else count)
count-more true count = omega arith
count-more false count = omega arith

-- a gap more here is one more in all
both-more : (gap : Bool) (more count all : ℕ) → more + count ≤ all → more + (if gap then suc count else count) ≤ (if gap then suc all else all)
both-more true more count all few = omega (arith, few)
both-more false more count all few = few

-- the gaps between later times are gaps behind an earlier one too
gaps-behind : (period before : ℕ) (times : List ℕ) → gaps_in period times ≤ gaps_after period before times
unfolding gaps_after
gaps-behind period before [] = omega arith
gaps-behind period before (time ∷ times) = count-more (nat_eq (periods_in (time - before) period) 6) (gaps_after period time times)

-- behind a rise no gap is lost
after-append : (period before : ℕ) (times more : List ℕ) → gaps_in period more + gaps_after period before times ≤ gaps_after period before (times ++ more)
unfolding gaps_after
after-append period before [] more = omega (arith, gaps-behind period before more)
after-append period before (time ∷ times) more =
    both-more (nat_eq (periods_in (time - before) period) 6) (gaps_in period more) (gaps_after period time times) (gaps_after period time (times ++ more)) (after-append period time times more)

-- behind rises no gap is lost
gaps-append : (period : ℕ) (times more : List ℕ) → gaps_in period times + gaps_in period more ≤ gaps_in period (times ++ more)
gaps-append period [] more = omega arith
gaps-append period (time ∷ times) more = omega (arith, after-append period time times more)

-- the gaps of a line's edges are those between the times of its rises
line-gaps : (period : ℕ) (edges : List Edge) → gap_count (intervals_of period (rises_of (numbered 0 edges))) ≡ gaps_in period (rise_times (drop 1 edges))
unfolding numbered
line-gaps period [] = gaps-counted period []
line-gaps period (opening ∷ edges) = gaps-counted period (rises_of (numbered 0 (opening ∷ edges))) ∙ ap (gaps_in period) (rises-heard (0 + 1) edges)

-- ---- the gap of a message
module _ (s : Settings) (accepted : fault_of s.period s.jitter ≡ None) where
  -- six periods or more between two rises are heard as a gap
  gap-heard : (start period missing one other : ℕ) → (950 * s.period ≤ period) × (period ≤ 1050 * s.period) → 5 ≤ missing
      → nat_eq (periods_in (recorded_at s.jitter (start + suc missing * period) other - recorded_at s.jitter start one) s.period) 6 ≡ true
  gap-heard start period missing one other near wide =
      let range = setup_range s.period s.jitter accepted in
      let span = span_of period (suc missing) in
      let lasts : Lasts s.period span = All-head (Lasts s.period) span [] (spans-last s.period period (suc missing ∷ []) near.0 near.1) in
      let first = recorded_at s.jitter start one in
      let last = recorded_at s.jitter (start + suc missing * period) other in
      let heard = heard_between s.jitter start (suc missing * period) first last (recorded-near s.jitter start one range.jitter_low) (recorded-near s.jitter (start + suc missing * period) other range.jitter_low) in
      eq-eqb (periods_in (last - first) s.period) 6 (many_heard s span (last - first) accepted lasts heard (omega (arith, wide)))

  -- a gap is counted first
  first-counts : (gap : Bool) (count : ℕ) → gap ≡ true → 1 ≤ (if gap then suc count else count)
  first-counts true count is = omega arith
  first-counts false count is = absurd cc

  -- so the rises of a message have a gap
  message-gap : (last : Option ℕ) (down : Down) (period missing : ℕ) (g : Lcg) → (950 * s.period ≤ period) × (period ≤ 1050 * s.period) → 5 ≤ missing
      → 1 ≤ gaps_in s.period (recorded_by s.jitter (ideal_of s last down period missing) (words (length (ideal_of s last down period missing)) g))
  unfolding ideal_of words recorded_by rises_behind gaps_after
  message-gap last down period missing g near wide =
      let start = begins_at s last period in
      first-counts _ _ (gap-heard start period missing (word g) (word (behind_word g)) near wide)

-- ---- one message more
-- nothing was sent yet, or the line was opened
abbrev pub OpenedFor : Option ℕ → List Edge → Type 0
OpenedFor None edges = edges ≡ []
OpenedFor (Some last) edges = (opening : Edge) × (later : List Edge) × (edges ≡ opening ∷ later)

-- edges behind the opening, if it stands
opened-drop : (line : ℕ) (level : Bool) (last : Option ℕ) (edges more : List Edge) → OpenedFor last edges → drop 1 (edges ++ (opening_of line level last ++ more)) ≡ drop 1 edges ++ more
opened-drop line level None edges more none =
    subst (λ (l : List Edge). drop 1 (l ++ (edge_at line 0 level ∷ more)) ≡ drop 1 l ++ more) (sym none) refl
opened-drop line level (Some last) edges more opened =
    subst (λ (l : List Edge). drop 1 (l ++ more) ≡ drop 1 l ++ more) (sym opened.2) refl

-- and then the line is open
opened-more : (line : ℕ) (level : Bool) (last : Option ℕ) (next : ℕ) (edges more : List Edge) → OpenedFor last edges → OpenedFor (Some next) (edges ++ (opening_of line level last ++ more))
opened-more line level None next edges more none = subst (λ (l : List Edge). OpenedFor (Some next) (l ++ (edge_at line 0 level ∷ more))) (sym none) (edge_at line 0 level, more, refl)
opened-more line level (Some last) next edges more opened = (opened.0, opened.1 ++ more, ap (λ (l : List Edge). l ++ more) opened.2)

-- a control unit that has sent these edges keeps its setup and has opened its line, and so many gaps lie among its rises
record GapsKept (s : Settings) (state : ToothState) (count : ℕ) (edges : List Edge) : Type 0 where
  pub setup_is : state.setup ≡ s
  pub opened : OpenedFor state.last edges
  pub gaps : count ≤ gaps_in s.period (rise_times (drop 1 edges))

-- what is sent is sent by one way alone
sent-same : {edges edges' : List Edge} {state state' : ToothState} {g g' : Lcg} → Sent edges state g ≡ Sent edges' state' g' → (edges ≡ edges') × (state ≡ state')
sent-same same = (cc, cc)

-- what is refused isn't sent
refused-not : {refused : SimFault} {edges : List Edge} {state state' : ToothState} {g g' : Lcg} {X : Type 0} → Refused refused state g ≡ Sent edges state' g' → X
refused-not same = absurd cc

-- a message is sent, or it comes too late
abbrev by_late : ToothState → Down → ℕ → ℕ → Lcg → Bool → Outcome ToothState
by_late state down period missing g late =
    if late then Refused fault.Late state g
    else Sent (message_edges state down period missing (words (length (ideal_of state.setup state.last down period missing)) g)) (record state { last = Some (ends_at state.setup state.last down period missing) })
    (past (length (ideal_of state.setup state.last down period missing)) g)

module _ (s : Settings) (accepted : fault_of s.period s.jitter ≡ None) (state : ToothState) (count : ℕ) (edges : List Edge) (kept : GapsKept s state count edges) (more : List Edge) (behind : ToothState) (later : Lcg) where
  -- the message's gap is one more
  more-gaps : (down : Down) (period missing : ℕ) (g : Lcg) → (950 * s.period ≤ period) × (period ≤ 1050 * s.period) → 5 ≤ missing
      → GapsKept s (record state { last = Some (ends_at state.setup state.last down period missing) }) (count + 1) (edges ++ message_edges state down period missing (words (length (ideal_of state.setup state.last down period missing)) g))
  unfolding message_edges
  more-gaps down period missing g near wide =
      let ideal = ideal_of state.setup state.last down period missing in
      let times = recorded_by state.setup.jitter ideal (words (length ideal) g) in
      let new = rises_with_falls state.line (state.setup.period / 10) times in
      let own : 1 ≤ gaps_in s.period times =
      subst (λ (u : Settings). 1 ≤ gaps_in s.period (recorded_by u.jitter (ideal_of u state.last down period missing) (words (length (ideal_of u state.last down period missing)) g))) (sym kept.setup_is)
      (message-gap s accepted state.last down period missing g near wide) in
      let heard : rise_times (drop 1 (edges ++ (opening_of state.line false state.last ++ new))) ≡ rise_times (drop 1 edges) ++ times =
      ap rise_times (opened-drop state.line false state.last edges new kept.opened) ∙ times-append (drop 1 edges) new ∙ ap (λ l. rise_times (drop 1 edges) ++ l) (times-heard state.line (state.setup.period / 10) times) in
      let all = gaps-append s.period (rise_times (drop 1 edges)) times in
      record {
        setup_is = kept.setup_is;
        opened = opened-more state.line false state.last (ends_at state.setup state.last down period missing) edges new kept.opened;
        gaps = subst (λ l. count + 1 ≤ gaps_in s.period l) (sym heard) (omega (arith, all, own, kept.gaps));
      }

  -- what holds of what is sent holds of this
  goes : (n : ℕ) (now : List Edge) (next : ToothState) (g : Lcg) → GapsKept s next n (edges ++ now) → Sent now next g ≡ Sent more behind later → GapsKept s behind n (edges ++ more)
  goes n now next g holds same =
      let parts = sent-same same in
      subst (λ u. GapsKept s u n (edges ++ more)) parts.1 (subst (λ l. GapsKept s next n (edges ++ l)) parts.0 holds)

  -- by whether it comes too late
  down-late : (down : Down) (period missing : ℕ) (g : Lcg) → (950 * s.period ≤ period) × (period ≤ 1050 * s.period) → 5 ≤ missing → (late : Bool) → by_late state down period missing g late ≡ Sent more behind later
      → GapsKept s behind (count + 1) (edges ++ more)
  down-late down period missing g near wide true same = refused-not same
  down-late down period missing g near wide false same =
      let ideals = length (ideal_of state.setup state.last down period missing) in
      goes (count + 1) (message_edges state down period missing (words ideals g)) (record state { last = Some (ends_at state.setup state.last down period missing) }) (past ideals g) (more-gaps down period missing g near wide) same

  -- by whether it fits
  down-sent : (down : Down) (g : Lcg) (fits : Bool) → (if fits then down_next state down g else Refused fault.Range state g) ≡ Sent more behind later → GapsKept s behind (count + 1) (edges ++ more)
  unfolding down_next rises_sent
  down-sent down g false same = refused-not same
  down-sent down g true same =
      let period = period_drawn state.setup.period (tooth_words g).period in
      let missing = missing_drawn (tooth_words g).gap in
      let near = subst (λ (u : Settings). (950 * u.period ≤ period) × (period ≤ 1050 * u.period)) kept.setup_is (period-near state.setup.period (tooth_words g).period) in
      down-late down period missing (past_words g) near (gap-wide (tooth_words g).gap) (ltb (9 * 10 ^ 17) (ends_at state.setup state.last down period missing)) same

  -- each message that is sent has its gap
  next-sent : (m : Message) (g : Lcg) → tooth_next state m g ≡ Sent more behind later → GapsKept s behind (count + length (down_in m)) (edges ++ more)
  unfolding tooth_next
  next-sent (message.Frame frame) g same = refused-not same
  next-sent (message.Short id value) g same = refused-not same
  next-sent (message.Enhanced id value wide) g same = refused-not same
  next-sent (message.Answer code frame) g same = refused-not same
  next-sent (message.Silent code) g same = refused-not same
  next-sent message.Sync g same = refused-not same
  next-sent (message.Burst slot payload) g same = refused-not same
  next-sent (message.Down down) g same = down-sent down g (fits_down state.setup.form down) same

-- ---- of each control unit that has run
module _ (line : ℕ) (s : Settings) (accepted : fault_of s.period s.jitter ≡ None) where
  -- one message more is as many downlink frames more as it says
  downs-push : (messages : List Message) (m : Message) → length (flat_map down_in (messages ++ m ∷ [])) ≡ length (flat_map down_in messages) + length (down_in m)
  downs-push messages m =
      ap length (flat_map-append down_in messages (m ∷ [])) ∙ length-append (flat_map down_in messages) (down_in m ++ []) ∙ ap (λ l. length (flat_map down_in messages) + length l) (append-nil (down_in m))

  -- the rises have as many gaps as there are messages
  kept-run : (state : ToothState) (messages : List Message) (edges : List Edge) → HasRun ToothState tooth_next (started line s) state messages edges → GapsKept s state (length (flat_map down_in messages)) edges
  kept-run _ _ _ NotYet = record { setup_is = refl; opened = refl; gaps = omega arith }
  kept-run _ _ _ (OneMore {state} {behind} {messages} {edges} {more} run m g later same) =
      subst (λ n. GapsKept s behind n (edges ++ more)) (sym (downs-push messages m)) (next-sent s accepted state (length (flat_map down_in messages)) edges (kept-run state messages edges run) more behind later m g same)

  -- so its line has
  pub gaps-run : (state : ToothState) (messages : List Message) (edges : List Edge) → HasRun ToothState tooth_next (started line s) state messages edges → length (flat_map down_in messages) ≤ gap_count (intervals_of s.period (rises_of (numbered 0 edges)))
  gaps-run state messages edges run = subst (λ n. length (flat_map down_in messages) ≤ n) (sym (line-gaps s.period edges)) (kept-run state messages edges run).gaps

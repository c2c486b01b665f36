-- What is told of a script's bursts, and what reports that gives.
--     BurstNext, Goes      what a script's next message has to be
--     script-good          where each is, all reports are good that are to be
--     no-codes             a script's start
--     free-goes            without slots
--     BusStands, bus-goes  with slots
use Rattle.std.proofs.Common.{◌≡◌, ℕ, zero, suc, ◌+◌, ◌<◌, ◌≤◌, Bool, true, false, if◌then◌else◌, cond, Option, None, Some, List, [], ◌∷◌, ◌++◌, length, map, flat_map, refl, ap, ap₂, sym, subst, ◌∙◌, inl, inr, append-nil, ltb-true, ltb-false, arith}
use Rattle.std.specs.Prelude.{nat_eq, nat_lt}
use Rattle.std.proofs.lemmas.Bool.{cases_lt, eq-eqb, ne_eqb}
use Rattle.std.proofs.lemmas.List.Sums.{sum_by-cons}
use Rattle.rand_pcg.specs.Lcg.{Lcg}
use Rattle.line_base.specs.declared.edge.Span.{Span}
use Rattle.psi5_frame.specs.declared.burst.Payload.{Payload}
use Rattle.psi5_frame.specs.declared.setup.Parts.{Parts}
use Rattle.psi5_frame.specs.Setup.{Settings}
use Rattle.psi5_init.specs.declared.code.Code.{Code}
use Rattle.psi5_init.specs.Codes.{class_in}
use Rattle.psi5_slots.specs.Setup.{InRange}
use Rattle.psi5_tolerance.specs.Trains.{Burst}
use Rattle.psi5_tolerance.specs.FromFirst.{HeardFrame, bursts_in, said}
use Rattle.receiver_core.specs.declared.message.Message.{Message}
use Rattle.receiver_core.specs.declared.message.Message.TheVariants as message
use Rattle.receiver_core.specs.declared.psi5_burst.Told.{Told}
use Rattle.receiver_core.specs.declared.psi5_burst.Told.TheVariants as told
use Rattle.receiver_core.specs.declared.report.What.TheVariants as what
use Rattle.receiver_core.specs.declared.setup.ChannelSetup.{ChannelSetup}
use Rattle.receiver_core.specs.declared.setup.ChannelSetup.TheVariants.{Psi5}
use Rattle.receiver_core.specs.declared.setup.SyncSlots.{SyncSlots}
use Rattle.receiver_core.specs.SentReports.{report}
use Rattle.receiver_core.specs.Psi5Reports.{burst_reports, code_of, codes_of, init_reports, slot_number}
use Rattle.receiver_core.specs.Psi5Traces.{psi5_message_in, told_frame}
use Rattle.sensor_script.specs.Scripts.{ScriptState, Scripted, behind_a, behind_b, behind_burst, burst_a, bus_next, next_by, next_place, payload_next, psi5_next, script_next, slot_next}
use Rattle.scripts_heard.specs.AllGood.{AllGood}
use Rattle.sensor_script.specs.Counted.{counted_of, is_counted, script_messages}
use Rattle.scripts_heard.proofs.AddedReports.{added-good, none-good}
use Rattle.scripts_heard.proofs.SlotReports.{FollowsBy, IsRead, burst-follows, good-more, none-follows, quiet-reports}

-- ---- codes of a slot
-- what is told behind something else adds its codes
codes-append : (number : ℕ) (xs ys : List Told) → codes_of number (xs ++ ys) ≡ codes_of number xs ++ codes_of number ys
unfolding codes_of
codes-append number [] ys = refl
codes-append number (told.Good place slot payload ∷ xs) ys = by-slot (nat_eq (slot_number slot) number) (codes-append number xs ys)
  where
    by-slot : (b : Bool) → codes_of number (xs ++ ys) ≡ codes_of number xs ++ codes_of number ys
        → (if b then class_in payload.a ∷ codes_of number (xs ++ ys) else codes_of number (xs ++ ys)) ≡ (if b then class_in payload.a ∷ codes_of number xs else codes_of number xs) ++ codes_of number ys
    by-slot true rest = ap (λ l. class_in payload.a ∷ l) rest
    by-slot false rest = rest
codes-append number (told.Bad place rule ∷ xs) ys = codes-append number xs ys

-- a burst in this slot
codes-here : (number place : ℕ) (slot : Option ℕ) (payload : Payload) (since : List Told) → slot_number slot ≡ number → codes_of number (since ++ told.Good place slot payload ∷ []) ≡ codes_of number since ++ class_in payload.a ∷ []
unfolding codes_of
codes-here number place slot payload since is = codes-append number since (told.Good place slot payload ∷ []) ∙ ap (λ b. codes_of number since ++ (if b then class_in payload.a ∷ [] else [])) (eq-eqb (slot_number slot) number is)

-- and in another one
codes-other : (number place : ℕ) (slot : Option ℕ) (payload : Payload) (since : List Told) → (slot_number slot ≡ number → ⊥) → codes_of number (since ++ told.Good place slot payload ∷ []) ≡ codes_of number since
unfolding codes_of
codes-other number place slot payload since isnt =
    codes-append number since (told.Good place slot payload ∷ []) ∙ ap (λ b. codes_of number since ++ (if b then class_in payload.a ∷ [] else [])) (ne_eqb (slot_number slot) number isnt) ∙ append-nil (codes_of number since)

-- ---- any script
-- what is counted of one message more
counted-more : (m : Message) (messages : List Message) → counted_of (m ∷ messages) ≡ cond (is_counted m) 1 0 + counted_of messages
counted-more m messages = sum_by-cons (λ (x : Message). cond (is_counted x) 1 0) m messages

module _ (s : Settings) (init : Option ℕ) (read : IsRead s.parts init) (Holds : ScriptState → List Told → Type 0) where
  -- a burst may come next: its code follows those of its slot, and behind it this holds, at whichever edge it is told
  pub record BurstNext (slot : Option ℕ) (payload : Payload) (script : ScriptState) (since : List Told) : Type 0 where
    pub place : ℕ
    pub follows : FollowsBy init (slot_number slot) place (codes_of (slot_number slot) since ++ class_in payload.a ∷ [])
    pub behind : (edge : ℕ) → Holds script (since ++ told.Good edge slot payload ∷ [])

  -- so a script's next message is
  abbrev pub Goes : Message → ScriptState → List Told → Type 0
  Goes message.Sync script since = Holds script since
  Goes (message.Burst slot payload) script since = BurstNext slot payload script since
  Goes other script since = ⊥

  -- the reports of one burst more, in this slot with this payload
  burst-good : (edge : ℕ) (slot : Option ℕ) (payload : Payload) (since later : List Told) (count : ℕ) (place : ℕ) → FollowsBy init (slot_number slot) place (codes_of (slot_number slot) since ++ class_in payload.a ∷ [])
      → AllGood (burst_reports s init (since ++ told.Good edge slot payload ∷ []) later) count → AllGood (burst_reports s init since (told.Good edge slot payload ∷ later)) (1 + count)
  unfolding burst_reports
  burst-good edge slot payload since later count place follows rest =
      let here = report edge (what.Burst slot payload (code_of s payload)) in
      let steps = init_reports init edge (codes_of (slot_number slot) since) (class_in payload.a) in
      let quiet = quiet-reports s.parts init (slot_number slot) place edge (codes_of (slot_number slot) since) (class_in payload.a) read follows in
      let behind = added-good steps (burst_reports s init (since ++ told.Good edge slot payload ∷ []) later) 0 count quiet rest in
      let none : 0 + count ≡ count = omega arith in
      good-more here (steps ++ burst_reports s init (since ++ told.Good edge slot payload ∷ []) later) count refl refl (subst (AllGood (steps ++ burst_reports s init (since ++ told.Good edge slot payload ∷ []) later)) none behind)

  -- the reports of these frames are good, as many as are counted of these messages
  abbrev AreGood : List Told → List HeardFrame → List Message → Type 0
  AreGood since frames messages = map said frames ≡ bursts_in (flat_map psi5_message_in messages) → AllGood (burst_reports s init since (map told_frame frames)) (counted_of messages)

  -- a frame that says a burst
  frame-good : (slot : Option ℕ) (payload : Payload) (f : HeardFrame) (frames : List HeardFrame) (script : ScriptState) (since : List Told) (messages : List Message) → said f ≡ Burst slot payload → BurstNext slot payload script since
      → ((since : List Told) → Holds script since → AllGood (burst_reports s init since (map told_frame frames)) (counted_of messages))
      → AllGood (burst_reports s init since (told_frame f ∷ map told_frame frames)) (1 + counted_of messages)
  frame-good slot payload f frames script since messages says next later =
      let slot_is : f.slot ≡ slot = cc in
      let payload_is : f.payload ≡ payload = cc in
      let is : told_frame f ≡ told.Good f.last slot payload = ap₂ (λ a b. told.Good f.last a b) slot_is payload_is in
      subst (λ (t : Told). AllGood (burst_reports s init since (t ∷ map told_frame frames)) (1 + counted_of messages)) (sym is)
      (burst-good f.last slot payload since (map told_frame frames) (counted_of messages) next.place next.follows (later (since ++ told.Good f.last slot payload ∷ []) (next.behind f.last)))

  -- one message more
  message-good : (m : Message) (script : ScriptState) (since : List Told) (frames : List HeardFrame) (messages : List Message) → Goes m script since → ((since : List Told) (frames : List HeardFrame) → Holds script since → AreGood since frames messages)
      → AreGood since frames (m ∷ messages)
  message-good (message.Frame frame) script since frames messages goes later same = absurd goes
  message-good (message.Short id value) script since frames messages goes later same = absurd goes
  message-good (message.Enhanced id value wide) script since frames messages goes later same = absurd goes
  message-good (message.Answer code frame) script since frames messages goes later same = absurd goes
  message-good (message.Silent code) script since frames messages goes later same = absurd goes
  message-good message.Sync script since frames messages goes later same =
      let none : counted_of messages ≡ counted_of (message.Sync ∷ messages) = omega (arith, counted-more message.Sync messages) in
      subst (AllGood (burst_reports s init since (map told_frame frames))) none (later since frames goes same)
  message-good (message.Burst slot payload) script since [] messages goes later same = absurd cc
  message-good (message.Burst slot payload) script since (f ∷ frames) messages goes later same =
      let first : said f ≡ Burst slot payload = cc in
      let rest : map said frames ≡ bursts_in (flat_map psi5_message_in messages) = cc in
      subst (AllGood (burst_reports s init since (map told_frame (f ∷ frames)))) (sym (counted-more (message.Burst slot payload) messages))
      (frame-good slot payload f frames script since messages first goes (λ since holds. later since frames holds rest))
  message-good (message.Down down) script since frames messages goes later same = absurd goes

  -- no message
  no-frames : (since : List Told) (frames : List HeardFrame) → AreGood since frames []
  unfolding burst_reports
  no-frames since [] same = none-good
  no-frames since (f ∷ frames) same = absurd cc

  -- where each message goes, all reports of a script's bursts are good
  pub script-good : ((state : ScriptState) (since : List Told) → Holds state since → Goes (script_next state).message (script_next state).script since)
      → (count : ℕ) (state : ScriptState) (since : List Told) (frames : List HeardFrame) → Holds state since → AreGood since frames (script_messages state count)
  unfolding script_messages
  script-good step zero state since frames holds = no-frames since frames
  script-good step (suc count) state since frames holds =
      let x = script_next state in
      message-good x.message x.script since frames (script_messages x.script count) (step state since holds) (λ since frames holds. script-good step count x.script since frames holds)

-- ---- a channel
-- the next message of a script is that of its setup
script-by : (script : ScriptState) (setup : ChannelSetup) → script.setup ≡ setup → script_next script ≡ next_by script setup
unfolding script_next
script-by script setup is = ap (next_by script) is

-- data A of a script's burst
a-is : (parts : Parts) (init : Option ℕ) (slot place : ℕ) (g : Lcg) → (payload_next parts init slot place g).a ≡ burst_a parts init slot place (behind_b parts g)
unfolding payload_next
a-is parts init slot place g = refl

-- so the code of a script's burst follows
payload-follows : (parts : Parts) (init : Option ℕ) (number place : ℕ) (g : Lcg) (codes : List Code) → IsRead parts init → FollowsBy init number place codes
    → FollowsBy init number (next_place place) (codes ++ class_in (payload_next parts init number place g).a ∷ [])
payload-follows parts init number place g codes read f =
    subst (λ a. FollowsBy init number (next_place place) (codes ++ class_in a ∷ [])) (sym (a-is parts init number place g)) (burst-follows parts init number place (behind_b parts g) codes read f)

-- no burst was told yet
pub no-codes : (init : Option ℕ) (number : ℕ) → FollowsBy init number 0 (codes_of number [])
unfolding codes_of
no-codes init number = none-follows init number

-- ---- without slots
-- the codes so far are those of as many bursts as the script has given
pub record FreeHolds (line : ℕ) (s : Settings) (init : Option ℕ) (state : ScriptState) (since : List Told) : Type 0 where
  pub setup_is : state.setup ≡ Psi5 line s None init
  pub follows : FollowsBy init 0 state.place (codes_of 0 since)

-- without slots a script's next message is a burst
free-next : (line : ℕ) (s : Settings) (init : Option ℕ) (state : ScriptState) → state.setup ≡ Psi5 line s None init → script_next state ≡ behind_burst state s.parts init
unfolding psi5_next
free-next line s init state is = script-by state (Psi5 line s None init) is

-- so each message of a script goes
pub free-goes : (line : ℕ) (s : Settings) (init : Option ℕ) (read : IsRead s.parts init) (state : ScriptState) (since : List Told) → FreeHolds line s init state since
    → Goes s init read (FreeHolds line s init) (script_next state).message (script_next state).script since
free-goes line s init read state since holds =
    let payload = payload_next s.parts init 0 state.place state.wobble in
    let follows = payload-follows s.parts init 0 state.place state.wobble (codes_of 0 since) read holds.follows in
    subst (λ (x : Scripted). Goes s init read (FreeHolds line s init) x.message x.script since) (sym (free-next line s init state holds.setup_is)) (record {
      place = next_place state.place;
      follows = follows;
      behind = λ edge. record {
        setup_is = holds.setup_is;
        follows = subst (FollowsBy init 0 (next_place state.place)) (sym (codes-here 0 edge None payload since refl)) follows;
      };
    })

-- ---- with slots
-- the slots before this one have one burst more
pub record InRound (init : Option ℕ) (many at place : ℕ) (since : List Told) : Type 0 where
  pub there : at < many
  pub before : (number : ℕ) → number < at → FollowsBy init number (next_place place) (codes_of number since)
  pub ahead : (number : ℕ) → at ≤ number → number < many → FollowsBy init number place (codes_of number since)

-- behind a round all slots have the same
abbrev pub BusStands : Option ℕ → ℕ → Option ℕ → ℕ → List Told → Type 0
BusStands init many None place since = (number : ℕ) → number < many → FollowsBy init number place (codes_of number since)
BusStands init many (Some at) place since = InRound init many at place since

-- the codes so far are those of as many bursts as the script has given in each slot
pub record BusHolds (line : ℕ) (s : Settings) (slots : SyncSlots) (init : Option ℕ) (state : ScriptState) (since : List Told) : Type 0 where
  pub setup_is : state.setup ≡ Psi5 line s (Some slots) init
  pub stands : BusStands init (length slots.setup.windows) state.slot state.place since

-- slots that are accepted have a window
pub some-windows : (s : Settings) (windows : List Span) → InRange windows s → 0 < length windows
some-windows s [] range = absurd (none range.slots)
  where
    none : false ≡ true → ⊥
    none e = absurd cc
some-windows s (first ∷ windows) range = omega arith

module _ (line : ℕ) (s : Settings) (slots : SyncSlots) (init : Option ℕ) (read : IsRead s.parts init) (some : 0 < length slots.setup.windows) where
  -- how many slots there are
  abbrev many : ℕ
  many = length slots.setup.windows

  -- what holds of a script and what is told
  abbrev Bus : ScriptState → List Told → Type 0
  Bus = BusHolds line s slots init

  -- a message goes
  abbrev BusGoes : Scripted → List Told → Type 0
  BusGoes x since = Goes s init read Bus x.message x.script since

  module _ (state : ScriptState) (since : List Told) (setup_is : state.setup ≡ Psi5 line s (Some slots) init) where
    -- a sync pulse
    sync-goes : BusStands init many None state.place since → BusGoes (record { message = message.Sync; script = record state { slot = Some 0 } }) since
    sync-goes stands = record { setup_is = setup_is; stands = record { there = some; before = λ number below. absurd (omega (arith, below)); ahead = λ number from below. stands number below } }

    module _ (at : ℕ) (round : InRound init many at state.place since) where
      -- the burst in this slot
      abbrev payload : Payload
      payload = payload_next s.parts init at state.place state.wobble

      -- its code
      at-follows : FollowsBy init at (next_place state.place) (codes_of at since ++ class_in payload.a ∷ [])
      at-follows = payload-follows s.parts init at state.place state.wobble (codes_of at since) read (round.ahead at (omega arith) round.there)

      -- what is told behind it
      abbrev told_behind : ℕ → List Told
      told_behind edge = since ++ told.Good edge (Some at) payload ∷ []

      -- the slots up to this one have one burst more
      up-to : (edge number : ℕ) → number < suc at → FollowsBy init number (next_place state.place) (codes_of number (told_behind edge))
      up-to edge number below = elim (cases_lt number at) [
        | inl less ↦ subst (FollowsBy init number (next_place state.place)) (sym (codes-other number edge (Some at) payload since (λ same. omega (arith, same, less)))) (round.before number less)
        | inr not_less ↦
            let same : at ≡ number = omega (arith, below, not_less) in
            subst (λ n. FollowsBy init n (next_place state.place) (codes_of n (told_behind edge))) same (subst (FollowsBy init at (next_place state.place)) (sym (codes-here at edge (Some at) payload since refl)) at-follows)
      ]

      -- the slots behind it have as many as before
      above : (edge number : ℕ) → suc at ≤ number → number < many → FollowsBy init number state.place (codes_of number (told_behind edge))
      above edge number over below = subst (FollowsBy init number state.place) (sym (codes-other number edge (Some at) payload since (λ same. omega (arith, same, over)))) (round.ahead number (omega (arith, over)) below)

      -- the script behind the burst, by whether another slot follows
      abbrev script_behind : Lcg → Bool → ScriptState
      script_behind wobble more =
          if more then record state { wobble = wobble; slot = Some (at + 1) }
          else record state { wobble = wobble; slot = None; place = next_place state.place }

      -- the script and what is told
      holds-behind : (wobble : Lcg) (edge : ℕ) (more : Bool) → nat_lt (at + 1) many ≡ more → Bus (script_behind wobble more) (told_behind edge)
      holds-behind wobble edge true is = record {
        setup_is = setup_is;
        stands = record {
          there = ltb-true (at + 1) many is;
          before = λ number below. up-to edge number (omega (arith, below));
          ahead = λ number from below. above edge number (omega (arith, from)) below;
        };
      }
      holds-behind wobble edge false is = record { setup_is = setup_is; stands = λ number below. up-to edge number (omega (arith, below, ltb-false (at + 1) many is)) }

      -- so the burst goes
      slot-goes : BusGoes (slot_next state s.parts many init at) since
      slot-goes = record {
        place = next_place state.place;
        follows = at-follows;
        behind = λ edge. holds-behind (behind_a s.parts init state.place (behind_b s.parts state.wobble)) edge (nat_lt (at + 1) many) refl;
      }

    -- a sync pulse or a burst goes, whichever is next
    next-goes : (slot : Option ℕ) → BusStands init many slot state.place since → BusGoes (bus_next state s.parts many init slot) since
    next-goes None stands = sync-goes stands
    next-goes (Some at) round = slot-goes at round

  -- with slots a script's next message is a sync pulse or a burst
  bus-next : (state : ScriptState) → state.setup ≡ Psi5 line s (Some slots) init → script_next state ≡ bus_next state s.parts many init state.slot
  unfolding psi5_next
  bus-next state is = script-by state (Psi5 line s (Some slots) init) is

  -- so each message of a script goes
  pub bus-goes : (state : ScriptState) (since : List Told) → BusHolds line s slots init state since
      → Goes s init read (BusHolds line s slots init) (script_next state).message (script_next state).script since
  bus-goes state since holds = subst (λ (x : Scripted). BusGoes x since) (sym (bus-next state holds.setup_is)) (next-goes state since holds.setup_is state.slot holds.stands)

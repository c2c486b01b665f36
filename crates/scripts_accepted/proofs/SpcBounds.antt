-- How long a transaction of SPC lasts at most, and which are in time.
--     ends-soon        a transaction ends soon behind its trigger's fall
--     SpcSoon          the next trigger falls soon, behind so many transactions
--     soon-started, soon-next      so at first, and behind each message
--     spc-sent         a message that fits is sent, where the next trigger falls soon enough
use Rattle.std.proofs.Common.{◌≡◌, ℕ, zero, suc, ◌+◌, ◌*◌, ◌^◌, ◌<◌, ◌≤◌, Bool, true, false, not, None, Some, List, [], ◌∷◌, ◌++◌, length, map, sum, get_or, refl, ap, sym, subst, ◌∙◌, if◌then◌else◌, ltb, eqb, eqb-true, ltb-true, leb-true, le-ltb, arith}
use Rattle.std.specs.Prelude.{◌&&◌, ◌||◌, nat_le, nat_lt}
use Rattle.std.specs.List.{All}
use Rattle.std.proofs.lemmas.Bool.{and_parts}
use Rattle.std.proofs.lemmas.Bool.Decides.{nat_tests}
use Rattle.std.proofs.lemmas.List.{length-append, length-map}
use Rattle.std.proofs.lemmas.List.Elements.{All-append, All-cons, All-nil}
use Rattle.std.proofs.lemmas.Nat.{mul-le}
use Rattle.rand_pcg.specs.Lcg.{Lcg}
use Rattle.line_base.specs.Spans.{no_span}
use Rattle.line_base.specs.declared.edge.Span.{Span}
use Rattle.line_base.specs.declared.faults.SetupFault.TheVariants as setup_fault
use Rattle.link_math.proofs.Nibbles.{crc_small, crc_legacy_small}
use Rattle.sent_frame.specs.declared.frame.SentFrame.{SentFrame}
use Rattle.sent_frame.specs.declared.setup.CrcForm.{CrcForm}
use Rattle.sent_frame.specs.declared.setup.CrcForm.TheVariants as crc
use Rattle.sent_frame.specs.Reading.{covered, crc_of}
use Rattle.sent_frame.specs.Setup.{InRange}
use Rattle.sent_frame.specs.Setup as sent_frame
use Rattle.spc_link.specs.Setup.{Settings, are_apart, are_windows, fault_of, is_behind, is_wide}
use Rattle.spc_tolerance.specs.Trains.{FitsSetup, IsAnswerSent, IsSent as IsTransaction, IsTriggerSent, SentAnswer, Transaction, Answered, Trigger, Unanswered, ends_at, pulses_sent, ticks_in, trigger_in, values_in}
use Rattle.spc_tolerance.proofs.RecordedTimes.{frame_range}
use Rattle.receiver_core.specs.declared.message.Message.{Message}
use Rattle.receiver_core.specs.declared.message.Message.TheVariants as message
use Rattle.sim_base.specs.FittingNibbles.{are_nibbles, fits_nibbles}
use Rattle.sim_base.proofs.FittingNibbles.{are-nibbles, both}
use Rattle.sim_base.proofs.RecordedTimes.{length-words}
use Rattle.sim_base.specs.Outcomes.{Outcome, Sent, Refused}
use Rattle.sim_base.specs.declared.sim_fault.SimFault.TheVariants as fault
use Rattle.sim_base.specs.Wobbles.{behind_word, past, word, words}
use Rattle.spc_sim.specs.SpcSims.{answer_next, answer_sent, answer_words, behind_transaction, edges_sent, falls_in, fits_answer, fits_code, next_sent, next_trigger, own_count, past_answer, past_trigger, rest_of, silent_next, spc_next, started, transaction_edges, trigger_sent, trigger_words}
use Rattle.spc_sim.specs.SpcStates.{SpcState, first_trigger, trigger_at}
use Rattle.spc_sim.proofs.SpcAnswers.{last-falls}
use Rattle.spc_sim.proofs.SpcOutcomes.{sends-answer, sends-silent}
use Rattle.spc_sim.proofs.SpcTimes.{answer-is_sent, trigger-is_sent}
use Rattle.scripts_accepted.specs.Taken.{IsSent}
use Rattle.scripts_accepted.proofs.Outcomes.{Leaves, in_time-sent, late-leaves, when-leaves}
use Rattle.scripts_accepted.proofs.KeptSetups.{IsSpcOf, spc-kept}
use Rattle.scripts_accepted.proofs.Bounds.{lengths-most, owns-short, values-few}

-- ---- the setup
-- behind windows that are accepted there is room below 2,000
apart-below : (before : ℕ) (windows : List Span) → are_apart before windows ≡ true → before ≤ 2000
unfolding are_apart
apart-below before [] apart = leb-true before 2000 apart
apart-below before (window ∷ windows) apart =
    let parts = and_parts (is_behind before window) (are_apart window.high windows) apart in
    let place = and_parts (nat_lt before window.low) (is_wide window) parts.0 in
    let wide = and_parts (nat_le 10 window.low) (nat_le (window.low + 10) window.high) place.1 in
    let low : before < window.low = ltb-true before window.low place.0 in
    let high : window.low + 10 ≤ window.high = leb-true (window.low + 10) window.high wide.1 in
    omega (arith, apart-below window.high windows parts.1, low, high)

-- so each of them ends at 2,000 or below
apart-high : (before : ℕ) (windows : List Span) (code : ℕ) → are_apart before windows ≡ true → code < length windows → (get_or windows code no_span).high ≤ 2000
unfolding are_apart
apart-high before [] code apart there = absurd (omega arith)
apart-high before (window ∷ windows) zero apart there = apart-below window.high windows (and_parts (is_behind before window) (are_apart window.high windows) apart).1
apart-high before (window ∷ windows) (suc code) apart there = apart-high window.high windows code (and_parts (is_behind before window) (are_apart window.high windows) apart).1 (omega arith)

-- three tests that don't refuse a setup that is accepted
by-tests : (pause windows delay short long behind : Bool)
    → (if pause then Some setup_fault.Pause else (if not windows then Some setup_fault.Windows else (if not delay then Some setup_fault.Delay else (if short || (long || behind) then Some setup_fault.Quiet else None)))) ≡ None
    → (windows ≡ true) × (long ≡ false) × (behind ≡ false)
by-tests true windows delay short long behind e = absurd cc
by-tests false false delay short long behind e = absurd cc
by-tests false true false short long behind e = absurd cc
by-tests false true true true long behind e = absurd cc
by-tests false true true false true behind e = absurd cc
by-tests false true true false false true e = absurd cc
by-tests false true true false false false e = (refl, refl, refl)

-- the ends of windows and delay, and the quiet time, in tenths of a tick
pub record IsShort (s : Settings) : Type 0 where
  pub windows : (code : ℕ) → code < length s.windows → (get_or s.windows code no_span).high ≤ 2000
  pub delay : s.delay.high ≤ 10000
  pub quiet : s.quiet ≤ 10000

-- a setup that is accepted has such ends
pub is-short : (s : Settings) → fault_of s.sent s.windows s.delay s.quiet ≡ None → IsShort s
is-short s accepted =
    let tests = by-tests s.sent.pause (are_windows s.windows) (is_wide s.delay) (nat_lt s.quiet 700) (nat_lt 10000 s.quiet) (nat_le s.quiet s.delay.high) accepted in
    let parts = and_parts (nat_le 1 (length s.windows)) (nat_le (length s.windows) 8 && are_apart 0 s.windows) tests.0 in
    let apart = (and_parts (nat_le (length s.windows) 8) (are_apart 0 s.windows) parts.1).1 in
    let long : s.quiet ≤ 10000 = grind (arith, nat_tests, tests.1) in
    let behind : s.delay.high < s.quiet = grind (arith, nat_tests, tests.2) in
    record { windows = λ code there. apart-high 0 s.windows code apart there; delay = omega (arith, long, behind); quiet = long }

-- it has a window
pub some-windows : (s : Settings) → fault_of s.sent s.windows s.delay s.quiet ≡ None → 1 ≤ length s.windows
some-windows s accepted =
    let tests = by-tests s.sent.pause (are_windows s.windows) (is_wide s.delay) (nat_lt s.quiet 700) (nat_lt 10000 s.quiet) (nat_le s.quiet s.delay.high) accepted in
    leb-true 1 (length s.windows) (and_parts (nat_le 1 (length s.windows)) (nat_le (length s.windows) 8 && are_apart 0 s.windows) tests.0).0

-- ---- a transaction
-- the CRC is a nibble
crc_below : (form : CrcForm) (nibbles : List ℕ) → crc_of form nibbles < 16
crc_below crc.New nibbles = crc_small nibbles
crc_below crc.Legacy nibbles = crc_legacy_small nibbles

module _ (s : Settings) (short : IsShort s) (range : InRange s.sent.tick s.sent.jitter s.sent.nibbles) where
  -- the values of an answer are nibbles
  values-small : (frame : SentFrame) → FitsSetup s frame → All (λ value. value < 16) (values_in s frame)
  values-small frame fits =
      let crc = crc_of s.sent.crc (covered s.cover frame.status frame.nibbles) in
      All-cons (λ v. v < 16) frame.status (frame.nibbles ++ crc ∷ []) fits.status
      (All-append (λ v. v < 16) frame.nibbles (crc ∷ []) fits.nibbles (All-cons (λ v. v < 16) crc [] (crc_below s.sent.crc (covered s.cover frame.status frame.nibbles)) (All-nil (λ v. v < 16))))

  -- an answer has at most 9 pulses
  values-many : (frame : SentFrame) → FitsSetup s frame → length (ticks_in s frame) ≤ 9
  values-many frame fits =
      let crc = crc_of s.sent.crc (covered s.cover frame.status frame.nibbles) in
      omega (arith, range.nibbles_high, fits.as_many, length-append frame.nibbles (crc ∷ []), length-map (values_in s frame) (λ value. 12 + value))

  -- an answer's pulses
  pulses-short : (trigger : Trigger) (answer : SentAnswer) → IsAnswerSent s trigger answer → sum (pulses_sent s answer) ≤ 55000000000
  pulses-short trigger answer is_sent =
      let counts = ticks_in s answer.frame in
      let few : All (λ count. count ≤ 56) counts = All-cons (λ count. count ≤ 56) 56 (map (λ value. 12 + value) (values_in s answer.frame)) (omega arith) (values-few 56 (values_in s answer.frame) (omega arith) (values-small answer.frame is_sent.fits)) in
      let ticks : All (λ t. t ≤ 1203 * s.sent.tick) (answer.tick ∷ answer.own_ticks) =
      All-cons (λ t. t ≤ 1203 * s.sent.tick) answer.tick answer.own_ticks (omega (arith, is_sent.tick)) (owns-short s.sent.tick answer.tick answer.own_ticks is_sent.tick is_sent.own_ticks) in
      let most = lengths-most 56 (1203 * s.sent.tick) counts (answer.tick ∷ answer.own_ticks) few ticks in
      let room : length counts * (56 * (1203 * s.sent.tick)) ≤ 9 * (56 * (1203 * 90000)) =
      mul-le (length counts) (56 * (1203 * s.sent.tick)) 9 (56 * (1203 * 90000)) (values-many answer.frame is_sent.fits) (omega (arith, range.tick_high)) in
      omega (arith, most, room)

  -- a trigger
  width-short : (trigger : Trigger) → IsTriggerSent s trigger → trigger.rise ≤ trigger.fall + 18000000000
  width-short trigger is_sent =
      let window = get_or s.windows trigger.code no_span in
      let room : s.sent.tick * window.high ≤ 90000 * 2000 = mul-le s.sent.tick window.high 90000 2000 range.tick_high (short.windows trigger.code is_sent.code) in
      omega (arith, is_sent.width, room)

  -- the delay
  delay-short : (trigger : Trigger) (answer : SentAnswer) → IsAnswerSent s trigger answer → answer.start ≤ trigger.rise + 90000000000
  delay-short trigger answer is_sent =
      let room : s.sent.tick * s.delay.high ≤ 90000 * 10000 = mul-le s.sent.tick s.delay.high 90000 10000 range.tick_high short.delay in
      omega (arith, is_sent.delay, room)

  -- a transaction ends soon behind its trigger's fall
  pub ends-soon : (t : Transaction) → IsTransaction s t → ends_at s t ≤ (trigger_in t).fall + 165000000000
  ends-soon (Unanswered trigger) is_sent = omega (arith, width-short trigger is_sent.trigger)
  ends-soon (Answered trigger answer) is_sent =
      omega (arith, width-short trigger is_sent.trigger, delay-short trigger answer is_sent.answer, pulses-short trigger answer is_sent.answer, last-falls answer.start (pulses_sent s answer))

  -- the quiet time
  quiet-short : 100 * s.sent.tick * s.quiet ≤ 90000000000
  quiet-short =
      let room : s.sent.tick * s.quiet ≤ 90000 * 10000 = mul-le s.sent.tick s.quiet 90000 10000 range.tick_high short.quiet in
      omega (arith, room)

  -- the quiet time begins at most 5 ticks behind a transaction
  rest-short : (t : Transaction) → 1000 * rest_of t * s.sent.tick ≤ 450000000
  rest-short (Answered trigger answer) = omega (arith, range.tick_high)
  rest-short (Unanswered trigger) = omega (arith, range.tick_high)

  -- the next trigger falls soon behind this one
  pub next-soon : (t : Transaction) → IsTransaction s t → next_trigger s t ≤ (trigger_in t).fall + 260000000000
  unfolding next_trigger
  next-soon t is_sent = omega (arith, ends-soon t is_sent, rest-short t, quiet-short, range.jitter_high, range.tick_high)

  -- the first trigger falls soon
  pub first-soon : first_trigger s ≤ 260000000000
  first-soon = omega (arith, quiet-short, range.jitter_high, range.tick_high)

-- ---- a message
-- a frame that passes the test
answer-fits : (s : Settings) (frame : SentFrame) → (fits_nibbles s.sent frame.nibbles && ltb frame.status 16) ≡ true → FitsSetup s frame
answer-fits s frame fits =
    let parts = both (fits_nibbles s.sent frame.nibbles) (ltb frame.status 16) fits in
    let nibbles = both (eqb (length frame.nibbles) s.sent.nibbles) (are_nibbles frame.nibbles) parts.0 in
    record { status = ltb-true frame.status 16 parts.1; as_many = eqb-true (length frame.nibbles) s.sent.nibbles nibbles.0; nibbles = are-nibbles frame.nibbles nibbles.1 }

module _ (state : SpcState) (accepted : fault_of state.setup.sent state.setup.windows state.setup.delay state.setup.quiet ≡ None) (range : InRange state.setup.sent.tick state.setup.sent.jitter state.setup.sent.nibbles) (g : Lcg) where
  -- the next trigger falls soon behind this one
  abbrev NextSoon : SpcState → Type 0
  NextSoon behind = trigger_at behind.setup behind.next ≤ trigger_at state.setup state.next + 260000000000

  -- the transaction that a message makes
  abbrev Makes : Transaction → Type 0
  Makes t = IsTransaction state.setup t × ((trigger_in t).fall ≡ trigger_at state.setup state.next)

  -- a transaction leaves the next trigger soon
  transaction-leaves : (t : Transaction) (own : Lcg) → Makes t → Leaves NextSoon (edges_sent state t own)
  unfolding edges_sent
  transaction-leaves t own makes =
      let count = length (falls_in state.setup t) in
      let drawn = behind_word (behind_word own) in
      late-leaves SpcState NextSoon state (behind_transaction state t) (transaction_edges state t (word own) (word (behind_word own)) (words count drawn)) own (past count drawn) (ltb (9 * 10 ^ 17) (ends_at state.setup t))
      (omega (arith, next-soon state.setup (is-short state.setup accepted) range t makes.0, makes.1))

  -- a transaction whose trigger falls soon enough is sent
  transaction-sent : (t : Transaction) (own : Lcg) → Makes t → trigger_at state.setup state.next ≤ 8 * 10 ^ 17 → IsSent (edges_sent state t own)
  unfolding edges_sent
  transaction-sent t own makes soon =
      let count = length (falls_in state.setup t) in
      let drawn = behind_word (behind_word own) in
      let in_time : ends_at state.setup t ≤ 9 * 10 ^ 17 = omega (arith, ends-soon state.setup (is-short state.setup accepted) range t makes.0, makes.1, soon) in
      in_time-sent SpcState (λ s. Unit {0}) state (behind_transaction state t) (transaction_edges state t (word own) (word (behind_word own)) (words count drawn)) own (past count drawn) (ltb (9 * 10 ^ 17) (ends_at state.setup t))
      (le-ltb (9 * 10 ^ 17) (ends_at state.setup t) in_time)

  -- an answer that fits makes one that may be sent
  answer-makes : (code : ℕ) (frame : SentFrame) → fits_answer state.setup code frame ≡ true
      → Makes (Answered (next_sent state code g) (answer_sent state.setup (next_sent state code g) frame (trigger_words g).tick (answer_words state.setup (past_trigger g))))
  unfolding answer_words trigger_sent answer_sent
  answer-makes code frame fits =
      let parts = both (fits_code state.setup code) (fits_nibbles state.setup.sent frame.nibbles && ltb frame.status 16) fits in
      let trigger = next_sent state code g in
      let drawn = answer_words state.setup (past_trigger g) in (
        record {
          trigger = trigger-is_sent state.setup accepted range (trigger_at state.setup state.next) code (trigger_words g) (ltb-true code (length state.setup.windows) parts.0);
          answer = answer-is_sent state.setup accepted range trigger frame (trigger_words g).tick drawn (answer-fits state.setup frame parts.1) (length-words (own_count state.setup) (behind_word (past_trigger g)));
        },
        refl,
      )

  -- so does a trigger that nobody answers
  silent-makes : (code : ℕ) → fits_code state.setup code ≡ true → Makes (Unanswered (next_sent state code g))
  unfolding trigger_sent
  silent-makes code fits =
      (record { trigger = trigger-is_sent state.setup accepted range (trigger_at state.setup state.next) code (trigger_words g) (ltb-true code (length state.setup.windows) fits); answer = tt }, refl)

  -- an answer leaves the next trigger soon
  answer-leaves : (code : ℕ) (frame : SentFrame) → fits_answer state.setup code frame ≡ true → Leaves NextSoon (answer_next state code frame g)
  unfolding answer_next
  answer-leaves code frame fits = transaction-leaves (Answered (next_sent state code g) (answer_sent state.setup (next_sent state code g) frame (trigger_words g).tick (answer_words state.setup (past_trigger g)))) (past_answer state.setup (past_trigger g)) (answer-makes code frame fits)

  -- so does a trigger that nobody answers
  silent-leaves : (code : ℕ) → fits_code state.setup code ≡ true → Leaves NextSoon (silent_next state code g)
  unfolding silent_next
  silent-leaves code fits = transaction-leaves (Unanswered (next_sent state code g)) (past_trigger g) (silent-makes code fits)

  -- so does each message
  pub next-leaves : (m : Message) → Leaves NextSoon (spc_next state m g)
  unfolding spc_next
  next-leaves (message.Frame frame) = tt
  next-leaves (message.Short id value) = tt
  next-leaves (message.Enhanced id value wide) = tt
  next-leaves (message.Answer code frame) = when-leaves NextSoon fault.Range state g (answer_next state code frame g) (fits_answer state.setup code frame) (answer-leaves code frame)
  next-leaves (message.Silent code) = when-leaves NextSoon fault.Range state g (silent_next state code g) (fits_code state.setup code) (silent-leaves code)
  next-leaves message.Sync = tt
  next-leaves (message.Burst slot payload) = tt
  next-leaves (message.Down down) = tt

  -- an answer that fits is sent where its trigger falls soon enough
  answer-then : (code : ℕ) (frame : SentFrame) → fits_answer state.setup code frame ≡ true → trigger_at state.setup state.next ≤ 8 * 10 ^ 17 → IsSent (answer_next state code frame g)
  unfolding answer_next
  answer-then code frame fits soon = transaction-sent (Answered (next_sent state code g) (answer_sent state.setup (next_sent state code g) frame (trigger_words g).tick (answer_words state.setup (past_trigger g)))) (past_answer state.setup (past_trigger g)) (answer-makes code frame fits) soon

  -- so is a trigger that nobody answers
  silent-then : (code : ℕ) → fits_code state.setup code ≡ true → trigger_at state.setup state.next ≤ 8 * 10 ^ 17 → IsSent (silent_next state code g)
  unfolding silent_next
  silent-then code fits soon = transaction-sent (Unanswered (next_sent state code g)) (past_trigger g) (silent-makes code fits) soon

  -- so is the message of an answer
  pub answer-sent : (code : ℕ) (frame : SentFrame) → fits_answer state.setup code frame ≡ true → trigger_at state.setup state.next ≤ 8 * 10 ^ 17 → IsSent (spc_next state (message.Answer code frame) g)
  answer-sent code frame fits soon = subst IsSent (sends-answer state g (message.Answer code frame) code frame refl fits) (answer-then code frame fits soon)

  -- and that of a trigger that nobody answers
  pub silent-sent : (code : ℕ) → fits_code state.setup code ≡ true → trigger_at state.setup state.next ≤ 8 * 10 ^ 17 → IsSent (spc_next state (message.Silent code) g)
  silent-sent code fits soon = subst IsSent (sends-silent state g (message.Silent code) code refl fits) (silent-then code fits soon)

-- ---- behind so many messages
-- a simulator of this setup has sent so many messages: its next trigger falls soon
pub record SpcSoon (s : Settings) (count : ℕ) (state : SpcState) : Type 0 where
  pub setup_is : IsSpcOf s state
  pub soon : trigger_at state.setup state.next ≤ suc count * 260000000000

module _ (line : ℕ) (s : Settings) (accepted : fault_of s.sent s.windows s.delay s.quiet ≡ None) (frame_accepted : sent_frame.fault_of s.sent.tick s.sent.jitter s.sent.nibbles ≡ None) where
  -- the bounds of the answer's frame
  range : InRange s.sent.tick s.sent.jitter s.sent.nibbles
  range = frame_range s.sent.tick s.sent.jitter s.sent.nibbles frame_accepted

  -- the first trigger falls soon
  pub soon-started : SpcSoon s zero (started line s)
  soon-started = record { setup_is = refl; soon = omega (arith, first-soon s (is-short s accepted) range) }

  -- a setup that is this one is accepted
  accepted-so : (u : Settings) → u ≡ s → fault_of u.sent u.windows u.delay u.quiet ≡ None
  accepted-so u is = subst (λ (v : Settings). fault_of v.sent v.windows v.delay v.quiet ≡ None) (sym is) accepted

  -- and has its bounds
  range-so : (u : Settings) → u ≡ s → InRange u.sent.tick u.sent.jitter u.sent.nibbles
  range-so u is = subst (λ (v : Settings). InRange v.sent.tick v.sent.jitter v.sent.nibbles) (sym is) range

  -- what keeps the setup and leaves the next trigger soon leaves both
  both-leave : (count before : ℕ) (o : Outcome SpcState) → before ≤ suc count * 260000000000 → Leaves (IsSpcOf s) o → Leaves (λ (behind : SpcState). trigger_at behind.setup behind.next ≤ before + 260000000000) o → Leaves (SpcSoon s (suc count)) o
  both-leave count before (Sent edges behind later) soon is next = record { setup_is = is; soon = omega (arith, soon, next) }
  both-leave count before (Refused refused behind later) soon is next = tt

  -- each message leaves the next trigger soon
  pub soon-next : (count : ℕ) (state : SpcState) (m : Message) (g : Lcg) → SpcSoon s count state → Leaves (SpcSoon s (suc count)) (spc_next state m g)
  soon-next count state m g soon =
      both-leave count (trigger_at state.setup state.next) (spc_next state m g) soon.soon (spc-kept s state g soon.setup_is m) (next-leaves state (accepted-so state.setup soon.setup_is) (range-so state.setup soon.setup_is) g m)

  -- an answer that fits is sent, behind fewer than 300,000 messages
  pub answer-soon : (count : ℕ) (state : SpcState) (code : ℕ) (frame : SentFrame) (g : Lcg) → SpcSoon s count state → count < 300000 → fits_answer s code frame ≡ true → IsSent (spc_next state (message.Answer code frame) g)
  answer-soon count state code frame g soon few fits =
      answer-sent state (accepted-so state.setup soon.setup_is) (range-so state.setup soon.setup_is) g code frame (ap (λ (u : Settings). fits_answer u code frame) soon.setup_is ∙ fits) (omega (arith, soon.soon, few))

  -- so is a trigger that nobody answers
  pub silent-soon : (count : ℕ) (state : SpcState) (code : ℕ) (g : Lcg) → SpcSoon s count state → count < 300000 → fits_code s code ≡ true → IsSent (spc_next state (message.Silent code) g)
  silent-soon count state code g soon few fits =
      silent-sent state (accepted-so state.setup soon.setup_is) (range-so state.setup soon.setup_is) g code (ap (λ (u : Settings). fits_code u code) soon.setup_is ∙ fits) (omega (arith, soon.soon, few))

-- What becomes of a message of SPC, case by case.
--     refuses-late, sends-edges                    transactions that end too late, and the others
--     silent-times, answer-times                   the times of what is drawn
--     silent-is, answer-is                         and what becomes of it
--     refuses-answer, refuses-code, refuses-other  messages that are refused
--     sends-answer, sends-silent                   the others
use Rattle.std.proofs.Common.{◌≡◌, ℕ, ◌+◌, ◌*◌, ◌^◌, ◌<◌, ◌≤◌, Bool, true, false, Some, List, [], ◌∷◌, ◌++◌, length, refl, ap, ap₂, sym, ◌∙◌, if◌then◌else◌, ltb, lt-ltb, le-ltb, arith}
use Rattle.rand_pcg.specs.Lcg.{Lcg}
use Rattle.line_base.specs.declared.edge.Edge.{Edge}
use Rattle.sent_frame.specs.declared.frame.SentFrame.{SentFrame}
use Rattle.spc_tolerance.specs.Trains.{Transaction, Answered, Unanswered, ends_at, trigger_in}
use Rattle.receiver_core.specs.declared.message.Message.{Message}
use Rattle.receiver_core.specs.declared.message.Message.TheVariants as message
use Rattle.sim_base.specs.declared.sim_fault.SimFault.TheVariants as fault
use Rattle.sim_base.specs.Outcomes.{Outcome, Sent, Refused}
use Rattle.sim_base.specs.Recordings.{edge_at, falls_with_rises, opening_of, recorded_at, recorded_by}
use Rattle.spc_sim.specs.SpcSims.{IsDrawnAnswer, IsOfTimes, answer_next, answer_sent, answer_words, behind_transaction, edges_sent, falls_in, fits_answer, fits_code, next_sent, next_trigger, past_answer, past_trigger, silent_next, spc_next, transaction_edges, trigger_sent, trigger_words}
use Rattle.spc_sim.specs.SpcStates.{SpcState, trigger_at}
use Rattle.sim_base.specs.Wobbles.{behind_word, past, word, words}

-- ---- transactions
module _ (state : SpcState) (t : Transaction) (g : Lcg) where
  -- the generator behind the words of the trigger's edges
  abbrev drawn : Lcg
  drawn = behind_word (behind_word g)

  -- by whether it ends too late
  abbrev by_time : Bool → Outcome SpcState
  by_time late =
      if late then Refused fault.Late state g
      else Sent (transaction_edges state t (word g) (word (behind_word g)) (words (length (falls_in state.setup t)) drawn)) (behind_transaction state t) (past (length (falls_in state.setup t)) drawn)

  edges-are : (late : Bool) → ltb (9 * 10 ^ 17) (ends_at state.setup t) ≡ late → by_time late ≡ edges_sent state t g
  unfolding edges_sent
  edges-are late is = ap by_time (sym is)

  pub refuses-late : (last : ℕ) → last ≡ ends_at state.setup t → 9 * 10 ^ 17 < last → Refused fault.Late state g ≡ edges_sent state t g
  refuses-late last last_is late =
      let too_late : 9 * 10 ^ 17 < ends_at state.setup t = omega (arith, last_is) in
      edges-are true (lt-ltb (9 * 10 ^ 17) (ends_at state.setup t) too_late)

  pub sends-edges : (fall rise : ℕ) (falls : List ℕ) (last rest next : ℕ) (edges : List Edge) (behind : Lcg) → IsOfTimes state.setup t fall rise falls last rest → last ≤ 9 * 10 ^ 17
      → edges ≡ opening_of state.line true state.next ++ (edge_at state.line (recorded_at state.setup.sent.jitter fall (word g)) false ∷ edge_at state.line (recorded_at state.setup.sent.jitter rise (word (behind_word g))) true
      ∷ falls_with_rises state.line (4 * state.setup.sent.tick) (recorded_by state.setup.sent.jitter falls (words (length falls) drawn)))
      → next ≡ last + 1000 * rest * state.setup.sent.tick + 100 * state.setup.sent.tick * state.setup.quiet + 2000 * state.setup.sent.jitter → behind ≡ past (length falls) drawn
      → Sent edges (record state { next = Some next }) behind ≡ edges_sent state t g
  unfolding transaction_edges next_trigger
  sends-edges fall rise falls last rest next edges behind times in_time edges_are next_is behind_is =
      let s = state.setup in
      let soon : ends_at s t ≤ 9 * 10 ^ 17 = omega (arith, times.last_is) in
      let whole : edges ≡ transaction_edges state t (word g) (word (behind_word g)) (words (length (falls_in s t)) drawn) =
      edges_are
      ∙ ap₂ (λ f r. opening_of state.line true state.next ++ (edge_at state.line (recorded_at s.sent.jitter f (word g)) false ∷ edge_at state.line (recorded_at s.sent.jitter r (word (behind_word g))) true
      ∷ falls_with_rises state.line (4 * s.sent.tick) (recorded_by s.sent.jitter falls (words (length falls) drawn)))) times.fall_is times.rise_is
      ∙ ap (λ l. opening_of state.line true state.next ++ (edge_at state.line (recorded_at s.sent.jitter (trigger_in t).fall (word g)) false ∷ edge_at state.line (recorded_at s.sent.jitter (trigger_in t).rise (word (behind_word g))) true
      ∷ falls_with_rises state.line (4 * s.sent.tick) (recorded_by s.sent.jitter l (words (length l) drawn)))) times.falls_are in
      let later : next ≡ next_trigger s t = next_is ∙ ap₂ (λ e r. e + 1000 * r * s.sent.tick + 100 * s.sent.tick * s.quiet + 2000 * s.sent.jitter) times.last_is times.rest_is in
      ap₂ (λ e b. Sent e (record state { next = Some next }) b) whole (behind_is ∙ ap (λ l. past (length l) drawn) times.falls_are)
      ∙ ap (λ n. Sent (transaction_edges state t (word g) (word (behind_word g)) (words (length (falls_in s t)) drawn)) (record state { next = Some n }) (past (length (falls_in s t)) drawn)) later
      ∙ edges-are false (le-ltb (9 * 10 ^ 17) (ends_at s t) soon)

-- ---- what is drawn
module _ (state : SpcState) (code : ℕ) (g : Lcg) (fall rise : ℕ) (fall_is : fall ≡ trigger_at state.setup state.next) (rise_is : rise ≡ (trigger_sent state.setup fall code (trigger_words g)).rise) where
  rise-is : rise ≡ (next_sent state code g).rise
  unfolding trigger_sent
  rise-is = rise_is ∙ ap (λ f. (trigger_sent state.setup f code (trigger_words g)).rise) fall_is

  pub next-rise : rise ≡ (next_sent state code g).rise
  next-rise = rise-is

  pub silent-times : IsOfTimes state.setup (Unanswered (next_sent state code g)) fall rise [] rise 1
  unfolding falls_in trigger_sent
  silent-times = record { fall_is = fall_is; rise_is = rise-is; falls_are = refl; last_is = rise-is; rest_is = refl }

  pub answer-times : (frame : SentFrame) (falls : List ℕ) (last : ℕ) → IsDrawnAnswer state.setup (answer_sent state.setup (next_sent state code g) frame (trigger_words g).tick (answer_words state.setup (past_trigger g))) falls last
      → IsOfTimes state.setup (Answered (next_sent state code g) (answer_sent state.setup (next_sent state code g) frame (trigger_words g).tick (answer_words state.setup (past_trigger g)))) fall rise falls last 5
  unfolding falls_in trigger_sent
  answer-times frame falls last drawn = record { fall_is = fall_is; rise_is = rise-is; falls_are = drawn.falls_are; last_is = drawn.last_is; rest_is = refl }

pub silent-is : (state : SpcState) (code : ℕ) (g behind : Lcg) → behind ≡ past_trigger g → edges_sent state (Unanswered (next_sent state code g)) behind ≡ silent_next state code g
unfolding silent_next
silent-is state code g behind is = ap (edges_sent state (Unanswered (next_sent state code g))) is

pub answer-is : (state : SpcState) (code : ℕ) (frame : SentFrame) (g trigger behind : Lcg) → trigger ≡ past_trigger g → behind ≡ past_answer state.setup trigger
    → edges_sent state (Answered (next_sent state code g) (answer_sent state.setup (next_sent state code g) frame (trigger_words g).tick (answer_words state.setup (past_trigger g)))) behind ≡ answer_next state code frame g
unfolding answer_next
answer-is state code frame g trigger behind trigger_is is =
    ap (edges_sent state (Answered (next_sent state code g) (answer_sent state.setup (next_sent state code g) frame (trigger_words g).tick (answer_words state.setup (past_trigger g))))) (is ∙ ap (past_answer state.setup) trigger_is)

-- ---- tests
module _ (state : SpcState) (g : Lcg) (m : Message) where
  abbrev by_answer : ℕ → SentFrame → Bool → Outcome SpcState
  by_answer code frame fits = if fits then answer_next state code frame g else Refused fault.Range state g

  answer-next : (code : ℕ) (frame : SentFrame) (fits : Bool) → m ≡ message.Answer code frame → fits_answer state.setup code frame ≡ fits → by_answer code frame fits ≡ spc_next state m g
  unfolding spc_next
  answer-next code frame fits is fits_is = ap (by_answer code frame) (sym fits_is) ∙ ap (λ m. spc_next state m g) (sym is)

  pub refuses-answer : (code : ℕ) (frame : SentFrame) → m ≡ message.Answer code frame → fits_answer state.setup code frame ≡ false → Refused fault.Range state g ≡ spc_next state m g
  refuses-answer code frame is unfit = answer-next code frame false is unfit

  pub sends-answer : (code : ℕ) (frame : SentFrame) → m ≡ message.Answer code frame → fits_answer state.setup code frame ≡ true → answer_next state code frame g ≡ spc_next state m g
  sends-answer code frame is fits = answer-next code frame true is fits

  abbrev by_code : ℕ → Bool → Outcome SpcState
  by_code code fits = if fits then silent_next state code g else Refused fault.Range state g

  silent-next : (code : ℕ) (fits : Bool) → m ≡ message.Silent code → fits_code state.setup code ≡ fits → by_code code fits ≡ spc_next state m g
  unfolding spc_next
  silent-next code fits is fits_is = ap (by_code code) (sym fits_is) ∙ ap (λ m. spc_next state m g) (sym is)

  pub refuses-code : (code : ℕ) → m ≡ message.Silent code → fits_code state.setup code ≡ false → Refused fault.Range state g ≡ spc_next state m g
  refuses-code code is unfit = silent-next code false is unfit

  pub sends-silent : (code : ℕ) → m ≡ message.Silent code → fits_code state.setup code ≡ true → silent_next state code g ≡ spc_next state m g
  sends-silent code is fit = silent-next code true is fit

pub refuses-other : (state : SpcState) (g : Lcg) (m : Message) → ((code : ℕ) (frame : SentFrame) → m ≡ message.Answer code frame → ⊥) → ((code : ℕ) → m ≡ message.Silent code → ⊥) → Refused fault.Kind state g ≡ spc_next state m g
unfolding spc_next
refuses-other state g (message.Frame frame) no_answer no_silent = refl
refuses-other state g (message.Short id value) no_answer no_silent = refl
refuses-other state g (message.Enhanced id value wide) no_answer no_silent = refl
refuses-other state g (message.Answer code frame) no_answer no_silent = absurd (no_answer code frame refl)
refuses-other state g (message.Silent code) no_answer no_silent = absurd (no_silent code refl)
refuses-other state g message.Sync no_answer no_silent = refl
refuses-other state g (message.Burst slot payload) no_answer no_silent = refl
refuses-other state g (message.Down down) no_answer no_silent = refl

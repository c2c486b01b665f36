-- What is sent on an SPC line of a message, by which words of a wobble, and which messages are refused (the frame of an answer: SAE J2716; the rest is this project's own).
use Rattle.std.specs.Prelude.{◌≡◌, ℕ, suc, ◌+◌, ◌-◌, ◌*◌, ◌%◌, ◌^◌, Bool, true, false, ◌&&◌, nat_lt, None, Some, List, [], ◌∷◌, ◌++◌, length, get_or, if◌then◌else◌}
use Rattle.rand_pcg.specs.Lcg.{Lcg}
use Rattle.line_base.specs.Spans.{no_span}
use Rattle.line_base.specs.declared.edge.Edge.{Edge}
use Rattle.line_base.specs.declared.edge.Span.{Span}
use Rattle.sent_frame.specs.declared.frame.SentFrame.{SentFrame}
use Rattle.spc_link.specs.Setup.{Settings}
use Rattle.spc_tolerance.specs.Trains.{SentAnswer, Transaction, Answered, Unanswered, Trigger, answer_falls, ends_at, last_of, pulses_sent, trigger_in}
use Rattle.link_tolerance.specs.Pulses.{falls_behind}
use Rattle.receiver_core.specs.declared.message.Message.{Message}
use Rattle.receiver_core.specs.declared.message.Message.TheVariants as message
use Rattle.sim_base.specs.declared.sim_fault.SimFault.TheVariants as fault
use Rattle.sim_base.specs.Wobbles.{behind_word, past, word, words}
use Rattle.sim_base.specs.Recordings.{edge_at, falls_with_rises, opening_of, recorded_at, recorded_by}
use Rattle.sim_base.specs.DrawnTicks.{any_tick, own_ticks}
use Rattle.sim_base.specs.Outcomes.{Outcome, Sent, Refused}
use Rattle.sim_base.specs.FittingNibbles.{fits_nibbles}
use Rattle.spc_sim.specs.SpcStates.{SpcState, trigger_at}

-- ---- the words of a message
-- how many pulses of an answer have a tick of their own: status, data nibbles and CRC
abbrev pub own_count : Settings → ℕ
own_count s = suc (suc s.sent.nibbles)

-- the words of a trigger: one for the tick, also where nobody answers, and one for the width
pub record TriggerWords : Type 0 where
  pub tick : ℕ
  pub width : ℕ

-- those words, in the order in which they are drawn
unfoldable pub trigger_words : Lcg → TriggerWords
trigger_words g = record { tick = word g; width = word (behind_word g) }

-- the words that an answer draws behind them: one for the delay, and one for the own tick of each pulse behind the calibration pulse
pub record AnswerWords : Type 0 where
  pub delay : ℕ
  pub own : List ℕ

-- those words, in the order in which they are drawn, by the generator behind those of the trigger
unfoldable pub answer_words : Settings → Lcg → AnswerWords
answer_words s g = record { delay = word g; own = words (own_count s) (behind_word g) }

-- the generator behind the words of a trigger
unfoldable pub past_trigger : Lcg → Lcg
past_trigger g = behind_word (behind_word g)

-- the generator behind those of an answer
unfoldable pub past_answer : Settings → Lcg → Lcg
past_answer s g = past (own_count s) (behind_word g)

-- ---- a transaction as it is sent
-- a time in ps in a span of tenths of the nominal tick, twice the jitter inside each end, by this word
unfoldable pub inside : Settings → Span → ℕ → ℕ
inside s span word = 100 * s.sent.tick * span.low + 2000 * s.sent.jitter + word % (100 * s.sent.tick * (span.high - span.low) - 4000 * s.sent.jitter + 1)

-- the trigger of a code, falling at this time
unfoldable pub trigger_sent : Settings → ℕ → ℕ → TriggerWords → Trigger
trigger_sent s fall code drawn = record { code = code; fall = fall; rise = fall + inside s (get_or s.windows code no_span) drawn.width }

-- the answer behind it
unfoldable pub answer_sent : Settings → Trigger → SentFrame → ℕ → AnswerWords → SentAnswer
answer_sent s trigger frame tick drawn = record {
  start = trigger.rise + inside s s.delay drawn.delay;
  frame = frame;
  tick = any_tick s.sent.tick tick;
  own_ticks = own_ticks (any_tick s.sent.tick tick) drawn.own;
}

-- an answer's falls are these, and this is the last of them
pub record IsDrawnAnswer (s : Settings) (answer : SentAnswer) (falls : List ℕ) (last : ℕ) : Type 0 where
  pub falls_are : falls ≡ answer_falls s answer
  pub last_is : last ≡ last_of answer.start (falls_behind answer.start (pulses_sent s answer))

-- the falls of a transaction's answer, where it has one, in ps
unfoldable pub falls_in : Settings → Transaction → List ℕ
falls_in s (Answered trigger answer) = answer_falls s answer
falls_in s (Unanswered trigger) = []

-- how many nominal ticks behind a transaction's last edge the quiet time begins: five behind an answer, one behind a trigger that nobody answers
abbrev pub rest_of : Transaction → ℕ
rest_of (Answered trigger answer) = 5
rest_of (Unanswered trigger) = 1

-- when the next trigger falls
unfoldable pub next_trigger : Settings → Transaction → ℕ
next_trigger s transaction = ends_at s transaction + 1000 * rest_of transaction * s.sent.tick + 100 * s.sent.tick * s.quiet + 2000 * s.sent.jitter

-- a transaction whose trigger has these edges, whose answer has these falls, whose last edge is this, and behind which the quiet time begins so many ticks later
pub record IsOfTimes (s : Settings) (transaction : Transaction) (fall rise : ℕ) (falls : List ℕ) (last rest : ℕ) : Type 0 where
  pub fall_is : fall ≡ (trigger_in transaction).fall
  pub rise_is : rise ≡ (trigger_in transaction).rise
  pub falls_are : falls ≡ falls_in s transaction
  pub last_is : last ≡ ends_at s transaction
  pub rest_is : rest ≡ rest_of transaction

-- its edges, by these words: one for the fall and one for the rise of its trigger, and one for each fall of its answer
unfoldable pub transaction_edges : SpcState → Transaction → ℕ → ℕ → List ℕ → List Edge
transaction_edges state transaction first second drawn =
    opening_of state.line true state.next
    ++ (edge_at state.line (recorded_at state.setup.sent.jitter (trigger_in transaction).fall first) false
    ∷ edge_at state.line (recorded_at state.setup.sent.jitter (trigger_in transaction).rise second) true
    ∷ falls_with_rises state.line (4 * state.setup.sent.tick) (recorded_by state.setup.sent.jitter (falls_in state.setup transaction) drawn))

-- ---- what becomes of a message
-- a sender that has sent nothing
abbrev pub started : ℕ → Settings → SpcState
started line s = record { line = line; setup = s; next = None }

-- the state behind a transaction
abbrev pub behind_transaction : SpcState → Transaction → SpcState
behind_transaction state transaction = record state { next = Some (next_trigger state.setup transaction) }

-- a transaction is sent, but where it ends above 9 * 10^17 ps: then the words of its edges aren't drawn
unfoldable pub edges_sent : SpcState → Transaction → Lcg → Outcome SpcState
edges_sent state transaction g =
    if nat_lt (9 * 10 ^ 17) (ends_at state.setup transaction) then Refused fault.Late state g
    else Sent (transaction_edges state transaction (word g) (word (behind_word g)) (words (length (falls_in state.setup transaction)) (behind_word (behind_word g))))
    (behind_transaction state transaction) (past (length (falls_in state.setup transaction)) (behind_word (behind_word g)))

-- the trigger of a code, by this generator
abbrev pub next_sent : SpcState → ℕ → Lcg → Trigger
next_sent state code g = trigger_sent state.setup (trigger_at state.setup state.next) code (trigger_words g)

-- what becomes of a trigger that nobody answers
unfoldable pub silent_next : SpcState → ℕ → Lcg → Outcome SpcState
silent_next state code g = edges_sent state (Unanswered (next_sent state code g)) (past_trigger g)

-- what becomes of one that is answered
unfoldable pub answer_next : SpcState → ℕ → SentFrame → Lcg → Outcome SpcState
answer_next state code frame g =
    edges_sent state (Answered (next_sent state code g) (answer_sent state.setup (next_sent state code g) frame (trigger_words g).tick (answer_words state.setup (past_trigger g))))
    (past_answer state.setup (past_trigger g))

-- a code fits that is the number of a window
abbrev pub fits_code : Settings → ℕ → Bool
fits_code s code = nat_lt code (length s.windows)

-- an answer fits whose code does, and whose frame has the setup's nibbles and a status of 4 bits
abbrev pub fits_answer : Settings → ℕ → SentFrame → Bool
fits_answer s code frame = fits_code s code && (fits_nibbles s.sent frame.nibbles && nat_lt frame.status 16)

-- what becomes of a message: first it has to be one of SPC, then its values have to fit, and then it has to come in time
unfoldable pub spc_next : SpcState → Message → Lcg → Outcome SpcState
spc_next state (message.Answer code frame) g =
    if fits_answer state.setup code frame then answer_next state code frame g else Refused fault.Range state g
spc_next state (message.Silent code) g = if fits_code state.setup code then silent_next state code g else Refused fault.Range state g
spc_next state other g = Refused fault.Kind state g

-- Traces as an exact clock records them, and messages that are sent with the nominal tick; this project's own.
use Rattle.std.specs.Prelude.{ℕ, suc, ◌+◌, ◌*◌, ◌/◌, ◌≤◌, Bool, true, false, List, [], ◌∷◌, map, get_or}
use Rattle.line_base.specs.Edges.{NumberedEdge}
use Rattle.line_base.specs.Spans.{no_span}
use Rattle.line_base.specs.declared.edge.Span.{Span}
use Rattle.sent_frame.specs.declared.frame.SentFrame.{SentFrame}
use Rattle.spc_link.specs.Setup.{Settings}
use Rattle.spc_tolerance.specs.Trains.{SpcMessage, Answer, Silent, Trigger, SentAnswer, Transaction, Answered, Unanswered, trigger_in, values_in, IdealEdge, TriggerFall, TriggerRise, AnswerFall, AnswerRise, ideal_edges, ends_at}

-- ---- an exact clock
-- an edge of this number that an exact clock records, in whole ns, at this time in ps
abbrev pub exact_edge : ℕ → Bool → ℕ → NumberedEdge
exact_edge number level time = record { number = number; edge = record { line = 0; time = time / 1000; level = level } }

-- these ideal edges as an exact clock records them, numbered from here on, where the edge before is at this time in ps: each rise in an answer stands four nominal ticks behind its fall
unfoldable pub exact_edges : ℕ → ℕ → ℕ → List IdealEdge → List NumberedEdge
exact_edges tick number before [] = []
exact_edges tick number before (TriggerFall time ∷ ideals) = exact_edge number false time ∷ exact_edges tick (suc number) time ideals
exact_edges tick number before (TriggerRise time ∷ ideals) = exact_edge number true time ∷ exact_edges tick (suc number) time ideals
exact_edges tick number before (AnswerFall time ∷ ideals) = exact_edge number false time ∷ exact_edges tick (suc number) time ideals
exact_edges tick number before (AnswerRise ∷ ideals) = exact_edge number true (before + 4000 * tick) ∷ exact_edges tick (suc number) (before + 4000 * tick) ideals

-- what an exact clock records of transactions on a line that is opened at 0 and high
abbrev pub exact_trace : Settings → List Transaction → List NumberedEdge
exact_trace s train = exact_edge 0 true 0 ∷ exact_edges s.sent.tick 1 0 (ideal_edges s train)

-- when the line last rises in a transaction, in ps: four nominal ticks behind the last fall of an answer, or at the trigger's rise
abbrev pub rests_at : Settings → Transaction → ℕ
rests_at s (Answered trigger answer) = ends_at s (Answered trigger answer) + 4000 * s.sent.tick
rests_at s (Unanswered trigger) = trigger.rise

-- the earliest time in ps at which a trigger may fall, where the line rose at this time: it keeps the quiet time, and twice the jitter
abbrev pub quiet_behind : Settings → ℕ → ℕ
quiet_behind s time = time + 100 * s.sent.tick * s.quiet + 2000 * s.sent.jitter

-- the next of these transactions keeps the quiet time, where the line rose at this time in ps
abbrev pub RestsBefore : Settings → ℕ → List Transaction → Type 0
RestsBefore s time [] = Unit {0}
RestsBefore s time (transaction ∷ train) = quiet_behind s time ≤ (trigger_in transaction).fall

-- each of these transactions keeps the quiet time behind the one before
abbrev pub KeepsQuietTimes : Settings → List Transaction → Type 0
KeepsQuietTimes s [] = Unit {0}
KeepsQuietTimes s (transaction ∷ train) = RestsBefore s (rests_at s transaction) train × KeepsQuietTimes s train

-- ---- the nominal tick
-- the middle of a span of tenths of the nominal tick, in ps
abbrev pub middle_of : Settings → Span → ℕ
middle_of s span = 50 * s.sent.tick * (span.low + span.high)

-- a trigger of this code that falls at this time, with a width in the middle of its window
abbrev pub nominal_trigger : Settings → ℕ → ℕ → Trigger
nominal_trigger s time code = record { code = code; fall = time; rise = time + middle_of s (get_or s.windows code no_span) }

-- an answer behind this rise, after a delay in the middle of the setup's, all with the nominal tick
abbrev pub nominal_answer : Settings → ℕ → SentFrame → SentAnswer
nominal_answer s rise frame = record { start = rise + middle_of s s.delay; frame = frame; tick = 1000 * s.sent.tick; own_ticks = map (λ value. 1000 * s.sent.tick) (values_in s frame) }

-- a message that is sent with the nominal tick from this time on, in ps
abbrev pub nominal_transaction : Settings → ℕ → SpcMessage → Transaction
nominal_transaction s time (Answer code frame) = Answered (nominal_trigger s time code) (nominal_answer s (nominal_trigger s time code).rise frame)
nominal_transaction s time (Silent code) = Unanswered (nominal_trigger s time code)

-- messages that are sent so from this time on, each as soon as the quiet time is kept
unfoldable pub nominal_train : Settings → ℕ → List SpcMessage → List Transaction
nominal_train s time [] = []
nominal_train s time (message ∷ messages) =
    nominal_transaction s time message ∷ nominal_train s (quiet_behind s (rests_at s (nominal_transaction s time message))) messages

-- what an exact clock records of messages that are sent so from this time on, in ps
abbrev pub nominal_edges : Settings → ℕ → List SpcMessage → List NumberedEdge
nominal_edges s time messages = exact_trace s (nominal_train s time messages)

-- The edges of transactions, added one by one: they are recorded of their ideal edges, and orderly.
--     AllRecordedAs, all-recorded, recorded-push       edges that are recorded as these ideal edges, none missing
--     transaction-recorded                             of one transaction
--     IsReady, opening-ready, transaction-ready        orderly edges, behind which a trigger may fall
use Rattle.std.proofs.Common.{◌≡◌, ℕ, suc, ◌+◌, ◌*◌, ◌^◌, ◌≤◌, Bool, true, false, Option, None, Some, List, [], ◌∷◌, ◌++◌, length, sum, refl, ap, sym, ◌∙◌, arith}
use Rattle.std.proofs.lemmas.Bool.{false≢true}
use Rattle.std.proofs.lemmas.List.{length-append}
use Rattle.std.proofs.lemmas.List.Elements.{All-weaker}
use Rattle.std.proofs.lemmas.Nat.{mul-le}
use Rattle.line_base.specs.declared.edge.Edge.{Edge}
use Rattle.line_base.specs.Orderly.{IsOrderlyFrom, levels_with}
use Rattle.sent_frame.specs.Setup.{InRange}
use Rattle.spc_link.specs.Setup.{Settings}
use Rattle.spc_tolerance.specs.Traces.{AreRecordedAs, IsQuiet, IsRecordedAs, KeepsQuiet}
use Rattle.spc_tolerance.specs.Trains.{IdealEdge, TriggerFall, TriggerRise, AnswerFall, AnswerRise, IsSent, SentAnswer, Transaction, Answered, Unanswered, Trigger, answer_edges, answer_falls, edges_sent, ends_at, pulses_sent, trigger_in}
use Rattle.link_tolerance.specs.Pulses.{falls_behind}
use Rattle.link_tolerance.specs.Recorded.{AreRecorded, IsRecorded}
use Rattle.receiver_core.specs.Traces.{numbered}
use Rattle.sim_base.specs.Recordings.{edge_at, falls_with_rises, pulses_at, recorded_at, recorded_by}
use Rattle.spc_sim.specs.SpcSims.{falls_in, next_trigger}
use Rattle.spc_sim.specs.SpcStates.{first_trigger}
use Rattle.sim_base.proofs.PulseEdges.{AreSpaced, IsBehind, LeaveRoom, alternates, pulses-last, pulses-level, pulses-orderly, length-edges, level-here, spaced}
use Rattle.sim_base.proofs.OrderlyEdges.{IsSoFar, last_time, levels_behind, more_so_far, none_so_far}
use Rattle.sim_base.proofs.RecordedTimes.{are_recorded, length-falls, length-recorded, recorded-near}
use Rattle.sim_base.proofs.OrderlyEdges.{has-line}
use Rattle.sim_base.proofs.PulseLengths.{many-long}
use Rattle.spc_sim.proofs.SpcAnswers.{last-falls}
use Rattle.spc_sim.proofs.SpcTimes.{pulses-long}

-- ---- edges that are recorded
-- these edges are recorded as these ideal edges, one by one and none missing, and triggers keep the quiet time behind the edge before
abbrev pub AllRecordedAs : Settings → List IdealEdge → List Edge → Type 0
AllRecordedAs s [] [] = Unit {0}
AllRecordedAs s [] (e ∷ edges) = ⊥
AllRecordedAs s (ideal ∷ ideals) [] = ⊥
AllRecordedAs s (ideal ∷ ideals) (e ∷ edges) = IsRecordedAs s.sent.jitter ideal e × KeepsQuiet s e.time ideals × AllRecordedAs s ideals edges

pub all-recorded : (s : Settings) (number : ℕ) (ideals : List IdealEdge) (edges : List Edge) → AllRecordedAs s ideals edges → AreRecordedAs s ideals (numbered number edges)
unfolding numbered
all-recorded s number [] [] recorded = tt
all-recorded s number [] (e ∷ edges) recorded = absurd recorded
all-recorded s number (ideal ∷ ideals) [] recorded = absurd recorded
all-recorded s number (ideal ∷ ideals) (e ∷ edges) recorded = (recorded.0, recorded.1, all-recorded s (number + 1) ideals edges recorded.2)

quiet-append : (s : Settings) (time : ℕ) (ideals more : List IdealEdge) (edges : List Edge) → AllRecordedAs s ideals edges → KeepsQuiet s time ideals → KeepsQuiet s (last_time time edges) more → KeepsQuiet s time (ideals ++ more)
quiet-append s time [] more [] recorded first second = second
quiet-append s time [] more (e ∷ edges) recorded first second = absurd recorded
quiet-append s time (TriggerFall fall ∷ ideals) more edges recorded first second = first
quiet-append s time (TriggerRise rise ∷ ideals) more edges recorded first second = tt
quiet-append s time (AnswerFall fall ∷ ideals) more edges recorded first second = tt
quiet-append s time (AnswerRise ∷ ideals) more edges recorded first second = tt

pub recorded-append : (s : Settings) (time : ℕ) (ideals more : List IdealEdge) (edges later : List Edge) → AllRecordedAs s ideals edges → AllRecordedAs s more later → KeepsQuiet s (last_time time edges) more
    → AllRecordedAs s (ideals ++ more) (edges ++ later)
recorded-append s time [] more [] later first second quiet = second
recorded-append s time [] more (e ∷ edges) later first second quiet = absurd first
recorded-append s time (ideal ∷ ideals) more [] later first second quiet = absurd first
recorded-append s time (ideal ∷ ideals) more (e ∷ edges) later first second quiet =
    (first.0, quiet-append s e.time ideals more edges first.2 first.1 quiet, recorded-append s e.time ideals more edges later first.2 second quiet)

-- ---- of one transaction
answer-quiet : (s : Settings) (time : ℕ) (falls : List ℕ) → KeepsQuiet s time (answer_edges falls)
answer-quiet s time [] = tt
answer-quiet s time (fall ∷ falls) = tt

answers-recorded : (s : Settings) (line low : ℕ) (falls times : List ℕ) → AreRecorded s.sent.jitter falls times → AllRecordedAs s (answer_edges falls) (falls_with_rises line low times)
unfolding pulses_at
answers-recorded s line low [] [] recorded = tt
answers-recorded s line low [] (time ∷ times) recorded = absurd recorded
answers-recorded s line low (fall ∷ falls) [] recorded = absurd recorded
answers-recorded s line low (fall ∷ falls) (time ∷ times) recorded = ((refl, recorded.0), tt, (refl, answer-quiet s (time + low) falls, answers-recorded s line low falls times recorded.1))

-- the edges of a transaction that are recorded at these times
abbrev pub edges_at : ℕ → ℕ → ℕ → ℕ → List ℕ → List Edge
edges_at line low fall rise times = edge_at line fall false ∷ edge_at line rise true ∷ falls_with_rises line low times

pub transaction-recorded : (s : Settings) (line low : ℕ) (t : Transaction) (fall rise : ℕ) (times : List ℕ) → IsRecorded s.sent.jitter (trigger_in t).fall fall → IsRecorded s.sent.jitter (trigger_in t).rise rise
    → AreRecorded s.sent.jitter (falls_in s t) times → AllRecordedAs s (edges_sent s t) (edges_at line low fall rise times)
unfolding falls_in pulses_at
transaction-recorded s line low (Answered trigger answer) fall rise times at_fall at_rise recorded =
    ((refl, at_fall), tt, ((refl, at_rise), answer-quiet s rise (answer_falls s answer), answers-recorded s line low (answer_falls s answer) times recorded))
transaction-recorded s line low (Unanswered trigger) fall rise [] at_fall at_rise recorded = ((refl, at_fall), tt, ((refl, at_rise), tt, tt))
transaction-recorded s line low (Unanswered trigger) fall rise (time ∷ times) at_fall at_rise recorded = absurd recorded

-- ---- orderly edges
-- the falls of an answer come behind the trigger's rise
answer-spaced : (jitter low before rise start : ℕ) (pulses times : List ℕ) → LeaveRoom jitter low pulses → AreRecorded jitter (start ∷ falls_behind start pulses) times → IsRecorded jitter rise before → rise + 2000 * jitter ≤ start
    → start + sum pulses ≤ 9 * 10 ^ 17 → jitter + low ≤ 10 ^ 13 → AreSpaced low before times
answer-spaced jitter low before rise start pulses [] room recorded at_rise behind in_time short = absurd recorded
answer-spaced jitter low before rise start pulses (time ∷ times) room recorded at_rise behind in_time short =
    let here = recorded.0 in
    (omega arith, omega arith, spaced jitter low (time + low) start pulses times room recorded.1 (record { not_late = omega arith }) in_time short)

answer-last : (line jitter low before start : ℕ) (pulses times : List ℕ) → AreRecorded jitter (start ∷ falls_behind start pulses) times → IsBehind jitter low (start + sum pulses) (last_time before (falls_with_rises line low times))
unfolding pulses_at
answer-last line jitter low before start pulses [] recorded = absurd recorded
answer-last line jitter low before start pulses (time ∷ times) recorded =
    let here = recorded.0 in
    pulses-last line false jitter low (time + low) start pulses times recorded.1 (record { not_late = omega arith })

-- edges of the line so far, behind which a trigger may fall at this time: orderly, the line is high, the quiet time is over, and they aren't too many
pub record IsReady (s : Settings) (line : ℕ) (edges : List Edge) (next : ℕ) : Type 0 where
  pub time : ℕ
  pub levels : ℕ → Option Bool
  pub so_far : IsSoFar (line ∷ []) edges time levels
  pub high : levels line ≡ Some true
  pub quiet : IsQuiet s time next
  pub few : 1000000 * length edges ≤ next

pub opening-ready : (s : Settings) (line : ℕ) → InRange s.sent.tick s.sent.jitter s.sent.nibbles → IsReady s line (edge_at line 0 true ∷ []) (first_trigger s)
unfolding IsOrderlyFrom
opening-ready s line range = record {
  time = 0;
  levels = levels_with (λ _. None) line true;
  so_far = more_so_far (line ∷ []) [] (edge_at line 0 true ∷ []) 0 (λ _. None) (none_so_far (line ∷ []))
      (record { on_a_line = has-line line; numbered = omega arith; not_earlier = omega arith; in_range = omega arith; alternates = tt }, tt);
  high = level-here (λ _. None) line true;
  quiet = record { quiet = omega arith };
  few = omega arith;
}

-- behind more edges that are orderly
module _ (s : Settings) (line : ℕ) (range : InRange s.sent.tick s.sent.jitter s.sent.nibbles) (edges : List Edge) (next : ℕ) (ready : IsReady s line edges next) where
  -- of a trigger and falls behind it
  pub edges-ready : (fall rise later : ℕ) (times : List ℕ) → ready.time ≤ fall → fall ≤ rise → rise ≤ 10 ^ 15 → AreSpaced (4 * s.sent.tick) rise times → length edges + 2 + 2 * length times ≤ 2 ^ 40
      → 1000000 * (length edges + 2 + 2 * length times) ≤ later → IsQuiet s (last_time rise (falls_with_rises line (4 * s.sent.tick) times)) later → IsReady s line (edges ++ edges_at line (4 * s.sent.tick) fall rise times) later
  unfolding IsOrderlyFrom
  edges-ready fall rise later times begins rises in_range apart few room quiet =
      let low = 4 * s.sent.tick in
      let falling = levels_with ready.levels line false in
      let rising = levels_with falling line true in
      let new = edges_at line low fall rise times in
      let lengths : length (edges ++ new) ≡ length edges + 2 + 2 * length times = length-append edges new ∙ omega (arith, length-edges line false low times) in
      record {
        time = last_time ready.time new;
        levels = levels_behind ready.levels new;
        so_far = more_so_far (line ∷ []) edges new ready.time ready.levels ready.so_far (
          record { on_a_line = has-line line; numbered = omega arith; not_earlier = begins; in_range = omega arith; alternates = alternates (ready.levels line) true false ready.high (λ e. false≢true (sym e)) },
          (
            record { on_a_line = has-line line; numbered = omega arith; not_earlier = rises; in_range = in_range; alternates = alternates (falling line) false true (level-here ready.levels line false) false≢true },
            pulses-orderly (line ∷ []) line false low (has-line line) (length edges + 1 + 1) rise rising times (level-here falling line true) (omega arith) apart,
          ),
        );
        high = pulses-level line false low rising times (level-here falling line true);
        quiet = quiet;
        few = omega (arith, lengths);
      }

  -- of a trigger that nobody answers
  unanswered-ready : (trigger : Trigger) (first second : ℕ) (drawn : List ℕ) → IsSent s (Unanswered trigger) → trigger.fall ≡ next → trigger.rise ≤ 9 * 10 ^ 17
      → IsReady s line (edges ++ edges_at line (4 * s.sent.tick) (recorded_at s.sent.jitter trigger.fall first) (recorded_at s.sent.jitter trigger.rise second) (recorded_by s.sent.jitter (falls_in s (Unanswered trigger)) drawn)) (next_trigger s (Unanswered trigger))
  unfolding falls_in recorded_by next_trigger pulses_at
  unanswered-ready trigger first second drawn sent fall_is in_time =
      let at_fall = recorded-near s.sent.jitter trigger.fall first range.jitter_low in
      let at_rise = recorded-near s.sent.jitter trigger.rise second range.jitter_low in
      let width = sent.trigger.width.not_too_short in
      edges-ready (recorded_at s.sent.jitter trigger.fall first) (recorded_at s.sent.jitter trigger.rise second) (next_trigger s (Unanswered trigger)) [] (omega (arith, ready.quiet)) (omega arith) (omega arith) tt (omega (arith, ready.few)) (omega (arith, ready.few)) (record { quiet = omega arith })

  -- of one that is answered
  answered-ready : (trigger : Trigger) (answer : SentAnswer) (first second : ℕ) (drawn : List ℕ) → IsSent s (Answered trigger answer) → trigger.fall ≡ next → ends_at s (Answered trigger answer) ≤ 9 * 10 ^ 17
      → length drawn ≡ length (falls_in s (Answered trigger answer))
      → IsReady s line (edges ++ edges_at line (4 * s.sent.tick) (recorded_at s.sent.jitter trigger.fall first) (recorded_at s.sent.jitter trigger.rise second) (recorded_by s.sent.jitter (falls_in s (Answered trigger answer)) drawn)) (next_trigger s (Answered trigger answer))
  unfolding falls_in next_trigger
  answered-ready trigger answer first second drawn sent fall_is ends as_many =
      let low = 4 * s.sent.tick in
      let pulses = pulses_sent s answer in
      let at_fall = recorded-near s.sent.jitter trigger.fall first range.jitter_low in
      let at_rise = recorded-near s.sent.jitter trigger.rise second range.jitter_low in
      let width = sent.trigger.width.not_too_short in
      let delay = sent.answer.delay.not_too_short in
      let long = pulses-long s trigger answer sent.answer in
      let room : LeaveRoom s.sent.jitter low pulses = All-weaker (λ pulse. 12 * (798 * s.sent.tick) ≤ pulse) (λ pulse. 1000 * low + 2000 * s.sent.jitter ≤ pulse) (λ pulse long. omega arith) pulses long in
      let many = many-long (12 * (798 * s.sent.tick)) pulses long in
      let least = mul-le (length pulses) 2000000 (length pulses) (12 * (798 * s.sent.tick)) (omega arith) (omega arith) in
      let last : ends_at s (Answered trigger answer) ≡ answer.start + sum pulses = last-falls answer.start pulses in
      let recorded : AreRecorded s.sent.jitter (answer_falls s answer) (recorded_by s.sent.jitter (answer_falls s answer) drawn) = are_recorded s.sent.jitter (answer_falls s answer) drawn range.jitter_low as_many in
      let times = recorded_by s.sent.jitter (answer_falls s answer) drawn in
      let count : length times ≡ suc (length pulses) = length-recorded s.sent.jitter (answer_falls s answer) drawn as_many ∙ ap suc (length-falls answer.start pulses) in
      let rise = recorded_at s.sent.jitter trigger.rise second in
      let apart = answer-spaced s.sent.jitter low rise trigger.rise answer.start pulses times room recorded at_rise (omega arith) (omega (arith, last)) (omega arith) in
      let behind = answer-last line s.sent.jitter low rise answer.start pulses times recorded in
      edges-ready (recorded_at s.sent.jitter trigger.fall first) rise (next_trigger s (Answered trigger answer)) times (omega (arith, ready.quiet)) (omega arith) (omega (arith, last)) apart
      (omega (arith, ready.few, count, many, least, last)) (omega (arith, ready.few, count, many, least, last)) (record { quiet = omega (arith, behind, last) })

  pub transaction-ready : (t : Transaction) (first second : ℕ) (drawn : List ℕ) → IsSent s t → (trigger_in t).fall ≡ next → ends_at s t ≤ 9 * 10 ^ 17 → length drawn ≡ length (falls_in s t)
      → IsReady s line (edges ++ edges_at line (4 * s.sent.tick) (recorded_at s.sent.jitter (trigger_in t).fall first) (recorded_at s.sent.jitter (trigger_in t).rise second) (recorded_by s.sent.jitter (falls_in s t) drawn)) (next_trigger s t)
  transaction-ready (Answered trigger answer) first second drawn sent fall_is ends as_many = answered-ready trigger answer first second drawn sent fall_is ends as_many
  transaction-ready (Unanswered trigger) first second drawn sent fall_is ends as_many = unanswered-ready trigger first second drawn sent fall_is ends

-- The answers of a script are heard.
--     starts-run        the first trigger that a simulator sends falls after quiet behind the opening
--     none-missing      and none of its edges is missing
--     heard-all         so all transactions are heard
--     answers-good      of which each has its report, where each is answered
--     answers-heard
use Rattle.std.proofs.Common.{◌≡◌, ℕ, ◌+◌, ◌-◌, ◌*◌, true, None, List, [], ◌∷◌, ◌++◌, length, drop, flat_map, refl, ap, sym, subst, ◌∙◌, if◌then◌else◌, arith}
use Rattle.std.proofs.lemmas.Bool.{false≢true}
use Rattle.line_base.specs.Edges.{NumberedEdge}
use Rattle.line_base.specs.declared.edge.Edge.{Edge}
use Rattle.sent_frame.specs.Setup as frame
use Rattle.spc_link.specs.Setup.{Settings, fault_of}
use Rattle.spc_link.specs.declared.step.SpcStep.{SpcStep}
use Rattle.spc_tolerance.specs.Trains.{SpcMessage, ideal_edges}
use Rattle.spc_tolerance.specs.Traces.{AreRecordedAs}
use Rattle.spc_tolerance.specs.FromFirst.{all_edges, begins_quietly, edge_count, heard_from, heard_of, number_at, steps_from, whole_count}
use Rattle.spc_tolerance.proofs.EdgeCounts.{length_ideal, train-alternates, whole_recorded}
use Rattle.receiver_core.specs.declared.message.Message.{Message}
use Rattle.receiver_core.specs.declared.message.Message.TheVariants as message
use Rattle.receiver_core.specs.declared.report.What.TheVariants as what
use Rattle.receiver_core.specs.declared.setup.ChannelSetup.TheVariants.{Spc}
use Rattle.receiver_core.specs.SentReports.{report}
use Rattle.receiver_core.specs.SpcReports.{answer_report}
use Rattle.receiver_core.specs.SpcTraces.{spc_from_first, spc_message_in}
use Rattle.receiver_core.specs.Traces.{numbered}
use Rattle.sim_base.specs.Runs.{HasRun, NotYet, OneMore}
use Rattle.spc_sim.specs.SpcSims.{spc_next, started}
use Rattle.spc_sim.specs.SpcStates.{SpcState}
use Rattle.sensor_sim.specs.declared.sim.Sim.TheVariants as sim
use Rattle.sensor_sim.specs.Sims.{IsAccepted}
use Rattle.sensor_sim.specs.Transactions.{FallsAfterQuiet, IsWholeTrace}
use Rattle.sensor_sim.proofs.HonestRuns.{spc-sends}
use Rattle.sensor_sim.proofs.LinkRuns.{link-run}
use Rattle.sensor_sim.proofs.SpcCalls.{spc-call, whole-trace}
use Rattle.sensor_script.specs.Scripts.{ScriptState, next_by, script_from, spc_next as scripted_next}
use Rattle.scripts_heard.specs.AllGood.{AllGood}
use Rattle.sensor_script.specs.Counted.{counted_of, first_messages}
use Rattle.scripts_heard.specs.Heard.{AreHeard}
use Rattle.scripts_heard.proofs.AddedReports.{added-good, none-good, one-good}
use Rattle.scripts_heard.proofs.ScriptedMessages.{EachIs, counted-more, each-scripted}

-- ---- the first trigger
-- no edge was sent where no message was, and else the second of the edges is a fall after quiet
abbrev StartsQuietly : Settings → List Message → List Edge → Type 0
StartsQuietly s [] edges = edges ≡ []
StartsQuietly s (m ∷ messages) edges = begins_quietly s (numbered 0 edges) ≡ true

-- the edges of a first call begin quietly
quiet-first : (s : Settings) (more : List Edge) → FallsAfterQuiet s [] more → begins_quietly s (numbered 0 more) ≡ true
unfolding numbered
quiet-first s [] falls = absurd falls
quiet-first s (opening ∷ []) falls = absurd falls
quiet-first s (opening ∷ fall ∷ more) falls = falls

-- and so do they with more edges behind them
quiet-later : (s : Settings) (edges more : List Edge) → begins_quietly s (numbered 0 edges) ≡ true → begins_quietly s (numbered 0 (edges ++ more)) ≡ true
unfolding numbered
quiet-later s [] more quiet = absurd (false≢true quiet)
quiet-later s (opening ∷ []) more quiet = absurd (false≢true quiet)
quiet-later s (opening ∷ fall ∷ edges) more quiet = quiet

-- with one call more they begin quietly
starts-push : (s : Settings) (messages : List Message) (edges more : List Edge) (m : Message) → StartsQuietly s messages edges → FallsAfterQuiet s edges more → StartsQuietly s (messages ++ m ∷ []) (edges ++ more)
starts-push s [] edges more m none falls =
    subst (λ (l : List Edge). begins_quietly s (numbered 0 (l ++ more)) ≡ true) (sym none) (quiet-first s more (subst (λ (l : List Edge). FallsAfterQuiet s l more) none falls))
starts-push s (first ∷ messages) edges more m quiet falls = quiet-later s edges more quiet

module _ (line : ℕ) (s : Settings) (accepted : fault_of s.sent s.windows s.delay s.quiet ≡ None) (frame_accepted : frame.fault_of s.sent.tick s.sent.jitter s.sent.nibbles ≡ None) where
  -- the edges of each simulator that has run begin quietly
  starts-run : (state : SpcState) (messages : List Message) (edges : List Edge) → HasRun SpcState spc_next (started line s) state messages edges → StartsQuietly s messages edges
  starts-run _ _ _ NotYet = refl
  starts-run _ _ _ (OneMore {state} {behind} {messages} {edges} {more} run m g later same) =
      starts-push s messages edges more m (starts-run state messages edges run) (spc-call line s accepted frame_accepted state messages edges run m g more behind later same).0

-- ---- all transactions
-- no edge of a whole trace is missing
none-missing : (s : Settings) (messages : List Message) (edges : List NumberedEdge) → IsWholeTrace s messages edges → begins_quietly s edges ≡ true → all_edges s (flat_map spc_message_in messages) - whole_count (drop 1 edges) ≡ 0
none-missing s messages [] whole quiet = absurd (false≢true quiet)
none-missing s messages (opening ∷ []) whole quiet = absurd (false≢true quiet)
none-missing s messages (opening ∷ fall ∷ edges) whole quiet =
    let honest = whole.0.honest in
    let ideals = ideal_edges s honest.train in
    let recorded : AreRecordedAs s ideals (fall ∷ edges) = subst (λ n. AreRecordedAs s (drop n ideals) (fall ∷ edges)) whole.1 honest.recorded in
    let sent : length ideals ≡ all_edges s (flat_map spc_message_in messages) = length_ideal s honest.train honest.sent ∙ ap (all_edges s) honest.says in
    let counted : length ideals ≡ whole_count (fall ∷ edges) = whole_recorded s ideals fall edges (train-alternates s honest.train) recorded in
    omega (arith, sent, counted)

-- where the first trigger falls after quiet, all transactions have their steps
from-quiet : (s : Settings) (messages : List SpcMessage) (edges : List NumberedEdge) → begins_quietly s edges ≡ true → heard_from s 0 messages edges ≡ steps_from s messages edges
unfolding heard_from steps_from
from-quiet s [] edges quiet = refl
from-quiet s (m ∷ messages) edges quiet = ap (λ b. if b then steps_from s (m ∷ messages) edges else heard_from s 0 messages (drop (edge_count s m) edges)) quiet

-- and where none of their edges is missing, all are heard
heard-all : (s : Settings) (messages : List SpcMessage) (edges : List NumberedEdge) → begins_quietly s edges ≡ true → all_edges s messages - whole_count (drop 1 edges) ≡ 0 → heard_of s messages edges ≡ steps_from s messages edges
unfolding heard_of
heard-all s messages edges quiet none = ap (λ n. heard_from s n messages edges) none ∙ from-quiet s messages edges quiet

-- ---- their reports
-- the message is an answer
abbrev IsAnswer : Message → Type 0
IsAnswer (message.Answer code frame) = Unit {0}
IsAnswer other = ⊥

-- each answer has its report
answers-good : (s : Settings) (messages : List Message) (edges : List NumberedEdge) → EachIs IsAnswer messages → AllGood (flat_map answer_report (steps_from s (flat_map spc_message_in messages) edges)) (counted_of messages)
unfolding steps_from
answers-good s [] edges are = none-good
answers-good s (message.Answer code frame ∷ messages) edges are =
    let first = report (number_at edges (2 * s.sent.nibbles + 9)) (what.Answer code frame) in
    let behind = drop (2 * s.sent.nibbles + 10) edges in
    let later = flat_map answer_report (steps_from s (flat_map spc_message_in messages) behind) in
    subst (AllGood (first ∷ later)) (sym (counted-more (message.Answer code frame) messages))
    (added-good (first ∷ []) later 1 (counted_of messages) (one-good first refl refl) (answers-good s messages behind are.1))
answers-good s (message.Frame frame ∷ messages) edges are = absurd are.0
answers-good s (message.Short id value ∷ messages) edges are = absurd are.0
answers-good s (message.Enhanced id value wide ∷ messages) edges are = absurd are.0
answers-good s (message.Silent code ∷ messages) edges are = absurd are.0
answers-good s (message.Sync ∷ messages) edges are = absurd are.0
answers-good s (message.Burst slot payload ∷ messages) edges are = absurd are.0
answers-good s (message.Down down ∷ messages) edges are = absurd are.0

-- so each is heard in a whole trace that begins quietly
whole-good : (s : Settings) (messages : List Message) (edges : List Edge) → EachIs IsAnswer messages → IsWholeTrace s messages (numbered 0 edges) → StartsQuietly s messages edges → AllGood (spc_from_first s messages (numbered 0 edges)) (counted_of messages)
unfolding heard_of heard_from
whole-good s [] edges are whole none = none-good
whole-good s (m ∷ messages) edges are whole quiet =
    let says = flat_map spc_message_in (m ∷ messages) in
    let all = heard-all s says (numbered 0 edges) quiet (none-missing s (m ∷ messages) (numbered 0 edges) whole quiet) in
    subst (λ (l : List SpcStep). AllGood (flat_map answer_report l) (counted_of (m ∷ messages))) (sym all) (answers-good s (m ∷ messages) (numbered 0 edges) are)

-- ---- of a script
-- a script for SPC gives answers
gives-answers : (line : ℕ) (s : Settings) (script : ScriptState) → IsAnswer (next_by script (Spc line s)).message
unfolding scripted_next
gives-answers line s script = tt

-- and keeps its setup
keeps-setup : (line : ℕ) (s : Settings) (script : ScriptState) → script.setup ≡ Spc line s → (next_by script (Spc line s)).script.setup ≡ Spc line s
unfolding scripted_next
keeps-setup line s script is = is

-- so all its messages are heard
pub answers-heard : (line : ℕ) (s : Settings) → IsAccepted (Spc line s) → AreHeard (Spc line s)
answers-heard line s accepted first count state edges run =
    let messages = first_messages (Spc line s) first count in
    let by = link-run SpcState sim.Spc spc_next spc-sends (started line s) state messages edges run in
    whole-good s messages edges (each-scripted IsAnswer (Spc line s) (gives-answers line s) (keeps-setup line s) count (script_from (Spc line s) first) refl)
    (whole-trace line s accepted.0 accepted.1 by.0 messages edges by.2) (starts-run line s accepted.0 accepted.1 by.0 messages edges by.2)

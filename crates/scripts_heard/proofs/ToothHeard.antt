-- The downlink frames of a script are heard.
--     goods-good          as many messages as have a gap have their reports
--     downlinks-heard
use Rattle.std.proofs.Common.{◌≡◌, ℕ, suc, ◌+◌, ◌-◌, ◌≤◌, Bool, true, false, List, [], ◌∷◌, ◌++◌, length, drop, flat_map, refl, ap, sym, subst, ◌∙◌, if◌then◌else◌, arith}
use Rattle.std.specs.Prelude.{nat_eq}
use Rattle.line_base.specs.declared.edge.Edge.{Edge}
use Rattle.psi5_downlink.specs.declared.down.Down.{Down}
use Rattle.psi5_downlink.specs.declared.down.Form.{Form}
use Rattle.psi5_downlink.specs.Rises.{Interval, intervals_of}
use Rattle.psi5_downlink.specs.Setup.{Settings}
use Rattle.psi5_downlink_tolerance.specs.FromFirst.{gap_count, good_behind, goods_in}
use Rattle.receiver_core.specs.declared.message.Message.{Message}
use Rattle.receiver_core.specs.declared.message.Message.TheVariants as message
use Rattle.receiver_core.specs.declared.setup.ChannelSetup.TheVariants.{Tooth}
use Rattle.receiver_core.specs.ToothReports.{down_report, rises_of}
use Rattle.receiver_core.specs.ToothTraces.{down_in, tooth_from_first}
use Rattle.receiver_core.specs.Traces.{numbered}
use Rattle.psi5_downlink_sim.specs.ToothSims.{started, tooth_next}
use Rattle.psi5_downlink_sim.specs.ToothStates.{ToothState}
use Rattle.sensor_sim.specs.declared.sim.Sim.TheVariants as sim
use Rattle.sensor_sim.specs.Sims.{IsAccepted}
use Rattle.sensor_sim.proofs.HonestRuns.{tooth-sends}
use Rattle.sensor_sim.proofs.LinkRuns.{link-run}
use Rattle.sensor_script.specs.Scripts.{ScriptState, next_by, script_from, tooth_next as scripted_next}
use Rattle.scripts_heard.specs.AllGood.{AllGood}
use Rattle.sensor_script.specs.Counted.{counted_of, first_messages}
use Rattle.scripts_heard.specs.Heard.{AreHeard}
use Rattle.scripts_heard.proofs.AddedReports.{added-good, none-good, one-good}
use Rattle.scripts_heard.proofs.ScriptedMessages.{EachIs, counted-more, each-scripted}
use Rattle.scripts_heard.proofs.ToothGaps.{gaps-run}

-- ---- reports
-- one and a number
one-more : (count : ℕ) → 1 + count ≡ suc count
one-more count = omega arith

-- the reports of these messages are good
abbrev AreGood : Form → List Down → List Interval → Type 0
AreGood form downs intervals = AllGood (flat_map down_report (goods_in form downs intervals)) (length downs)

-- a message has its report where its gap is, by whether the interval is one
good-gap : (form : Form) (down : Down) (downs : List Down) (interval : Interval) (intervals : List Interval) (gap : Bool) → suc (length downs) ≤ (if gap then suc (gap_count intervals) else gap_count intervals)
    → (length downs ≤ gap_count intervals → AreGood form downs intervals) → (suc (length downs) ≤ gap_count intervals → AreGood form (down ∷ downs) intervals)
    → AllGood (flat_map down_report (if gap then good_behind form down interval intervals ∷ goods_in form downs intervals else goods_in form (down ∷ downs) intervals)) (suc (length downs))
good-gap form down downs interval intervals true few here later =
    let first = down_report (good_behind form down interval intervals) in
    let later = flat_map down_report (goods_in form downs intervals) in
    subst (AllGood (first ++ later)) (one-more (length downs)) (added-good first later 1 (length downs) (one-good _ refl refl) (here (omega (arith, few))))
good-gap form down downs interval intervals false few here later = later few

-- messages have their reports where there are as many gaps
goods-good : (form : Form) (downs : List Down) (intervals : List Interval) → length downs ≤ gap_count intervals → AreGood form downs intervals
unfolding goods_in gap_count
goods-good form [] intervals few = none-good
goods-good form (down ∷ downs) [] few = absurd (omega (arith, few))
goods-good form (down ∷ downs) (interval ∷ intervals) few =
    good-gap form down downs interval intervals (nat_eq interval.periods 6) few (λ enough. goods-good form downs intervals enough) (λ enough. goods-good form (down ∷ downs) intervals enough)

-- ---- messages
-- the message is a downlink frame
abbrev IsDown : Message → Type 0
IsDown (message.Down down) = Unit {0}
IsDown other = ⊥

-- as many messages are counted as downlink frames
downs-counted : (messages : List Message) → EachIs IsDown messages → length (flat_map down_in messages) ≡ counted_of messages
downs-counted [] are = refl
downs-counted (message.Down down ∷ messages) are = ap suc (downs-counted messages are.1) ∙ sym (one-more (counted_of messages)) ∙ sym (counted-more (message.Down down) messages)
downs-counted (message.Frame frame ∷ messages) are = absurd are.0
downs-counted (message.Short id value ∷ messages) are = absurd are.0
downs-counted (message.Enhanced id value wide ∷ messages) are = absurd are.0
downs-counted (message.Answer code frame ∷ messages) are = absurd are.0
downs-counted (message.Silent code ∷ messages) are = absurd are.0
downs-counted (message.Sync ∷ messages) are = absurd are.0
downs-counted (message.Burst slot payload ∷ messages) are = absurd are.0

-- where there are as many gaps as messages, all are good
rises-good : (s : Settings) (messages : List Message) (edges : List Edge) → EachIs IsDown messages → length (flat_map down_in messages) ≤ gap_count (intervals_of s.period (rises_of (numbered 0 edges)))
    → AllGood (tooth_from_first s messages (numbered 0 edges)) (counted_of messages)
rises-good s messages edges are enough =
    let downs = flat_map down_in messages in
    let intervals = intervals_of s.period (rises_of (numbered 0 edges)) in
    let none : length downs - gap_count intervals ≡ 0 = omega (arith, enough) in
    subst (AllGood (tooth_from_first s messages (numbered 0 edges))) (downs-counted messages are)
    (subst (λ n. AllGood (flat_map down_report (goods_in s.form (drop n downs) intervals)) (length downs)) (sym none) (goods-good s.form downs intervals enough))

-- ---- of a script
-- a script for the tooth gap gives downlink frames
gives-downs : (line : ℕ) (s : Settings) (script : ScriptState) → IsDown (next_by script (Tooth line s)).message
unfolding scripted_next
gives-downs line s script = tt

-- and keeps its setup
keeps-setup : (line : ℕ) (s : Settings) (script : ScriptState) → script.setup ≡ Tooth line s → (next_by script (Tooth line s)).script.setup ≡ Tooth line s
unfolding scripted_next
keeps-setup line s script is = is

-- so all its messages are heard
pub downlinks-heard : (line : ℕ) (s : Settings) → IsAccepted (Tooth line s) → AreHeard (Tooth line s)
downlinks-heard line s accepted first count state edges run =
    let messages = first_messages (Tooth line s) first count in
    let by = link-run ToothState sim.Tooth tooth_next tooth-sends (started line s) state messages edges run in
    rises-good s messages edges (each-scripted IsDown (Tooth line s) (gives-downs line s) (keeps-setup line s) count (script_from (Tooth line s) first) refl) (gaps-run line s accepted by.0 messages edges by.2)

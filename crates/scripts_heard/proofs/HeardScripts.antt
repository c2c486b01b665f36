-- A script's messages are all heard.
--     script-is, script-counts      the messages up to a counted one are the first messages, and so many of them are counted
--     all-heard                     of what is played of them all is heard
use Rattle.std.proofs.Common.{◌≡◌, ℕ, zero, suc, ◌+◌, Bool, true, false, if◌then◌else◌, None, List, ◌∷◌, length, map, refl, ap, sym, subst, ◌∙◌, arith}
use Rattle.std.proofs.lemmas.List.Sums.{sum_by-cons}
use Rattle.rand_pcg.specs.Lcg.{Lcg}
use Rattle.line_base.specs.declared.edge.Item.TheVariants as item
use Rattle.receiver_core.specs.declared.message.Message.{Message}
use Rattle.receiver_core.specs.declared.setup.ChannelSetup.{ChannelSetup}
use Rattle.receiver_core.specs.Channels.{final}
use Rattle.receiver_core.specs.Setups.{setup_fault_of}
use Rattle.receiver_core.specs.Traces.{from_first}
use Rattle.receiver_core.proofs.Traces.{honest-final}
use Rattle.sim_base.specs.Runs.{HasRun}
use Rattle.sensor_sim.specs.Played.{accepted, played, refusal, wobble_of}
use Rattle.sensor_sim.specs.Sims.{IsAccepted, SimState, sim_next, started_by}
use Rattle.sensor_sim.proofs.HonestRuns.{run-honest}
use Rattle.sensor_sim.proofs.PlayedMessages.{played-all, played-run}
use Rattle.sensor_script.specs.Scripts.{ScriptState, script_from, script_next}
use Rattle.scripts_heard.specs.AllGood.{AllGood}
use Rattle.sensor_script.specs.Counted.{counted_of, first_messages, is_counted, script_messages}
use Rattle.scripts_heard.specs.Heard.{AreHeard}
use Rattle.sensor_script.specs.Scripted.{AsMany, Enough, IsScripted, OneFewer}

-- messages up to a counted one are the first messages of the script
pub script-is : (script : ScriptState) (count : ℕ) (messages : List Message) → IsScripted script count messages → messages ≡ script_messages script (length messages)
unfolding script_messages
script-is script zero messages Enough = refl
script-is script (suc count) messages (OneFewer {messages = rest} one scripted) = ap (λ l. (script_next script).message ∷ l) (script-is (script_next script).script count rest scripted)
script-is script (suc count) messages (AsMany {messages = rest} none scripted) = ap (λ l. (script_next script).message ∷ l) (script-is (script_next script).script (suc count) rest scripted)

-- a message in front of others counts by what it is
counts-cons : (m : Message) (messages : List Message) (is : Bool) → is_counted m ≡ is → counted_of (m ∷ messages) ≡ (if is then 1 else 0) + counted_of messages
counts-cons m messages is same = sum_by-cons (λ (x : Message). if is_counted x then 1 else 0) m messages ∙ ap (λ b. (if b then 1 else 0) + counted_of messages) same

-- and so many of them are counted
pub script-counts : (script : ScriptState) (count : ℕ) (messages : List Message) → IsScripted script count messages → counted_of messages ≡ count
script-counts script zero messages Enough = refl
script-counts script (suc count) messages (OneFewer {messages = rest} one scripted) =
    omega (arith, counts-cons (script_next script).message rest true one, script-counts (script_next script).script count rest scripted)
script-counts script (suc count) messages (AsMany {messages = rest} none scripted) =
    omega (arith, counts-cons (script_next script).message rest false none, script-counts (script_next script).script (suc count) rest scripted)

-- of what is played of messages that are accepted all is heard, where all messages of a script are
pub all-heard : (setup : ChannelSetup) (first : Lcg) (seed count : ℕ) (messages : List Message) → IsAccepted setup → setup_fault_of setup ≡ None → AreHeard setup → IsScripted (script_from setup first) count messages
    → refusal setup seed messages ≡ None → AllGood (final setup (map item.Edge (played setup seed messages))) count
all-heard setup first seed count messages is_accepted no_fault heard scripted none =
    let all : accepted setup seed messages ≡ messages = played-all 0 (started_by setup) (wobble_of seed) messages none in
    let ran = played-run (started_by setup) (wobble_of seed) messages in
    let run : HasRun SimState sim_next (started_by setup) ran.0 messages (played setup seed messages) = subst (λ l. HasRun SimState sim_next (started_by setup) ran.0 l (played setup seed messages)) all ran.1 in
    let read : final setup (map item.Edge (played setup seed messages)) ≡ from_first setup messages (played setup seed messages) =
    honest-final setup messages (played setup seed messages) (run-honest setup ran.0 messages (played setup seed messages) is_accepted no_fault run) in
    let is : messages ≡ first_messages setup first (length messages) = script-is (script_from setup first) count messages scripted in
    let good : AllGood (from_first setup messages (played setup seed messages)) (counted_of messages) =
    subst (λ l. AllGood (from_first setup l (played setup seed messages)) (counted_of l)) (sym is)
    (heard first (length messages) ran.0 (played setup seed messages) (subst (λ l. HasRun SimState sim_next (started_by setup) ran.0 l (played setup seed messages)) is run)) in
    subst (λ n. AllGood (final setup (map item.Edge (played setup seed messages))) n) (script-counts (script_from setup first) count messages scripted)
    (subst (λ l. AllGood l (counted_of messages)) (sym read) good)

-- The line that is written is the line of the loop's edges.
use Rattle.std.proofs.Common.{◌≡◌, ℕ, List, length, map, refl, ap, sym, subst, ◌∙◌, Option, None}
use Rattle.line_base.specs.Thinned.{thinned}
use Rattle.line_base.specs.declared.edge.Edge.{Edge}
use Rattle.line_base.specs.declared.edge.Item.TheVariants as item
use Rattle.line_base.specs.declared.reason.Reason.{Reason}
use Rattle.receiver_core.specs.declared.message.Message.{Message}
use Rattle.receiver_core.specs.declared.setup.ChannelSetup.{ChannelSetup}
use Rattle.receiver_core.specs.declared.tally.Tally.{Tally}
use Rattle.receiver_core.specs.Channels.{final}
use Rattle.sensor_sim.specs.Played.{played, refusal}
use Rattle.scripts_heard.specs.AllGood.{AllGood}
use Rattle.sensor_script.specs.Scripted.{IsScripted}
use Rattle.receiver_core.specs.Tallies.{tally_of}
use Rattle.loop_command.specs.Ended.{LoopEnded, Wrote}
use Rattle.loop_command.specs.Loops.{last_time, line_of_edges, loop_line, script_of}
use Rattle.loop_command.specs.LostRuns.{lost_runs}
use Rattle.loop_command.specs.Running.{AreOfLoop}

line-same : (count edges last edges' last' : ℕ) (all gaps all' gaps' : Tally) → all.good ≡ all'.good → all.bad ≡ all'.bad → edges ≡ edges' → last ≡ last' → gaps.good ≡ gaps'.good → gaps.bad ≡ gaps'.bad
    → loop_line count all edges last gaps ≡ loop_line count all' edges' last' gaps'
unfolding loop_line
line-same count edges last edges' last' all gaps all' gaps' a b c d e f = rw (a, b, c, d, e, f) refl

-- listeners that have counted all tell the line of their edges
pub line-of : (count : ℕ) (setup : ChannelSetup) (edges : List Edge) (all gaps : Tally) (number last : ℕ) → all ≡ tally_of (final setup (map item.Edge edges)) → gaps ≡ tally_of (final setup (thinned edges (lost_runs (length edges))))
    → number ≡ length edges → last ≡ last_time edges → loop_line count all number last gaps ≡ line_of_edges setup count edges
line-of count setup edges all gaps number last every thin long late = line-same count number last (length edges) (last_time edges) all gaps _ _ (ap (λ (t : Tally). t.good) every) (ap (λ (t : Tally). t.bad) every) long late (ap (λ (t : Tally). t.good) thin) (ap (λ (t : Tally). t.bad) thin)

-- so a loop that has written it, or a front of it, has ended
pub ended-with : (seed count : ℕ) (setup : ChannelSetup) (why : Reason) (got got' : Option (List ℕ)) (edges : List Edge) (line : List ℕ) → AreOfLoop seed count setup edges
    → ((messages : List Message) → IsScripted (script_of seed setup) count messages → refusal setup seed messages ≡ None)
    → ((messages : List Message) → IsScripted (script_of seed setup) count messages → AllGood (final setup (map item.Edge (played setup seed messages))) count) → line ≡ line_of_edges setup count edges → Wrote why got got' line
    → LoopEnded seed count setup why got got'
ended-with seed count setup why got got' edges line are sent heard is wrote = record {
  messages = are.messages;
  scripted = are.scripted;
  sent = sent are.messages are.scripted;
  heard = heard are.messages are.scripted;
  wrote = subst (Wrote why got got') (is ∙ ap (line_of_edges setup count) (sym are.are)) wrote;
}

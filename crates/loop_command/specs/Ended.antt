-- How a loop ended; this project's own.
use Rattle.std.specs.Prelude.{◌≡◌, ℕ, List, Option, None, map}
use Rattle.std.specs.Io.KnownBytes.{Appends}
use Rattle.line_base.specs.Streams.{AppendsFront}
use Rattle.line_base.specs.declared.edge.Item.TheVariants as item
use Rattle.line_base.specs.declared.reason.Reason.{Reason}
use Rattle.line_base.specs.declared.reason.Reason.TheVariants as reason
use Rattle.receiver_core.specs.declared.message.Message.{Message}
use Rattle.receiver_core.specs.declared.setup.ChannelSetup.{ChannelSetup}
use Rattle.receiver_core.specs.Channels.{final}
use Rattle.sensor_sim.specs.Played.{played, refusal}
use Rattle.loop_command.specs.Loops.{line_of_edges, script_of}
use Rattle.scripts_heard.specs.AllGood.{AllGood}
use Rattle.sensor_script.specs.Scripted.{IsScripted}

-- a reason that a loop has: it has put its line, or the put failed
abbrev pub IsOfLoop : Reason → Type 0
IsOfLoop reason.Clean = Unit {0}
IsOfLoop (reason.WriteFault None) = Unit {0}
IsOfLoop _ = ⊥

-- how a put of this line ended, by the reason: the line was written, or some front of it
abbrev pub Wrote : Reason → Option (List ℕ) → Option (List ℕ) → List ℕ → Type 0
Wrote reason.Clean got got' line = Appends got got' line
Wrote (reason.WriteFault None) got got' line = AppendsFront got got' line
Wrote _ got got' line = ⊥

-- a loop with this seed over so many counted messages ended so: each of the script's messages was accepted, and of the edges that are played of them a receiver counts as many good reports as there are counted messages and no bad one; and their line was written, or some front of it
pub record LoopEnded (seed count : ℕ) (setup : ChannelSetup) (why : Reason) (got got' : Option (List ℕ)) : Type 0 where
  pub messages : List Message
  pub scripted : IsScripted (script_of seed setup) count messages
  pub sent : refusal setup seed messages ≡ None
  pub heard : AllGood (final setup (map item.Edge (played setup seed messages))) count
  pub wrote : Wrote why got got' (line_of_edges setup count (played setup seed messages))

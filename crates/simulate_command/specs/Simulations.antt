-- What the simulation of a channel's sensor makes of message lines; this project's own.
use Rattle.std.specs.Prelude.{ℕ, false, Option, List, map}
use Rattle.std.specs.Io.KnownBytes.{Appends}
use Rattle.line_base.specs.Orderly.{IsOrderly}
use Rattle.line_base.specs.declared.edge.Item.TheVariants as Item
use Rattle.receiver_core.specs.Traces.{IsHonest}
use Rattle.line_base.specs.declared.edge.Edge.{Edge}
use Rattle.line_base.specs.declared.faults.LineFault.{LineFault}
use Rattle.receiver_core.specs.declared.message.Message.{Message}
use Rattle.receiver_core.specs.declared.setup.ChannelSetup.{ChannelSetup}
use Rattle.message_lines.specs.Inputs.{told_of, whole_told_of}
use Rattle.sensor_sim.specs.Sims.{started_by, lines_of}
use Rattle.sensor_sim.specs.Played.{played, wobble_of}
use Rattle.command_base.specs.Tasks.{Task}
use Rattle.simulate_command.specs.Rows.{rows_of}
use Rattle.simulate_command.specs.Playing.{fault_played, messages_told}

-- the messages of bytes behind which more may come, before the first line with a fault
unfoldable pub messages_of : ChannelSetup → List ℕ → List Message
messages_of setup bytes = messages_told (told_of setup bytes)

-- the same of these bytes and no more: an unfinished last line counts as ended
unfoldable pub whole_messages_of : ChannelSetup → List ℕ → List Message
whole_messages_of setup bytes = messages_told (whole_told_of setup bytes)

-- what the sensor plays of them with a wobble of this seed, up to the first message that it refuses
unfoldable pub edges_of : ChannelSetup → ℕ → List ℕ → List Edge
edges_of setup seed bytes = played setup seed (messages_of setup bytes)

-- the same of these bytes and no more
unfoldable pub whole_edges_of : ChannelSetup → ℕ → List ℕ → List Edge
whole_edges_of setup seed bytes = played setup seed (whole_messages_of setup bytes)

-- the first fault of bytes behind which more may come, with the number of its line: a line's own, or that its message is refused
unfoldable pub fault_of : ChannelSetup → ℕ → List ℕ → Option (ℕ × LineFault)
fault_of setup seed bytes = fault_played (started_by setup) (wobble_of seed) (told_of setup bytes)

-- the first fault of these bytes and no more
unfoldable pub whole_fault_of : ChannelSetup → ℕ → List ℕ → Option (ℕ × LineFault)
whole_fault_of setup seed bytes = fault_played (started_by setup) (wobble_of seed) (whole_told_of setup bytes)

-- the simulation of a channel's sensor by a seed: the rows of the edges are written, and nothing bad is reported
abbrev pub simulation : ChannelSetup → ℕ → Task
simulation setup seed = record {
  fault = fault_of setup seed;
  text = λ bytes. rows_of (edges_of setup seed bytes);
  whole_fault = whole_fault_of setup seed;
  whole_text = λ bytes. rows_of (whole_edges_of setup seed bytes);
  is_marked = λ bytes. false;
}

-- the output has grown by the rows of edges that are an honest trace of the messages of these bytes, and orderly for the channel's lines
pub record WroteHonest (setup : ChannelSetup) (bytes : List ℕ) (got got' : Option (List ℕ)) : Type 0 where
  pub edges : List Edge
  pub written : Appends got got' (rows_of edges)
  pub honest : IsHonest setup (whole_messages_of setup bytes) edges
  pub orderly : IsOrderly (lines_of setup) (map Item.Edge edges)

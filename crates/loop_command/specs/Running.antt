-- How far a loop has come; this project's own.
use Rattle.std.specs.Prelude.{◌≡◌, ℕ, ◌^◌, ◌≤◌, None, List, ◌++◌, length}
use Rattle.line_base.specs.declared.edge.Edge.{Edge}
use Rattle.receiver_core.specs.declared.message.Message.{Message}
use Rattle.receiver_core.specs.declared.setup.ChannelSetup.{ChannelSetup}
use Rattle.receiver_core.specs.Setups.{setup_fault_of}
use Rattle.sensor_sim.specs.Played.{played, played_from}
use Rattle.sensor_sim.specs.Sims.{IsAccepted, SimState, sim_next, started_by}
use Rattle.sim_base.specs.declared.sim_fault.SimFault.{SimFault}
use Rattle.sim_base.specs.Outcomes.{Refused, Sent}
use Rattle.sim_base.specs.Runs.{HasRun}
use Rattle.loop_command.specs.declared.channel.Channel.{Channel}
use Rattle.loop_command.specs.declared.script_loop.ScriptLoop.{ScriptLoop}
use Rattle.loop_command.specs.Listened.{HaveGot}
use Rattle.loop_command.specs.Loops.{script_of}
use Rattle.sensor_script.specs.Scripted.{IsScripted}

-- the channel's simulator has sent these edges of some messages, at most 2^40 of them, and the listeners have got them
pub record HasSent (channel : Channel) (setup : ChannelSetup) (edges : List Edge) : Type 0 where
  pub no_fault : setup_fault_of setup ≡ None
  pub accepted : IsAccepted setup
  pub messages : List Message
  pub ran : HasRun SimState sim_next (started_by setup) channel.sim messages edges
  pub few : length edges ≤ 2 ^ 40
  pub got : HaveGot channel.listeners setup edges

-- the channel sends a message behind these edges
pub record Sends (old new : Channel) (message : Message) (setup : ChannelSetup) (edges : List Edge) : Type 0 where
  pub more : List Edge
  pub next : sim_next old.sim message old.wobble ≡ Sent more new.sim new.wobble
  pub sent : HasSent new setup (edges ++ more)

-- the channel's simulator refuses a message behind these edges
pub record Refuses (old new : Channel) (message : Message) (setup : ChannelSetup) (edges : List Edge) : Type 0 where
  pub fault : SimFault
  pub next : sim_next old.sim message old.wobble ≡ Refused fault new.sim new.wobble
  pub few : length edges ≤ 2 ^ 40
  pub got : HaveGot new.listeners setup edges

-- these edges are what is played of the messages of a loop
pub record AreOfLoop (seed count : ℕ) (setup : ChannelSetup) (edges : List Edge) : Type 0 where
  pub messages : List Message
  pub scripted : IsScripted (script_of seed setup) count messages
  pub are : played setup seed messages ≡ edges

-- a loop has so many counted messages left: whichever messages its script still gives, the edges that were sent and those that are played of these messages are the loop's
pub record HasLeft (running : ScriptLoop) (seed count : ℕ) (setup : ChannelSetup) (left : ℕ) : Type 0 where
  pub edges : List Edge
  pub sent : HasSent running.channel setup edges
  pub goes_on : (rest : List Message) → IsScripted running.script left rest → AreOfLoop seed count setup (edges ++ played_from running.channel.sim running.channel.wobble rest)

-- a loop has sent all of its edges
pub record HasSentAll (running : ScriptLoop) (seed count : ℕ) (setup : ChannelSetup) : Type 0 where
  pub edges : List Edge
  pub few : length edges ≤ 2 ^ 40
  pub got : HaveGot running.channel.listeners setup edges
  pub are : AreOfLoop seed count setup edges

-- What a run of a simulation has taken, and what it says of more; this project's own.
use Rattle.std.specs.Prelude.{◌≡◌, ℕ, ◌<◌, ◌≤◌, All, Option, None, Some, Result, Ok, Err, List, ◌++◌, map}
use Rattle.rand_pcg.specs.Lcg.{Lcg}
use Rattle.line_base.specs.Orderly.{IsOrderly}
use Rattle.line_base.specs.declared.edge.Edge.{Edge}
use Rattle.line_base.specs.declared.edge.Item.TheVariants as Item
use Rattle.line_base.specs.declared.faults.LineFault.{LineFault}
use Rattle.text_lines.specs.Inputs.{Numbered}
use Rattle.receiver_core.specs.declared.message.Message.{Message}
use Rattle.receiver_core.specs.declared.setup.ChannelSetup.{ChannelSetup}
use Rattle.message_lines.specs.Inputs.{told_of}
use Rattle.message_lines.specs.Readers.{StandsFor}
use Rattle.sim_base.specs.Runs.{HasRun}
use Rattle.sensor_sim.specs.Sims.{SimState, sim_next, started_by, lines_of}
use Rattle.sensor_sim.specs.Played.{wobble_of}
use Rattle.line_base.specs.Causes.{Rose}
use Rattle.command_base.specs.Grown.{GrowsAlong, GrowsTowards}
use Rattle.command_base.specs.Tasks.{Task}
use Rattle.simulate_command.specs.declared.run.Run.{Run}
use Rattle.simulate_command.specs.declared.run.Stop.{Stop}
use Rattle.simulate_command.specs.declared.run.Stop.TheVariants as stop
use Rattle.simulate_command.specs.Rows.{rows_of}
use Rattle.simulate_command.specs.Simulations.{simulation}
use Rattle.simulate_command.specs.Playing.{edges_played, fault_played, messages_told}

-- from its first state and wobble a sensor has sent what these lines told, none of which had a fault, and has come to this state and wobble: of whatever is told behind them it sends what it sends from here
pub record Plays (first : SimState) (first_wobble : Lcg) (state : SimState) (g : Lcg) (told : List (Numbered Message)) : Type 0 where
  pub sound : fault_played first first_wobble told ≡ None
  pub edges_go_on : (more : List (Numbered Message)) → edges_played first first_wobble (told ++ more) ≡ edges_played first first_wobble told ++ edges_played state g more
  pub faults_go_on : (more : List (Numbered Message)) → fault_played first first_wobble (told ++ more) ≡ fault_played state g more
  pub ran : HasRun SimState sim_next first state (messages_told told) (edges_played first first_wobble told)

-- all that the simulator of this setup can send is orderly for its lines
abbrev pub SendsOrderly : ChannelSetup → Type 0
SendsOrderly setup = (state : SimState) (messages : List Message) (edges : List Edge) → HasRun SimState sim_next (started_by setup) state messages edges → IsOrderly (lines_of setup) (map Item.Edge edges)

-- the lines of this setup are lines that a row can tell
abbrev pub HasLowLines : ChannelSetup → Type 0
HasLowLines setup = All (λ line. line < 16) (lines_of setup)

-- a run of this channel's simulation by this seed has sent what these lines told, none of which had a fault
pub record HasSent (setup : ChannelSetup) (seed : ℕ) (run : Run) (told : List (Numbered Message)) : Type 0 where
  pub orderly : SendsOrderly setup
  pub low : HasLowLines setup
  pub plays : Plays (started_by setup) (wobble_of seed) run.sim run.wobble told

-- it has taken these bytes: its reader stands for them, and it has sent what their lines told
pub record Reads (setup : ChannelSetup) (seed : ℕ) (run : Run) (bytes : List ℕ) : Type 0 where
  pub lines : StandsFor setup run.reader bytes
  pub sent : HasSent setup seed run (told_of setup bytes)

-- a run of the simulation of some channel by some seed has taken these bytes, and has put their rows
abbrev pub HasPut : Task → Run → List ℕ → Type 0
HasPut task run bytes = (setup : ChannelSetup) × (seed : ℕ) × (task ≡ simulation setup seed) × Reads setup seed run bytes

-- the edges of what lines tell
abbrev pub edges_by : ChannelSetup → ℕ → List (Numbered Message) → List Edge
edges_by setup seed told = edges_played (started_by setup) (wobble_of seed) told

-- and their first fault
abbrev pub fault_by : ChannelSetup → ℕ → List (Numbered Message) → Option (ℕ × LineFault)
fault_by setup seed told = fault_played (started_by setup) (wobble_of seed) told

-- a run has sent what one line more told
pub record SentOne (setup : ChannelSetup) (seed : ℕ) (run : Run) (got got' : Option (List ℕ)) (before told : List (Numbered Message)) : Type 0 where
  pub sent : HasSent setup seed run told
  pub grows : GrowsAlong got got' (rows_of (edges_by setup seed before)) (rows_of (edges_by setup seed told))

-- why a run stopped at what was told: its message is refused, at the line of this number, and nothing more was written; or a front of its rows was
abbrev pub StoppedBy : ChannelSetup → ℕ → ℕ → Stop → Option (List ℕ) → Option (List ℕ) → List (Numbered Message) → List (Numbered Message) → Type 0
StoppedBy setup seed number (stop.Line fault) got got' before told = (fault_by setup seed told ≡ Some (number, fault)) × GrowsAlong got got' (rows_of (edges_by setup seed before)) (rows_of (edges_by setup seed told))
StoppedBy setup seed number stop.Put got got' before told = GrowsTowards got got' (rows_of (edges_by setup seed before)) (rows_of (edges_by setup seed told))

-- the output's count rose where a put failed, and else stood still
abbrev pub StopCounted : {A : Type 0} → Result A Stop → ℕ → ℕ → Type 0
StopCounted (Err stop.Put) before now = (before ≤ now) × Rose before now
StopCounted (Err (stop.Line fault)) before now = now ≡ before
StopCounted (Ok sent) before now = now ≡ before

-- a run took bytes up to a later list of bytes, and what was written grew along
pub record Took (setup : ChannelSetup) (seed : ℕ) (run : Run) (got got' : Option (List ℕ)) (earlier bytes : List ℕ) : Type 0 where
  pub reads : Reads setup seed run bytes
  pub grows : GrowsAlong got got' ((simulation setup seed).text earlier) ((simulation setup seed).text bytes)

-- A simulator that is handed the messages of a script; this project's own.
use Rattle.std.specs.Prelude.{◌≡◌, ℕ, ◌+◌, if◌then◌else◌, List}
use Rattle.rand_pcg.specs.Lcg.{Lcg}
use Rattle.line_base.specs.declared.edge.Edge.{Edge}
use Rattle.receiver_core.specs.declared.message.Message.{Message}
use Rattle.receiver_core.specs.declared.setup.ChannelSetup.{ChannelSetup}
use Rattle.sim_base.specs.Outcomes.{Sent}
use Rattle.sensor_sim.specs.Sims.{SimState, sim_next, started_by}
use Rattle.sensor_script.specs.Counted.{is_counted}
use Rattle.sensor_script.specs.Scripts.{ScriptState, script_from, script_next}

-- how much a message counts: one where it is counted, and else nothing
abbrev pub counted : Message → ℕ
counted message = if is_counted message then 1 else 0

-- a simulator of this setup was handed the messages of a script whose wobble was this at first, and has accepted each of them, one after the other and each with any wobble of its own: the script and the simulator have come to this, and the messages count so much together
pub data HasFollowed (setup : ChannelSetup) (first : Lcg) : ScriptState → SimState → ℕ → Type 0 where
  NotYet : HasFollowed setup first (script_from setup first) (started_by setup) 0
  OneMore : {script : ScriptState} {state behind : SimState} {count : ℕ} {edges : List Edge} → HasFollowed setup first script state count
      → (g later : Lcg) → sim_next state (script_next script).message g ≡ Sent edges behind later → HasFollowed setup first (script_next script).script behind (count + counted (script_next script).message)

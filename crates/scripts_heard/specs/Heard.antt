-- That a script's messages are all heard; this project's own.
use Rattle.std.specs.Prelude.{ℕ, List}
use Rattle.rand_pcg.specs.Lcg.{Lcg}
use Rattle.line_base.specs.declared.edge.Edge.{Edge}
use Rattle.receiver_core.specs.declared.setup.ChannelSetup.{ChannelSetup}
use Rattle.receiver_core.specs.Traces.{from_first}
use Rattle.sim_base.specs.Runs.{HasRun}
use Rattle.sensor_sim.specs.Sims.{SimState, sim_next, started_by}
use Rattle.sensor_script.specs.Counted.{counted_of, first_messages}
use Rattle.scripts_heard.specs.AllGood.{AllGood}

-- however many messages a script gives, and whichever edges a simulator of the same setup sends of exactly these, each with any wobble: of the reports that they have to give as many are good as messages are counted, and none is bad
abbrev pub AreHeard : ChannelSetup → Type 0
AreHeard setup =
    (first : Lcg) (count : ℕ) (state : SimState) (edges : List Edge) → HasRun SimState sim_next (started_by setup) state (first_messages setup first count) edges
    → AllGood (from_first setup (first_messages setup first count) edges) (counted_of (first_messages setup first count))

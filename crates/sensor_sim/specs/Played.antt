-- What one simulator plays of messages, with one wobble whose words it alone draws; this project's own.
use Rattle.std.specs.Prelude.{ℕ, suc, Option, None, Some, List, [], ◌∷◌, ◌++◌}
use Rattle.rand_core.specs.Pcg32Seed.{pcg32_seed}
use Rattle.rand_pcg.specs.Lcg.{Lcg}
use Rattle.rand_pcg.specs.Pcg.{pcg32_of_seed}
use Rattle.line_base.specs.declared.edge.Edge.{Edge}
use Rattle.receiver_core.specs.declared.message.Message.{Message}
use Rattle.receiver_core.specs.declared.setup.ChannelSetup.{ChannelSetup}
use Rattle.sim_base.specs.declared.sim_fault.SimFault.{SimFault}
use Rattle.sim_base.specs.Outcomes.{Outcome, Sent, Refused}
use Rattle.sensor_sim.specs.Sims.{SimState, sim_next, started_by}

-- a wobble that begins with this seed
abbrev pub wobble_of : ℕ → Lcg
wobble_of seed = pcg32_of_seed (pcg32_seed 16 seed)

-- the edges that a message sends, and those that come from the state behind it; none where it is refused
abbrev pub and_then : Outcome SimState → (SimState → Lcg → List Edge) → List Edge
and_then (Sent edges state g) later = edges ++ later state g
and_then (Refused fault state g) later = []

-- the edges of these messages, from this state on, up to the first that is refused
unfoldable pub played_from : SimState → Lcg → List Message → List Edge
played_from state g [] = []
played_from state g (m ∷ messages) = and_then (sim_next state m g) (λ behind later. played_from behind later messages)

-- a message, and those that are accepted from the state behind it; none where it is refused
abbrev pub accepted_then : Message → Outcome SimState → (SimState → Lcg → List Message) → List Message
accepted_then m (Sent edges state g) later = m ∷ later state g
accepted_then m (Refused fault state g) later = []

-- the messages that are accepted: those before the first that is refused
unfoldable pub accepted_from : SimState → Lcg → List Message → List Message
accepted_from state g [] = []
accepted_from state g (m ∷ messages) = accepted_then m (sim_next state m g) (λ behind later. accepted_from behind later messages)

-- the refusal of the message of this index, or the first one from the state behind it
abbrev pub refused_or : ℕ → Outcome SimState → (SimState → Lcg → Option (ℕ × SimFault)) → Option (ℕ × SimFault)
refused_or index (Sent edges state g) later = later state g
refused_or index (Refused fault state g) later = Some (index, fault)

-- the index of the first message that is refused, and why; the first message has this index
unfoldable pub refusal_from : ℕ → SimState → Lcg → List Message → Option (ℕ × SimFault)
refusal_from index state g [] = None
refusal_from index state g (m ∷ messages) = refused_or index (sim_next state m g) (λ behind later. refusal_from (suc index) behind later messages)

-- what a simulator of this setup plays of these messages with a wobble of this seed: the edges up to the first message that is refused
abbrev pub played : ChannelSetup → ℕ → List Message → List Edge
played setup seed messages = played_from (started_by setup) (wobble_of seed) messages

-- the messages that it plays
abbrev pub accepted : ChannelSetup → ℕ → List Message → List Message
accepted setup seed messages = accepted_from (started_by setup) (wobble_of seed) messages

-- the index of the first message that it refuses, and why, if it refuses one
abbrev pub refusal : ChannelSetup → ℕ → List Message → Option (ℕ × SimFault)
refusal setup seed messages = refusal_from 0 (started_by setup) (wobble_of seed) messages

-- What a sensor sends of the messages that lines tell it to send, up to the first fault; this project's own.
use Rattle.std.specs.Prelude.{ℕ, Option, None, Some, Ok, Err, List, [], ◌∷◌}
use Rattle.rand_pcg.specs.Lcg.{Lcg}
use Rattle.line_base.specs.declared.edge.Edge.{Edge}
use Rattle.line_base.specs.declared.faults.LineFault.{LineFault}
use Rattle.line_base.specs.declared.faults.LineFault.TheVariants as line_fault
use Rattle.text_lines.specs.Inputs.{Numbered}
use Rattle.receiver_core.specs.declared.message.Message.{Message}
use Rattle.sim_base.specs.declared.sim_fault.SimFault.{SimFault}
use Rattle.sim_base.specs.declared.sim_fault.SimFault.TheVariants as sim_fault
use Rattle.sim_base.specs.Outcomes.{Outcome, Sent, Refused}
use Rattle.sensor_sim.specs.Sims.{SimState, sim_next}
use Rattle.sensor_sim.specs.Played.{played_from}

-- the fault of a line whose message the sensor refuses: Order where it may not come there, and TooLarge where it would end too late; a message that is none of the setup, or whose value does not fit, is Field or TooLarge, as the line tells before it is sent
abbrev pub fault_told : SimFault → LineFault
fault_told sim_fault.Kind = line_fault.Field
fault_told sim_fault.Range = line_fault.TooLarge
fault_told sim_fault.Order = line_fault.Order
fault_told sim_fault.Late = line_fault.TooLarge

-- the messages that lines tell, before the first line with a fault
unfoldable pub messages_told : List (Numbered Message) → List Message
messages_told [] = []
messages_told ((number, Ok message) ∷ told) = message ∷ messages_told told
messages_told ((number, Err fault) ∷ told) = []

-- the edges that a sensor sends of what lines tell, with one wobble for all of it: those of the messages before the first fault
abbrev pub edges_played : SimState → Lcg → List (Numbered Message) → List Edge
edges_played state g told = played_from state g (messages_told told)

-- the fault of a refused message, at the line of this number, and else that of the later ones
abbrev pub fault_with : ℕ → Outcome SimState → (SimState → Lcg → Option (ℕ × LineFault)) → Option (ℕ × LineFault)
fault_with number (Sent edges behind later) others = others behind later
fault_with number (Refused fault state g) others = Some (number, fault_told fault)

-- the first fault of what lines tell, with the number of its line: a line's own, or that its message is refused
unfoldable pub fault_played : SimState → Lcg → List (Numbered Message) → Option (ℕ × LineFault)
fault_played state g [] = None
fault_played state g ((number, Ok message) ∷ told) = fault_with number (sim_next state message g) (λ behind later. fault_played behind later told)
fault_played state g ((number, Err fault) ∷ told) = Some (number, fault)

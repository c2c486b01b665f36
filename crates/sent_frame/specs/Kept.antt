-- What a SENT reader has kept of the edges that it has seen; this project's own.
use Rattle.std.specs.Prelude.{List}
use Rattle.line_base.specs.Edges.{NumberedEdge}
use Rattle.line_base.specs.Standing.{LeadsOver}
use Rattle.sent_frame.specs.declared.frame.SentStep.{SentStep}
use Rattle.sent_frame.specs.declared.position.Position.TheVariants as position
use Rattle.sent_frame.specs.declared.reader.State.{State}
use Rattle.sent_frame.specs.declared.reader.State.TheVariants.{Fresh, Opened, Reading}
use Rattle.sent_frame.specs.Setup.{Settings}
use Rattle.sent_frame.specs.Pulses.{Pulse, falls_in, pulses_of, pulses_between, pulses_after}
use Rattle.sent_frame.specs.Reading.{Standing, found}
use Rattle.sent_frame.specs.Positions.{AgreesPosition, IsPosition}

-- the position that was kept is one that the reader can have
abbrev pub IsState : Settings → State → Type 0
IsState s Fresh = Unit {0}
IsState s Opened = Unit {0}
IsState s (Reading fall position) = IsPosition s position

-- the pulses that the next edges make
abbrev pub pulses_made : State → List NumberedEdge → List Pulse
pulses_made Fresh edges = pulses_of edges
pulses_made Opened edges = pulses_between (falls_in edges)
pulses_made (Reading fall position) edges = pulses_after fall (falls_in edges)

-- a reader in this state has this due, and has kept these pulses
abbrev pub AgreesState : Settings → State → Standing → List Pulse → Type 0
AgreesState s Fresh due kept = AgreesPosition s position.Hunting due kept
AgreesState s Opened due kept = AgreesPosition s position.Hunting due kept
AgreesState s (Reading fall position) due kept = AgreesPosition s position due kept

-- the next edge leads from one state to another, with these reports
abbrev pub EdgeLeads : Settings → State → State → NumberedEdge → List SentStep → Type 0
EdgeLeads s state next edge reports = LeadsOver (pulses_made state) (pulses_made next) (found s) (AgreesState s state) (AgreesState s next) edge reports

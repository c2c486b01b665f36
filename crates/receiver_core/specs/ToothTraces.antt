-- Honest traces of a tooth-gap channel, and the reports that they have to give (the method: PSI5 V2.1, base standard; the bounds: this project's own).
use Rattle.std.specs.Prelude.{ℕ, Option, None, Some, List, [], ◌∷◌, All, flat_map}
use Rattle.line_base.specs.Edges.{NumberedEdge}
use Rattle.psi5_downlink.specs.declared.down.Down.{Down}
use Rattle.psi5_downlink.specs.Setup.{Settings}
use Rattle.psi5_downlink_tolerance.specs.Traces.{IsHonest}
use Rattle.psi5_downlink_tolerance.specs.FromFirst.{from_first}
use Rattle.receiver_core.specs.declared.message.Message.{Message}
use Rattle.receiver_core.specs.declared.message.Message.TheVariants as message
use Rattle.receiver_core.specs.declared.report.Report.{Report}
use Rattle.receiver_core.specs.ToothReports.{down_report, rises_of}

-- a message is a downlink frame
abbrev pub IsOfTooth : Message → Type 0
IsOfTooth (message.Down down) = Unit {0}
IsOfTooth other = ⊥

-- what a downlink frame says, if the message is one
abbrev pub down_in : Message → List Down
down_in (message.Down down) = down ∷ []
down_in other = []

-- when the line was opened, in ns, if it has an edge
abbrev pub opened_at : List NumberedEdge → Option ℕ
opened_at [] = None
opened_at (opening ∷ edges) = Some opening.edge.time

-- the rises among the edges are an honest trace of these messages of the tooth gap; falls stand anywhere
pub record IsToothTrace (s : Settings) (messages : List Message) (edges : List NumberedEdge) : Type 0 where
  pub all_sent : All IsOfTooth messages
  pub honest : IsHonest s (flat_map down_in messages) (opened_at edges) (rises_of edges)

-- the reports of a trace of these messages, from the first frame on whose gap has a rise on both sides
abbrev pub tooth_from_first : Settings → List Message → List NumberedEdge → List Report
tooth_from_first s messages edges = flat_map down_report (from_first s (flat_map down_in messages) (rises_of edges))

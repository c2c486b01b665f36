-- Honest traces of an SPC channel, and the reports that they have to give (the frame of an answer: SAE J2716; the bounds: this project's own).
use Rattle.std.specs.Prelude.{List, [], ◌∷◌, All, flat_map}
use Rattle.line_base.specs.Edges.{NumberedEdge}
use Rattle.spc_link.specs.Setup.{Settings}
use Rattle.spc_tolerance.specs.Trains.{SpcMessage, Answer, Silent}
use Rattle.spc_tolerance.specs.Traces.{IsHonest}
use Rattle.spc_tolerance.specs.FromFirst.{heard_of}
use Rattle.receiver_core.specs.declared.message.Message.{Message}
use Rattle.receiver_core.specs.declared.message.Message.TheVariants as message
use Rattle.receiver_core.specs.declared.report.Report.{Report}
use Rattle.receiver_core.specs.SpcReports.{answer_report}

-- a message is a trigger with its answer, or one that nobody answers
abbrev pub IsOfSpc : Message → Type 0
IsOfSpc (message.Answer code frame) = Unit {0}
IsOfSpc (message.Silent code) = Unit {0}
IsOfSpc other = ⊥

-- what a message says on a line of SPC
abbrev pub spc_message_in : Message → List SpcMessage
spc_message_in (message.Answer code frame) = Answer code frame ∷ []
spc_message_in (message.Silent code) = Silent code ∷ []
spc_message_in other = []

-- the edges are an honest trace of these messages of SPC
pub record IsSpcTrace (s : Settings) (messages : List Message) (edges : List NumberedEdge) : Type 0 where
  pub all_sent : All IsOfSpc messages
  pub honest : IsHonest s (flat_map spc_message_in messages) edges

-- the reports of a trace of these messages, from the first transaction on whose trigger falls after quiet
abbrev pub spc_from_first : Settings → List Message → List NumberedEdge → List Report
spc_from_first s messages edges = flat_map answer_report (heard_of s (flat_map spc_message_in messages) edges)

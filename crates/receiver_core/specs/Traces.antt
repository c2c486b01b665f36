-- Honest traces of a channel, and the reports that they have to give; the bounds are this project's own.
use Rattle.std.specs.Prelude.{ℕ, ◌+◌, List, [], ◌∷◌}
use Rattle.line_base.specs.Edges.{NumberedEdge}
use Rattle.line_base.specs.declared.edge.Edge.{Edge}
use Rattle.receiver_core.specs.declared.message.Message.{Message}
use Rattle.receiver_core.specs.declared.report.Report.{Report}
use Rattle.receiver_core.specs.declared.setup.ChannelSetup.{ChannelSetup}
use Rattle.receiver_core.specs.declared.setup.ChannelSetup.TheVariants.{Sent, Psi5, Spc, Tooth}
use Rattle.receiver_core.specs.Psi5Traces.{IsPsi5Trace, psi5_from_first}
use Rattle.receiver_core.specs.SentTraces.{IsSentTrace, sent_from_first}
use Rattle.receiver_core.specs.SpcTraces.{IsSpcTrace, spc_from_first}
use Rattle.receiver_core.specs.ToothTraces.{IsToothTrace, tooth_from_first}

-- edges with their numbers, of which the first has this one
unfoldable pub numbered : ℕ → List Edge → List NumberedEdge
numbered number [] = []
numbered number (edge ∷ edges) = record { number = number; edge = edge } ∷ numbered (number + 1) edges

-- the edges of a channel's lines are a trace of these messages that the stated drift and jitter allow
abbrev pub IsHonest : ChannelSetup → List Message → List Edge → Type 0
IsHonest (Sent line setup layout serial) messages edges = IsSentTrace setup serial messages (numbered 0 edges)
IsHonest (Psi5 line setup slots init) messages edges = IsPsi5Trace setup slots messages (numbered 0 edges)
IsHonest (Spc line setup) messages edges = IsSpcTrace setup messages (numbered 0 edges)
IsHonest (Tooth line setup) messages edges = IsToothTrace setup messages (numbered 0 edges)

-- the reports of an honest trace of these messages, from the first whole frame on
abbrev pub from_first : ChannelSetup → List Message → List Edge → List Report
from_first (Sent line setup layout serial) messages edges = sent_from_first setup layout messages (numbered 0 edges)
from_first (Psi5 line setup slots init) messages edges = psi5_from_first setup slots init messages (numbered 0 edges)
from_first (Spc line setup) messages edges = spc_from_first setup messages (numbered 0 edges)
from_first (Tooth line setup) messages edges = tooth_from_first setup messages (numbered 0 edges)

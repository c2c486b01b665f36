-- Which edges a SENT reader stands for; this project's own.
use Rattle.std.specs.Prelude.{◌≡◌, List}
use Rattle.line_base.specs.Edges.{NumberedEdge}
use Rattle.line_base.specs.Standing.{StandsOver}
use Rattle.sent_frame.specs.declared.reader.SentReader.{SentReader}
use Rattle.sent_frame.specs.Setup.{Settings}
use Rattle.sent_frame.specs.Pulses.{pulses_of}
use Rattle.sent_frame.specs.Reading.{Hunting, found}
use Rattle.sent_frame.specs.Kept.{AgreesState, pulses_made}

-- the reader has this setup and stands for these edges: whatever comes next, the reports are those of these edges and then those that what it has kept leads to
pub record StandsFor (setup : Settings) (reader : SentReader) (seen : List NumberedEdge) : Type 0 where
  pub same_setup : reader.0 ≡ setup
  pub stands : StandsOver pulses_of (pulses_made reader.1) (found setup) Hunting (AgreesState setup reader.1) seen

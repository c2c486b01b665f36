-- Which edges an SPC reader stands for; this project's own.
use Rattle.std.specs.Prelude.{◌≡◌, List}
use Rattle.line_base.specs.Edges.{NumberedEdge}
use Rattle.line_base.specs.Standing as standing
use Rattle.spc_link.specs.declared.reader.SpcReader.{SpcReader}
use Rattle.spc_link.specs.Setup.{Settings}
use Rattle.spc_link.specs.Reading.{found}
use Rattle.spc_link.specs.Kept.{AgreesState}

-- the reader has this setup and stands for these edges: whatever comes next, the reports are those of these edges and then those that what it has kept leads to
pub record StandsFor (setup : Settings) (reader : SpcReader) (seen : List NumberedEdge) : Type 0 where
  pub same_setup : reader.0 ≡ setup
  pub stands : standing.StandsFor (found setup) tt (AgreesState setup reader.1) seen

use Rattle.std.proofs.Common.{refl}
use Rattle.edge_trace.proofs.StandingFor.{new_stands}
use Rattle.edge_trace.proofs.reader.EdgeReader.new.Goals as goal

pub returns : goal.returns
returns c = record { stands = new_stands _ refl c.new.ensures refl refl refl refl }

-- It has seen no edge.
use Rattle.std.proofs.Common.{refl}
use Rattle.spc_link.proofs.Pushes.{fresh}
use Rattle.spc_link.proofs.reader.SpcReader.new.Goals as goal

pub returns : goal.returns
returns c = fresh c.args.setup c.args.setup refl

-- A reader that forgets all stands for no edge.
use Rattle.spc_link.proofs.Pushes.{forgotten}
use Rattle.spc_link.proofs.reader.SpcReader.reset.Goals as goal

pub returns : goal.returns
returns c = λ setup seen before. forgotten setup c.self.inside.setup c.self.inside.state _ seen c.self.view_is before

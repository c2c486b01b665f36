-- A reader that forgets all stands for no rise.
use Rattle.psi5_downlink.proofs.Leading.{forgotten}
use Rattle.psi5_downlink.proofs.reader.ToothReader.reset.Goals as goal

pub returns : goal.returns
returns c = λ setup seen before. forgotten setup c.self.inside.setup c.self.inside.last c.self.inside.state _ seen c.self.view_is before

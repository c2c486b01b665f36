-- A reader that forgets all stands for no edge.
use Rattle.psi5_frame.proofs.Standing.{forgotten}
use Rattle.psi5_frame.proofs.reader.BurstReader.reset.Goals as goal

pub returns : goal.returns
returns c = λ setup seen before. forgotten setup c.self.inside.setup c.self.inside.state _ seen c.self.view_is before

-- A reader that forgets all stands for no code.
use Rattle.psi5_init.proofs.Standing.{forgotten}
use Rattle.psi5_init.proofs.reader.InitReader.reset.Goals as goal

pub returns : goal.returns
returns c = λ k seen before. forgotten k c.self.inside.repeats c.self.inside.state _ seen c.self.view_is before

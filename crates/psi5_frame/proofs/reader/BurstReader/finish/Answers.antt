-- The line has ended.
use Rattle.psi5_frame.proofs.Standing.{finished}
use Rattle.psi5_frame.proofs.reader.BurstReader.finish.Goals as goal

pub returns-clause-ends : goal.returns-clause-ends
returns-clause-ends c = λ setup seen before.
    finished setup c.self.inside.setup c.self.inside.state c.last_burst-last.result _ seen c.self.view_is before c.last_burst-last.ensures

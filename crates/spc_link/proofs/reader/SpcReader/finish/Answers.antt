-- The line has ended.
use Rattle.spc_link.specs.Reading.{steps_of}
use Rattle.spc_link.proofs.Pushes.{finished, finished-means}
use Rattle.spc_link.proofs.reader.SpcReader.finish.Goals as goal

pub returns-clause-ends : goal.returns-clause-ends
returns-clause-ends c = λ setup seen before.
    finished setup c.self.inside.setup c.self.inside.state _ seen (steps_of c.last_step-last.result) c.self.view_is before c.self.invariant c.last_step-last.ensures

pub returns-clause-means : goal.returns-clause-means
returns-clause-means c = λ setup seen before.
    finished-means setup c.self.inside.setup c.self.inside.state _ seen (steps_of c.last_step-last.result) c.self.view_is before c.self.invariant c.last_step-last.ensures

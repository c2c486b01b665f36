-- Nothing is added.
use Rattle.receiver_core.proofs.Links.{cut-adds}
use Rattle.receiver_core.proofs.receiver.Link.cut.Goals as goal

pub returns-clause-grows : goal.returns-clause-grows
returns-clause-grows c = λ setup number stretch stands. cut-adds setup number stretch

-- Each phase, from any place on.
use Rattle.psi5_init.proofs.Telling.{told-reading}
use Rattle.psi5_init.proofs.meaning.phases_are_read.Goals as goal

pub returns : goal.returns
returns c = told-reading

-- One burst for each edge that begins one.
use Rattle.psi5_frame.proofs.Counts.{so_far-counted, at_end-counted}
use Rattle.psi5_frame.proofs.meaning.bursts_are_counted.Goals as goal

pub returns-clause-so_far : goal.returns-clause-so_far
returns-clause-so_far c = so_far-counted

pub returns-clause-at_end : goal.returns-clause-at_end
returns-clause-at_end c = at_end-counted

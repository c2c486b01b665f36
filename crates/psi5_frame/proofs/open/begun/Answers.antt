-- The first edge is a rise.
use Rattle.psi5_frame.proofs.Growing.{sound-first}
use Rattle.psi5_frame.proofs.open.begun.Goals as goal

pub returns-clause-agrees : goal.returns-clause-agrees
returns-clause-agrees c = λ interval.
    rw (c.if-not-level.false, c.push.ensures, c.new-bits.ensures) (sound-first c.args.count c.args.number interval c.requires)

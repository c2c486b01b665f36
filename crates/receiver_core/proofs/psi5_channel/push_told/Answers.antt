-- A good burst says one code more, and a violated rule is a break.
use Rattle.std.proofs.Common.{subst, arith}
use Rattle.receiver_core.specs.declared.psi5_burst.Told.{Told}
use Rattle.receiver_core.specs.declared.psi5_burst.Told.TheVariants as told
use Rattle.receiver_core.specs.Psi5Reports.{slot_number}
use Rattle.receiver_core.specs.Psi5Stretches.{IsTold}
use Rattle.receiver_core.proofs.InitReaders.{codes-few, small-code}
use Rattle.receiver_core.proofs.psi5_channel.push_told.Goals as goal

pub push_code-requires-clause-stands : goal.push_code-requires-clause-stands
push_code-requires-clause-stands c =
    let given = c.requires.stands in
    let good : IsTold given.0 (told.Good c.in-Good.place c.in-Good.slot c.in-Good.payload) = subst (λ (t : Told). IsTold given.0 t) c.in-Good.is given.4 in
    (given.1, given.2, given.3.has_read, small-code given.0 given.1 c.in-Good.payload given.3.codes good.1, omega (arith, codes-few (slot_number c.in-Good.slot) given.2, given.5))

-- The reader of the slot has read one code more.
use Rattle.std.proofs.Common.{◌++◌, [], ◌∷◌, sym, subst}
use Rattle.psi5_init.specs.declared.code.Code.{Code}
use Rattle.psi5_init.specs.Readers.{StandsFor}
use Rattle.receiver_core.specs.Psi5Reports.{codes_of}
use Rattle.receiver_core.proofs.InitReaders.{readers-more}
use Rattle.receiver_core.proofs.init_readers.InitReaders.push.Goals as goal

pub returns-clause-stands : goal.returns-clause-stands
returns-clause-stands c = λ repeats since place slot payload before own says.
    rw c.from-2.ensures
    (readers-more repeats c.args.self.now since place slot payload c.args.number c.push-step.new.self before own c.requires.slot
    (subst (λ (code : Code). StandsFor repeats c.push-step.new.self (codes_of c.args.number since ++ code ∷ [])) (sym says)
    (c.push-step.ensures.stands repeats (codes_of c.args.number since) (rw c.from.ensures (before.each c.args.number c.index-self-from.result c.requires.slot)))))

-- The reader of the slot has read one code more.
use Rattle.std.proofs.Common.{◌++◌, [], ◌∷◌, sym, rules}
use Rattle.receiver_core.specs.declared.psi5_burst.Told.TheVariants as told
use Rattle.receiver_core.proofs.InitReaders.{where-read}
use Rattle.receiver_core.proofs.psi5_channel.push_code.Goals as goal

pub returns-in-Some-clause-stands : goal.returns-in-Some-clause-stands
returns-in-Some-clause-stands c = λ repeats since before.
    where-read repeats c.in-Some.readers c.push-step.new.self since (since ++ told.Good c.args.place c.args.slot c.args.payload ∷ []) (rw c.in-Some.is at before)
    (λ count stands. c.push-step.ensures.stands count since c.args.place c.args.slot c.args.payload stands (sym c.number_of.ensures) (search rules))

-- A new reader stands for no code.
use Rattle.psi5_init.proofs.Standing.{stands-fresh}
use Rattle.psi5_init.proofs.reader.InitReader.new.Goals as goal

pub returns : goal.returns
returns c = stands-fresh c.args.repeats

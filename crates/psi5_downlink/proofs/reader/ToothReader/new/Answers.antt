-- A new reader stands for no rise.
use Rattle.psi5_downlink.proofs.Leading.{stands-fresh}
use Rattle.psi5_downlink.proofs.reader.ToothReader.new.Goals as goal

pub returns : goal.returns
returns c = stands-fresh c.args.setup

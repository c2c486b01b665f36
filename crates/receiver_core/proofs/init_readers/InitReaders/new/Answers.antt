-- No code was read.
use Rattle.std.proofs.Common.{refl}
use Rattle.receiver_core.proofs.InitReaders.{readers-none}
use Rattle.receiver_core.proofs.init_readers.InitReaders.new.Goals as goal

pub returns : goal.returns
returns c = readers-none c.args.repeats c.args.repeats c.new.result c.eight.result c.eight.ensures refl c.requires.some c.requires.few c.new.ensures

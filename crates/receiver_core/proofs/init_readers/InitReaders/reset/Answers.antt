-- No code was read.
use Rattle.std.proofs.Common.{arith}
use Rattle.receiver_core.specs.Psi5Reports.{codes_of}
use Rattle.receiver_core.proofs.InitReaders.{readers-none}
use Rattle.receiver_core.proofs.init_readers.InitReaders.reset.Goals as goal

pub returns : goal.returns
returns c = λ repeats since before.
    readers-none repeats c.args.self.now.repeats c.reset.new.self c.eight-self.result c.eight-self.ensures before.same_repeats before.some before.few
    (c.reset.ensures repeats (codes_of 0 since) (before.each 0 c.index-self-0.result (omega arith)))

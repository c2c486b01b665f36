use Rattle.std.proofs.Common.{length}
use Rattle.decode_command.proofs.Blocks.{BlockBefore}
use Rattle.decode_command.proofs.run.Run.take_block.Given as goal

abbrev pub invariant-bytes : goal.invariant-bytes
invariant-bytes g l =
    BlockBefore l.fn.self l.self (g.K.Sink.got l.fn.out) (g.K.Sink.got l.out) (g.K.Sink.faults l.fn.out) (g.K.Sink.faults l.out) l.block l.rest

abbrev pub decreases-bytes : goal.decreases-bytes
decreases-bytes g l = length l.rest

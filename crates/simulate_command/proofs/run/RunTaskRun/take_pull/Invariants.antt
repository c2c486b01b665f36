use Rattle.std.proofs.Common.{take}
use Rattle.simulate_command.proofs.Taking.{BlockSoFar}
use Rattle.simulate_command.proofs.run.RunTaskRun.take_pull.Given as goal

abbrev pub invariant-loop-byte : goal.invariant-loop-byte
invariant-loop-byte g l =
    BlockSoFar l.fn.self l.self (g.K.Sink.got l.fn.out) (g.K.Sink.got l.out) (g.K.Sink.faults l.fn.out) (g.K.Sink.faults l.out) (take l.byte-index l.block)

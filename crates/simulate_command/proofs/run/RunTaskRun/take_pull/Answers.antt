use Rattle.std.proofs.Common.{◌++◌, take, arith}
use Rattle.std.proofs.lemmas.Result.{err_from_is_err_and}
use Rattle.simulate_command.proofs.Starting.{reads-sound}
use Rattle.simulate_command.proofs.Taking.{block-more, block-whole, block-stopped}
use Rattle.simulate_command.proofs.run.RunTaskRun.take_pull.Goals as goal

pub take_byte-requires : goal.take_byte-requires
take_byte-requires g c =
    let before = c.requires.2 in
    (before.0, before.1, c.requires.1 ++ take c.loop-byte.byte-index c.args.block.now, (c.loop-byte.invariant.took before.0 before.1 c.requires.1 before.3).reads)

pub returns-in_err-take_byte-clause-stopped : goal.returns-in_err-take_byte-clause-stopped
returns-in_err-take_byte-clause-stopped g c =
    let p = err_from_is_err_and c.from_residual.result c.from_residual.ensures.1 in
    rw (p.1, p.2) (λ task bytes before.
    rw before.2 (block-stopped before.0 before.1 _ c.args.self.now c.loop-byte.self (g.K.Sink.got c.args.out.now) (g.K.Sink.got c.loop-byte.out) _ (g.K.Sink.faults c.args.out.now) (g.K.Sink.faults c.loop-byte.out) c.args.block.now c.loop-byte.byte-index 0 bytes c.loop-byte.invariant
    c.loop-byte-test.true before.3 (λ bs reads. c.in_err-take_byte.ensures.stopped before.0 before.1 bs reads)))

pub loop-byte-preserved : goal.loop-byte-preserved
loop-byte-preserved g c =
    block-more c.args.self.now c.loop-byte.self c.take_byte.new.self (g.K.Sink.got c.args.out.now) (g.K.Sink.got c.loop-byte.out) (g.K.Sink.got c.take_byte.new.out) (g.K.Sink.faults c.args.out.now) (g.K.Sink.faults c.loop-byte.out) (g.K.Sink.faults c.take_byte.new.out)
    c.args.block.now c.loop-byte.byte-index 0 c.loop-byte.invariant c.loop-byte-test.true c.in_ok-take_byte.ensures.took c.in_ok-take_byte.ensures.output

pub returns-clause-took : goal.returns-clause-took
returns-clause-took g c = λ task bytes before.
    let whole = block-whole c.args.self.now c.loop-byte.self (g.K.Sink.got c.args.out.now) (g.K.Sink.got c.loop-byte.out) (g.K.Sink.faults c.args.out.now) (g.K.Sink.faults c.loop-byte.out) c.args.block.now c.loop-byte.byte-index c.loop-byte.invariant (omega arith) in
    (before.0, before.1, before.2, (whole.took before.0 before.1 bytes before.3).reads)

pub returns-clause-sound : goal.returns-clause-sound
returns-clause-sound g c = λ task bytes before.
    let whole = block-whole c.args.self.now c.loop-byte.self (g.K.Sink.got c.args.out.now) (g.K.Sink.got c.loop-byte.out) (g.K.Sink.faults c.args.out.now) (g.K.Sink.faults c.loop-byte.out) c.args.block.now c.loop-byte.byte-index c.loop-byte.invariant (omega arith) in
    rw before.2 (reads-sound before.0 before.1 c.loop-byte.self (bytes ++ c.args.block.now) (whole.took before.0 before.1 bytes before.3).reads)

pub returns-clause-grows : goal.returns-clause-grows
returns-clause-grows g c = λ task bytes before.
    let whole = block-whole c.args.self.now c.loop-byte.self (g.K.Sink.got c.args.out.now) (g.K.Sink.got c.loop-byte.out) (g.K.Sink.faults c.args.out.now) (g.K.Sink.faults c.loop-byte.out) c.args.block.now c.loop-byte.byte-index c.loop-byte.invariant (omega arith) in
    rw before.2 ((whole.took before.0 before.1 bytes before.3).grows)

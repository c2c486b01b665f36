use Rattle.std.proofs.Common.{◌∷◌, [], ◌++◌, refl, sym, append-nil, arith}
use Rattle.std.proofs.lemmas.Bool.{eqb-true}
use Rattle.std.proofs.lemmas.Result.{err_from_is_err_and}
use Rattle.decode_command.proofs.Blocks.{run-sliced, row-sliced, none-sliced, less-left, none-left, stopped-in, block-rest}
use Rattle.decode_command.proofs.run.Run.take_block.Goals as goal

pub take_row-requires : goal.take_row-requires
take_row-requires g c = (c.requires.0 ++ c.bytes.invariant.taken, (c.bytes.invariant.so_far.took c.requires.0 c.requires.1).reads)

pub returns-in_err-count-clause-stopped : goal.returns-in_err-count-clause-stopped
returns-in_err-count-clause-stopped g c =
    let p = err_from_is_err_and c.from_residual.result c.from_residual.ensures.1 in
    rw (p.1, p.2) (λ bytes reads.
    stopped-in c.args.self.now _ c.in_err-count.field-0.0 (g.K.Sink.got c.args.out.now) (g.K.Sink.got c.bytes.out) _ (g.K.Sink.faults c.args.out.now) (g.K.Sink.faults c.bytes.out) c.args.block.now c.bytes.rest.now [] bytes
    (block-rest _ _ _ _ _ _ _ _ _ (sym (append-nil c.bytes.rest.now)) c.bytes.invariant)
    reads c.in_err-count.ensures.stopped)

pub bytes-preserved-then-count-gt0 : goal.bytes-preserved-then-count-gt0
bytes-preserved-then-count-gt0 g c =
    row-sliced c.args.self.now c.bytes.self _ (g.K.Sink.got c.args.out.now) (g.K.Sink.got c.bytes.out) _ (g.K.Sink.faults c.args.out.now) (g.K.Sink.faults c.bytes.out) _ c.args.block.now c.bytes.rest.now c.in_ok-count.count c.bytes.invariant
    (record { decoding = c.take_row.ensures.decoding; took = c.in_ok-count.ensures.took; kept = c.in_ok-count.ensures.output })

pub take_byte-requires : goal.take_byte-requires
take_byte-requires g c =
    let before = (run-sliced c.args.self.now c.take_row.new.self _ (g.K.Sink.got c.args.out.now) (g.K.Sink.got c.take_row.new.out) (g.K.Sink.faults c.args.out.now) (g.K.Sink.faults c.take_row.new.out) c.args.block.now c.bytes.rest.now c.take_run-run.result
    (none-sliced c.args.self.now c.bytes.self _ (g.K.Sink.got c.args.out.now) (g.K.Sink.got c.bytes.out) _ (g.K.Sink.faults c.args.out.now) (g.K.Sink.faults c.bytes.out) _ c.args.block.now c.bytes.rest.now c.in_ok-count.count (omega arith) c.bytes.invariant
    (record { decoding = c.take_row.ensures.decoding; took = c.in_ok-count.ensures.took; kept = c.in_ok-count.ensures.output }))
    refl refl refl c.take_run-run.ensures.stands c.take_run-run.ensures.quiet) in
    (c.requires.0 ++ before.taken, (before.so_far.took c.requires.0 c.requires.1).reads)

pub returns-in_err-take_byte-clause-stopped : goal.returns-in_err-take_byte-clause-stopped
returns-in_err-take_byte-clause-stopped g c =
    let p = err_from_is_err_and c.from_residual-in_err-take_byte.result c.from_residual-in_err-take_byte.ensures.1 in
    rw (p.1, p.2) (λ bytes reads.
    stopped-in c.args.self.now _ c.in_err-take_byte.field-0.0 (g.K.Sink.got c.args.out.now) (g.K.Sink.got c.take_row.new.out) _ (g.K.Sink.faults c.args.out.now) (g.K.Sink.faults c.take_row.new.out) c.args.block.now (c.in-Some.byte.now ∷ []) c.in-Some.others.now bytes
    (block-rest _ _ _ _ _ _ _ _ _ c.in-Some.ensures.cases.0 (run-sliced c.args.self.now c.take_row.new.self _ (g.K.Sink.got c.args.out.now) (g.K.Sink.got c.take_row.new.out) (g.K.Sink.faults c.args.out.now) (g.K.Sink.faults c.take_row.new.out) c.args.block.now c.bytes.rest.now c.take_run-run.result
    (none-sliced c.args.self.now c.bytes.self _ (g.K.Sink.got c.args.out.now) (g.K.Sink.got c.bytes.out) _ (g.K.Sink.faults c.args.out.now) (g.K.Sink.faults c.bytes.out) _ c.args.block.now c.bytes.rest.now c.in_ok-count.count (omega arith) c.bytes.invariant
    (record { decoding = c.take_row.ensures.decoding; took = c.in_ok-count.ensures.took; kept = c.in_ok-count.ensures.output }))
    refl refl refl c.take_run-run.ensures.stands c.take_run-run.ensures.quiet))
    reads c.in_err-take_byte.ensures.stopped)

pub bytes-preserved-in-Some : goal.bytes-preserved-in-Some
bytes-preserved-in-Some g c =
    less-left c.args.self.now _ c.take_byte.new.self (g.K.Sink.got c.args.out.now) (g.K.Sink.got c.take_row.new.out) _ (g.K.Sink.faults c.args.out.now) (g.K.Sink.faults c.take_row.new.out) _ c.args.block.now (c.in-Some.byte.now ∷ []) c.in-Some.others.now
    (block-rest _ _ _ _ _ _ _ _ _ c.in-Some.ensures.cases.0 (run-sliced c.args.self.now c.take_row.new.self _ (g.K.Sink.got c.args.out.now) (g.K.Sink.got c.take_row.new.out) (g.K.Sink.faults c.args.out.now) (g.K.Sink.faults c.take_row.new.out) c.args.block.now c.bytes.rest.now c.take_run-run.result
    (none-sliced c.args.self.now c.bytes.self _ (g.K.Sink.got c.args.out.now) (g.K.Sink.got c.bytes.out) _ (g.K.Sink.faults c.args.out.now) (g.K.Sink.faults c.bytes.out) _ c.args.block.now c.bytes.rest.now c.in_ok-count.count (omega arith) c.bytes.invariant
    (record { decoding = c.take_row.ensures.decoding; took = c.in_ok-count.ensures.took; kept = c.in_ok-count.ensures.output }))
    refl refl refl c.take_run-run.ensures.stands c.take_run-run.ensures.quiet))
    (record { decoding = c.take_byte.ensures.decoding; took = c.in_ok-take_byte.ensures.took; kept = c.in_ok-take_byte.ensures.output })

pub bytes-preserved : goal.bytes-preserved
bytes-preserved g c =
    run-sliced c.args.self.now c.take_row.new.self _ (g.K.Sink.got c.args.out.now) (g.K.Sink.got c.take_row.new.out) (g.K.Sink.faults c.args.out.now) (g.K.Sink.faults c.take_row.new.out) c.args.block.now c.bytes.rest.now c.take_run-run.result
    (none-sliced c.args.self.now c.bytes.self _ (g.K.Sink.got c.args.out.now) (g.K.Sink.got c.bytes.out) _ (g.K.Sink.faults c.args.out.now) (g.K.Sink.faults c.bytes.out) _ c.args.block.now c.bytes.rest.now c.in_ok-count.count (omega arith) c.bytes.invariant
    (record { decoding = c.take_row.ensures.decoding; took = c.in_ok-count.ensures.took; kept = c.in_ok-count.ensures.output }))
    refl refl refl c.take_run-run.ensures.stands c.take_run-run.ensures.quiet

pub returns-clause-took : goal.returns-clause-took
returns-clause-took g c =
    (none-left c.args.self.now c.bytes.self _ _ _ _ c.args.block.now c.bytes.rest.now c.bytes.invariant (eqb-true _ _ (sym c.bytes-test.ensures))).took

-- A row is taken, narrow or wide.
use Rattle.std.proofs.Common.{◌++◌, take, arith}
use Rattle.std.proofs.lemmas.Result.{err_from_is_err_and}
use Rattle.decode_command.proofs.Blocks.{none-then, none-then-stopped}
use Rattle.decode_command.proofs.run.Run.take_row.Goals as goal

pub take_wide_row-requires : goal.take_wide_row-requires
take_wide_row-requires g c = (c.requires.0 ++ take c.in_ok-count.count c.args.block.now, (c.in_ok-count.ensures.took c.requires.0 c.requires.1).reads)

pub returns-in_err-wide-clause-stopped : goal.returns-in_err-wide-clause-stopped
returns-in_err-wide-clause-stopped g c =
    let p = err_from_is_err_and c.from_residual-in_err-wide.result c.from_residual-in_err-wide.ensures.1 in
    rw (p.1, p.2) (λ bytes reads.
    none-then-stopped c.args.self.now c.take_narrow_row.new.self c.in_err-wide.field-0.0 (g.K.Sink.got c.args.out.now) (g.K.Sink.got c.take_narrow_row.new.out) _ (g.K.Sink.faults c.args.out.now) (g.K.Sink.faults c.take_narrow_row.new.out) c.args.block.now c.in_ok-count.count bytes (omega arith)
    (record { decoding = c.take_narrow_row.ensures.decoding; took = c.in_ok-count.ensures.took; kept = c.in_ok-count.ensures.output })
    reads c.in_err-wide.ensures.stopped)

pub returns-clause-took : goal.returns-clause-took
returns-clause-took g c = λ bytes reads.
    (none-then c.args.self.now c.take_narrow_row.new.self c.take_wide_row.new.self (g.K.Sink.got c.args.out.now) (g.K.Sink.got c.take_narrow_row.new.out) _ (g.K.Sink.faults c.args.out.now) (g.K.Sink.faults c.take_narrow_row.new.out) _ c.args.block.now c.in_ok-count.count c.in_ok-wide.wide (omega arith)
    (record { decoding = c.take_narrow_row.ensures.decoding; took = c.in_ok-count.ensures.took; kept = c.in_ok-count.ensures.output })
    (record { decoding = c.take_wide_row.ensures.decoding; took = c.in_ok-wide.ensures.took; kept = c.in_ok-wide.ensures.output })).took bytes reads

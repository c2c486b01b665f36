use Rattle.std.proofs.Common.{◌∙◌}
use Rattle.std.proofs.lemmas.Result.{err_from_is_err_and}
use Rattle.edge_trace.specs.Rows.{Wide}
use Rattle.edge_trace.proofs.Reading.{row_read_fault, row_wide, wide_read}
use Rattle.edge_trace.proofs.rows.read_wide.Goals as goal

pub returns-in_err-time-clause-read : goal.returns-in_err-time-clause-read
returns-in_err-time-clause-read c =
    let p = err_from_is_err_and c.from_residual.result c.from_residual.ensures.1 in
    rw (p.1, p.2) (λ stamps rows e has. row_read_fault (Wide c.args.columns) stamps rows c.args.content.now _ (row_wide c.args.columns stamps c.args.before c.args.content.now e ∙ c.in_err-time.ensures.fault))

pub returns-clause-read : goal.returns-clause-read
returns-clause-read c = λ stamps rows e has. wide_read stamps rows c.args.before c.in_ok-time.time c.args.content.now c.args.levels.now c.keep_levels.new.levels c.keep_levels.new.edges c.args.columns c.in_ok-time.row.items e has c.in_ok-time.ensures.good (rw (← c.as_slice.ensures.value) c.keep_levels.ensures.edges) (rw (← c.as_slice.ensures.value) c.keep_levels.ensures.levels) c.in_ok-time.ensures.time c.requires.columns

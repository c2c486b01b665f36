use Rattle.std.proofs.Common.{◌∙◌}
use Rattle.std.proofs.lemmas.Result.{err_from_is_err_and}
use Rattle.edge_trace.specs.Readings.{form_of}
use Rattle.edge_trace.proofs.Reading.{row_read_fault, row_narrow, narrow_read}
use Rattle.edge_trace.proofs.rows.read_row.Goals as goal

pub returns-in_err-edge-clause-read : goal.returns-in_err-edge-clause-read
returns-in_err-edge-clause-read c =
    let p = err_from_is_err_and c.from_residual.result c.from_residual.ensures.1 in
    rw (p.1, p.2) (λ stamps rows e has. row_read_fault (form_of c.args.form) stamps rows c.args.content.now _ (row_narrow c.args.form c.in_default.not-Wide stamps c.args.before c.args.content.now e ∙ c.in_err-edge.ensures.fault))

pub returns-clause-read : goal.returns-clause-read
returns-clause-read c =
    λ stamps rows e has. narrow_read stamps rows c.args.before c.in_ok-edge.edge.time c.args.content.now c.args.levels.now c.keep_level.new.levels c.keep_level.new.edges c.args.form c.in_ok-edge.edge c.in_default.not-Wide e has c.in_ok-edge.ensures.good c.keep_level.ensures.edges c.keep_level.ensures.levels c.in_ok-edge.ensures.time c.requires.form

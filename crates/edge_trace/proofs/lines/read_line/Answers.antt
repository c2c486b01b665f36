use Rattle.std.proofs.Common.{◌≡◌, Err, Result, subst, sym}
use Rattle.std.specs.Prelude.{MatchResult}
use Rattle.line_base.specs.declared.faults.LineFault.{LineFault}
use Rattle.edge_trace.specs.EdgeLists.{Read}
use Rattle.edge_trace.specs.Readings.{HasRead}
use Rattle.edge_trace.proofs.Reading.{later_row}
use Rattle.edge_trace.proofs.lines.read_line.Goals as goal

pub returns-else-skipped-clause-read : goal.returns-else-skipped-clause-read
returns-else-skipped-clause-read c = λ standing at.
    let row = later_row _ _ _ _ standing c.args.content.now c.in-Rows.is at (sym c.if-skipped.ensures) in
    subst (λ (r : Result Read LineFault). MatchResult c.read_row.result (λ next. HasRead next c.read_row.new.levels c.read_row.new.edges r) (λ fault. r ≡ Err fault))
    row.same (c.read_row.ensures.read row.stamps row.rows row.time_is row.levels_are)

use Rattle.std.proofs.Common.{◌≡◌, [], Err, Result, subst}
use Rattle.std.specs.Prelude.{MatchResult}
use Rattle.line_base.specs.declared.faults.LineFault.{LineFault}
use Rattle.edge_trace.specs.EdgeLists.{Read}
use Rattle.edge_trace.specs.Readings.{form_of, HasRead}
use Rattle.edge_trace.proofs.Reading.{no_time, first_row}
use Rattle.edge_trace.proofs.heads.read_forming.Goals as goal

pub returns-in-None-clause-read : goal.returns-in-None-clause-read
returns-in-None-clause-read c = λ has.
    subst (λ (r : Result Read LineFault). MatchResult c.read_row.result (λ next. HasRead next c.read_row.new.levels c.read_row.new.edges r) (λ fault. r ≡ Err fault))
    (first_row c.args.unit c.args.content.now (form_of c.form_in.result) c.in-None.ensures c.form_in.ensures.value)
    (c.read_row.ensures.read [] [] (no_time (form_of c.form_in.result)) has)

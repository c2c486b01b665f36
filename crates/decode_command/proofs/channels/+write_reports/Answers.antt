-- The line of the first report, and then those of the others.
use Rattle.std.proofs.Common.{subst, sym, List, ℕ}
use Rattle.std.proofs.lemmas.Result.{err_from_is_err_and}
use Rattle.decode_command.specs.Writes.{Takes}
use Rattle.decode_command.proofs.Answers.{on-ok, on-err}
use Rattle.decode_command.proofs.Writing.{takes-nothing, no-lines}
use Rattle.decode_command.proofs.Taking.{both-written, second-cut, first-cut, lines-parts, none-left}
use Rattle.decode_command.proofs.channels.+write_reports.Goals as goal

pub returns-in-None-clause-written : goal.returns-in-None-clause-written
returns-in-None-clause-written g t c =
    subst (λ (text : List ℕ). Takes (record { got = g.K.Sink.got c.args.out.now; gathered = c.args.text.now }) (record { got = g.K.Sink.got c.args.out.now; gathered = c.args.text.now }) text)
    (sym (no-lines c.args.number c.args.reports.now (none-left c.args.reports.now c.in-None.ensures.cases))) (takes-nothing _)

pub returns-in_err-write_line-in-Some-clause-cut : goal.returns-in_err-write_line-in-Some-clause-cut
returns-in_err-write_line-in-Some-clause-cut g t c =
    let p = err_from_is_err_and c.from_residual.result c.from_residual.ensures.1 in
    rw p.1
    (first-cut _ _ _ _ _ (lines-parts c.args.number c.args.reports.now c.in-Some.report.now c.in-Some.others.now c.in-Some.ensures.cases.0) c.in_err-write_line-in-Some.ensures.cut)

pub returns-in_ok-write_line-in-Some-clause-written : goal.returns-in_ok-write_line-in-Some-clause-written
returns-in_ok-write_line-in-Some-clause-written g t c =
    on-ok c.write_reports.result c.write_reports.ensures.written (λ others.
    both-written _ _ _ _ _ _ (lines-parts c.args.number c.args.reports.now c.in-Some.report.now c.in-Some.others.now c.in-Some.ensures.cases.0) c.in_ok-write_line-in-Some.ensures.written others)

pub returns-in_ok-write_line-in-Some-clause-cut : goal.returns-in_ok-write_line-in-Some-clause-cut
returns-in_ok-write_line-in-Some-clause-cut g t c =
    on-err c.write_reports.result c.write_reports.ensures.cut (λ others.
    second-cut _ _ _ _ _ _ (lines-parts c.args.number c.args.reports.now c.in-Some.report.now c.in-Some.others.now c.in-Some.ensures.cases.0) c.in_ok-write_line-in-Some.ensures.written others)

-- The total line of the first channel, and then those of the others.
use Rattle.std.proofs.Common.{subst, List, ℕ}
use Rattle.std.proofs.lemmas.Result.{err_from_is_err_and}
use Rattle.decode_command.specs.Writes.{Takes}
use Rattle.decode_command.proofs.Answers.{on-ok, on-err}
use Rattle.decode_command.proofs.Writing.{takes-nothing}
use Rattle.decode_command.proofs.Taking.{both-written, second-cut, first-cut, none-left, counted-parts, total-parts, total-none}
use Rattle.decode_command.proofs.channels.+write_totals.Goals as goal

pub returns-in-None-clause-written : goal.returns-in-None-clause-written
returns-in-None-clause-written g t c = λ edges before.
    subst (λ (text : List ℕ). Takes (record { got = g.K.Sink.got c.args.out.now; gathered = c.args.text.now }) (record { got = g.K.Sink.got c.args.out.now; gathered = c.args.text.now }) text)
    (total-none c.args.number c.args.channels.now edges (none-left c.args.channels.now c.in-None.ensures.cases)) (takes-nothing _)

pub returns-in_err-write_total_line-in-Some-clause-cut : goal.returns-in_err-write_total_line-in-Some-clause-cut
returns-in_err-write_total_line-in-Some-clause-cut g t c =
    let p = err_from_is_err_and c.from_residual.result c.from_residual.ensures.1 in
    rw p.1 (λ edges before. first-cut _ _ _ _ _ (total-parts c.args.number c.args.channels.now c.in-Some.channel.now c.in-Some.others.now edges c.in-Some.ensures.cases.0 before) c.in_err-write_total_line-in-Some.ensures.cut)

pub returns-in_ok-write_total_line-in-Some-clause-written : goal.returns-in_ok-write_total_line-in-Some-clause-written
returns-in_ok-write_total_line-in-Some-clause-written g t c =
    on-ok c.write_totals.result c.write_totals.ensures.written (λ written edges before.
    both-written _ _ _ _ _ _ (total-parts c.args.number c.args.channels.now c.in-Some.channel.now c.in-Some.others.now edges c.in-Some.ensures.cases.0 before)
    c.in_ok-write_total_line-in-Some.ensures.written (written edges (counted-parts c.args.channels.now c.in-Some.channel.now c.in-Some.others.now edges c.in-Some.ensures.cases.0 before)))

pub returns-in_ok-write_total_line-in-Some-clause-cut : goal.returns-in_ok-write_total_line-in-Some-clause-cut
returns-in_ok-write_total_line-in-Some-clause-cut g t c =
    on-err c.write_totals.result c.write_totals.ensures.cut (λ cut edges before.
    second-cut _ _ _ _ _ _ (total-parts c.args.number c.args.channels.now c.in-Some.channel.now c.in-Some.others.now edges c.in-Some.ensures.cases.0 before)
    c.in_ok-write_total_line-in-Some.ensures.written (cut edges (counted-parts c.args.channels.now c.in-Some.channel.now c.in-Some.others.now edges c.in-Some.ensures.cases.0 before)))

-- The end goes to the first channel, and then to the others.
use Rattle.std.proofs.Common.{subst, List, ℕ}
use Rattle.std.proofs.lemmas.Result.{err_from_is_err_and}
use Rattle.decode_command.specs.Writes.{Takes}
use Rattle.decode_command.proofs.Answers.{on-ok, on-err}
use Rattle.decode_command.proofs.Writing.{takes-nothing}
use Rattle.decode_command.proofs.Taking.{both-written, second-cut, first-cut, none-left, follow-parts, end-parts, end-none}
use Rattle.decode_command.proofs.channels.+take_end.Goals as goal

pub returns-in-None-clause-written : goal.returns-in-None-clause-written
returns-in-None-clause-written g t c = λ edges before.
    subst (λ (text : List ℕ). Takes (record { got = g.K.Sink.got c.args.out.now; gathered = c.args.text.now }) (record { got = g.K.Sink.got c.args.out.now; gathered = c.args.text.now }) text)
    (end-none c.args.told c.args.number c.args.channels.now edges (none-left c.args.channels.now c.in-None.ensures.cases)) (takes-nothing _)

pub returns-in_err-take_end_on-in-Some-clause-cut : goal.returns-in_err-take_end_on-in-Some-clause-cut
returns-in_err-take_end_on-in-Some-clause-cut g t c =
    let p = err_from_is_err_and c.from_residual.result c.from_residual.ensures.1 in
    rw p.1 (λ edges before.
    let follow = follow-parts c.args.channels.now c.in-Some.channel.now c.in-Some.others.now edges c.in-Some.ensures.cases.0 before in
    first-cut _ _ _ _ _ (end-parts c.args.told c.args.number c.args.channels.now c.in-Some.channel.now c.in-Some.others.now edges c.in-Some.ensures.cases.0)
    (c.in_err-take_end_on-in-Some.ensures.cut edges follow.0))

pub returns-in_ok-take_end_on-in-Some-clause-written : goal.returns-in_ok-take_end_on-in-Some-clause-written
returns-in_ok-take_end_on-in-Some-clause-written g t c =
    on-ok c.take_end.result c.take_end.ensures.written (λ written edges before.
    let follow = follow-parts c.args.channels.now c.in-Some.channel.now c.in-Some.others.now edges c.in-Some.ensures.cases.0 before in
    both-written _ _ _ _ _ _ (end-parts c.args.told c.args.number c.args.channels.now c.in-Some.channel.now c.in-Some.others.now edges c.in-Some.ensures.cases.0)
    (c.in_ok-take_end_on-in-Some.ensures.written edges follow.0) (written edges follow.1))

pub returns-in_ok-take_end_on-in-Some-clause-cut : goal.returns-in_ok-take_end_on-in-Some-clause-cut
returns-in_ok-take_end_on-in-Some-clause-cut g t c =
    on-err c.take_end.result c.take_end.ensures.cut (λ cut edges before.
    let follow = follow-parts c.args.channels.now c.in-Some.channel.now c.in-Some.others.now edges c.in-Some.ensures.cases.0 before in
    second-cut _ _ _ _ _ _ (end-parts c.args.told c.args.number c.args.channels.now c.in-Some.channel.now c.in-Some.others.now edges c.in-Some.ensures.cases.0)
    (c.in_ok-take_end_on-in-Some.ensures.written edges follow.0) (cut edges follow.1))

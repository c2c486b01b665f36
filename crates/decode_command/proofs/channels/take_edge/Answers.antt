-- The edge goes to the first channel, and then to the others, if there are any.
use Rattle.std.proofs.Common.{subst, List, ℕ, sym, [], ◌∷◌, ◌++◌}
use Rattle.std.proofs.lemmas.Bool.{eqb-true}
use Rattle.std.proofs.lemmas.Result.{err_from_is_err_and}
use Rattle.decode_command.specs.Writes.{Takes}
use Rattle.decode_command.proofs.Answers.{on-ok, on-err}
use Rattle.decode_command.proofs.Writing.{takes-nothing}
use Rattle.decode_command.proofs.Taking.{both-written, second-cut, first-cut, none-left, follow-parts, none-follow, edge-parts, edge-none}
use Rattle.decode_command.proofs.channels.take_edge.Goals as goal

pub returns-in-None-clause-written : goal.returns-in-None-clause-written
returns-in-None-clause-written g c = λ edges before.
    subst (λ (text : List ℕ). Takes (record { got = g.K.Sink.got c.args.out.now; gathered = c.args.text.now }) (record { got = g.K.Sink.got c.args.out.now; gathered = c.args.text.now }) text)
    (edge-none c.args.told 0 c.args.channels.now edges c.args.edge (none-left c.args.channels.now c.in-None.ensures.cases)) (takes-nothing _)

pub returns-in_err-take_edge_on-in-Some-clause-cut : goal.returns-in_err-take_edge_on-in-Some-clause-cut
returns-in_err-take_edge_on-in-Some-clause-cut g c =
    let p = err_from_is_err_and c.from_residual.result c.from_residual.ensures.1 in
    rw p.1 (λ edges before.
    let follow = follow-parts c.args.channels.now c.in-Some.channel.now c.in-Some.others.now edges c.in-Some.ensures.cases.0 before in
    first-cut _ _ _ _ _ (edge-parts c.args.told 0 c.args.channels.now c.in-Some.channel.now c.in-Some.others.now edges c.args.edge c.in-Some.ensures.cases.0)
    (c.in_err-take_edge_on-in-Some.ensures.cut edges follow.0))

pub returns-then-is_empty-clause-written : goal.returns-then-is_empty-clause-written
returns-then-is_empty-clause-written g c = λ edges before.
    let follow = follow-parts c.args.channels.now c.in-Some.channel.now c.in-Some.others.now edges c.in-Some.ensures.cases.0 before in
    both-written _ _ _ _ _ _ (edge-parts c.args.told 0 c.args.channels.now c.in-Some.channel.now c.in-Some.others.now edges c.args.edge c.in-Some.ensures.cases.0)
    (c.in_ok-take_edge_on-in-Some.ensures.written edges follow.0)
    (subst (λ (text : List ℕ). Takes (record { got = g.K.Sink.got c.take_edge_on.new.out; gathered = c.take_edge_on.new.text }) (record { got = g.K.Sink.got c.take_edge_on.new.out; gathered = c.take_edge_on.new.text }) text)
    (edge-none c.args.told 1 c.in-Some.others.now edges c.args.edge (none-left c.in-Some.others.now (eqb-true _ _ (sym c.if-is_empty.ensures)))) (takes-nothing _))

pub returns-then-is_empty-clause-follow : goal.returns-then-is_empty-clause-follow
returns-then-is_empty-clause-follow g c = λ edges before.
    let follow = follow-parts c.args.channels.now c.in-Some.channel.now c.in-Some.others.now edges c.in-Some.ensures.cases.0 before in
    (c.in_ok-take_edge_on-in-Some.ensures.follows edges follow.0, none-follow c.in-Some.others.now (edges ++ c.args.edge ∷ []) (eqb-true _ _ (sym c.if-is_empty.ensures)))

pub returns-else-is_empty-clause-written : goal.returns-else-is_empty-clause-written
returns-else-is_empty-clause-written g c =
    on-ok c.take_edge_by_others.result c.take_edge_by_others.ensures.written (λ written edges before.
    let follow = follow-parts c.args.channels.now c.in-Some.channel.now c.in-Some.others.now edges c.in-Some.ensures.cases.0 before in
    both-written _ _ _ _ _ _ (edge-parts c.args.told 0 c.args.channels.now c.in-Some.channel.now c.in-Some.others.now edges c.args.edge c.in-Some.ensures.cases.0)
    (c.in_ok-take_edge_on-in-Some.ensures.written edges follow.0) (written edges follow.1))

pub returns-else-is_empty-clause-cut : goal.returns-else-is_empty-clause-cut
returns-else-is_empty-clause-cut g c =
    on-err c.take_edge_by_others.result c.take_edge_by_others.ensures.cut (λ cut edges before.
    let follow = follow-parts c.args.channels.now c.in-Some.channel.now c.in-Some.others.now edges c.in-Some.ensures.cases.0 before in
    second-cut _ _ _ _ _ _ (edge-parts c.args.told 0 c.args.channels.now c.in-Some.channel.now c.in-Some.others.now edges c.args.edge c.in-Some.ensures.cases.0)
    (c.in_ok-take_edge_on-in-Some.ensures.written edges follow.0) (cut edges follow.1))

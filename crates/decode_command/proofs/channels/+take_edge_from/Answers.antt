-- Channels of other lines are passed over; the edge goes to the next one, and then to the others.
use Rattle.std.proofs.Common.{subst, List, ℕ, ◌+◌, ◌++◌, [], ◌∷◌, length, sym, ◌∙◌, ap, arith}
use Rattle.std.proofs.lemmas.Result.{err_from_is_err_and}
use Rattle.decode_command.specs.Writes.{Takes}
use Rattle.decode_command.proofs.Answers.{on-ok, on-err}
use Rattle.decode_command.proofs.Writing.{takes-nothing}
use Rattle.decode_command.proofs.Taking.{both-written, second-cut, first-cut, none-left, none-follow, follow-parts, edge-parts, edge-none}
use Rattle.decode_command.proofs.Passing.{parted, passed-told, reading-follow, joined-follow}
use Rattle.decode_command.proofs.channels.+take_edge_from.Goals as goal

pub take_edge_on-requires-clause-follows : goal.take_edge_on-requires-clause-follows
take_edge_on-requires-clause-follows g t c =
    let p = parted c.args.channels.now c.split_at_mut-reading.result.0.now c.split_at_mut-reading.result.1.now c.args.edge.line c.args.number c.passed_over-passed.result
    c.split_at_mut-reading.ensures.value c.split_at_mut-reading.ensures.front c.split_at_mut-reading.ensures.front_len c.passed_over-passed.ensures.others in
    let edges = c.requires.follow.0 in
    let follow = follow-parts c.split_at_mut-reading.result.1.now c.in-Some.channel.now c.in-Some.others.now edges c.in-Some.ensures.cases.0 (reading-follow c.args.channels.now c.split_at_mut-reading.result.0.now c.split_at_mut-reading.result.1.now c.args.edge.line c.args.number (c.args.number + c.passed_over-passed.result) edges p c.requires.follow.1) in
    (edges, follow.0, c.requires.follow.2)

pub returns-in_err-take_edge_on-in-Some-clause-cut : goal.returns-in_err-take_edge_on-in-Some-clause-cut
returns-in_err-take_edge_on-in-Some-clause-cut g t c =
    let p = parted c.args.channels.now c.split_at_mut-reading.result.0.now c.split_at_mut-reading.result.1.now c.args.edge.line c.args.number c.passed_over-passed.result
    c.split_at_mut-reading.ensures.value c.split_at_mut-reading.ensures.front c.split_at_mut-reading.ensures.front_len c.passed_over-passed.ensures.others in
    let e = err_from_is_err_and c.from_residual.result c.from_residual.ensures.1 in
    rw e.1 (λ edges before.
    let follow = follow-parts c.split_at_mut-reading.result.1.now c.in-Some.channel.now c.in-Some.others.now edges c.in-Some.ensures.cases.0 (reading-follow c.args.channels.now c.split_at_mut-reading.result.0.now c.split_at_mut-reading.result.1.now c.args.edge.line c.args.number (c.args.number + c.passed_over-passed.result) edges p before) in
    first-cut _ _ _ _ _ (sym (passed-told c.args.told c.args.number (c.args.number + c.passed_over-passed.result) c.args.channels.now c.split_at_mut-reading.result.0.now c.split_at_mut-reading.result.1.now edges c.args.edge p) ∙ edge-parts c.args.told (c.args.number + c.passed_over-passed.result) c.split_at_mut-reading.result.1.now c.in-Some.channel.now c.in-Some.others.now edges c.args.edge c.in-Some.ensures.cases.0)
    (c.in_err-take_edge_on-in-Some.ensures.cut edges follow.0))

pub take_edge_from-requires : goal.take_edge_from-requires
take_edge_from-requires g t c κs within =
    let p = parted c.args.channels.now c.split_at_mut-reading.result.0.now c.split_at_mut-reading.result.1.now c.args.edge.line c.args.number c.passed_over-passed.result
    c.split_at_mut-reading.ensures.value c.split_at_mut-reading.ensures.front c.split_at_mut-reading.ensures.front_len c.passed_over-passed.ensures.others in
    let edges = c.requires.follow.0 in
    let follow = follow-parts c.split_at_mut-reading.result.1.now c.in-Some.channel.now c.in-Some.others.now edges c.in-Some.ensures.cases.0 (reading-follow c.args.channels.now c.split_at_mut-reading.result.0.now c.split_at_mut-reading.result.1.now c.args.edge.line c.args.number (c.args.number + c.passed_over-passed.result) edges p c.requires.follow.1) in
    let some = ap length c.in-Some.ensures.cases.0 in
    let less = c.split_at_mut-reading.ensures.back_len in
    let few = c.requires.few in
    (omega (arith, some, less), (within, (omega (arith, some, less, few), (c.requires.in_range, (c.take_edge_on.ensures.empty, (edges, follow.1, c.requires.follow.2))))))

pub returns-in-None-clause-follow : goal.returns-in-None-clause-follow
returns-in-None-clause-follow g t c = λ edges before.
    let p = parted c.args.channels.now c.split_at_mut-reading.result.0.now c.split_at_mut-reading.result.1.now c.args.edge.line c.args.number c.passed_over-passed.result
    c.split_at_mut-reading.ensures.value c.split_at_mut-reading.ensures.front c.split_at_mut-reading.ensures.front_len c.passed_over-passed.ensures.others in
    joined-follow c.args.channels.now c.split_at_mut-reading.result.0.now c.split_at_mut-reading.result.1.now c.split_at_mut-reading.result.1.now c.args.number (c.args.number + c.passed_over-passed.result) edges c.args.edge p before (none-follow c.split_at_mut-reading.result.1.now (edges ++ c.args.edge ∷ []) c.in-None.ensures.cases)

pub returns-in-None-clause-written : goal.returns-in-None-clause-written
returns-in-None-clause-written g t c = λ edges before.
    let p = parted c.args.channels.now c.split_at_mut-reading.result.0.now c.split_at_mut-reading.result.1.now c.args.edge.line c.args.number c.passed_over-passed.result
    c.split_at_mut-reading.ensures.value c.split_at_mut-reading.ensures.front c.split_at_mut-reading.ensures.front_len c.passed_over-passed.ensures.others in
    subst (λ (text : List ℕ). Takes (record { got = g.K.Sink.got c.args.out.now; gathered = c.args.text.now }) (record { got = g.K.Sink.got c.args.out.now; gathered = c.args.text.now }) text)
    (edge-none c.args.told (c.args.number + c.passed_over-passed.result) c.split_at_mut-reading.result.1.now edges c.args.edge (none-left c.split_at_mut-reading.result.1.now c.in-None.ensures.cases) ∙ passed-told c.args.told c.args.number (c.args.number + c.passed_over-passed.result) c.args.channels.now c.split_at_mut-reading.result.0.now c.split_at_mut-reading.result.1.now edges c.args.edge p) (takes-nothing _)

pub returns-in_ok-take_edge_on-in-Some-clause-follow : goal.returns-in_ok-take_edge_on-in-Some-clause-follow
returns-in_ok-take_edge_on-in-Some-clause-follow g t c =
    let p = parted c.args.channels.now c.split_at_mut-reading.result.0.now c.split_at_mut-reading.result.1.now c.args.edge.line c.args.number c.passed_over-passed.result
    c.split_at_mut-reading.ensures.value c.split_at_mut-reading.ensures.front c.split_at_mut-reading.ensures.front_len c.passed_over-passed.ensures.others in
    on-ok c.take_edge_from.result c.take_edge_from.ensures.follow (λ taken edges before.
    let follow = follow-parts c.split_at_mut-reading.result.1.now c.in-Some.channel.now c.in-Some.others.now edges c.in-Some.ensures.cases.0 (reading-follow c.args.channels.now c.split_at_mut-reading.result.0.now c.split_at_mut-reading.result.1.now c.args.edge.line c.args.number (c.args.number + c.passed_over-passed.result) edges p before) in
    joined-follow c.args.channels.now c.split_at_mut-reading.result.0.now c.split_at_mut-reading.result.1.now (c.take_edge_on.new.channel ∷ c.take_edge_from.new.channels) c.args.number (c.args.number + c.passed_over-passed.result) edges c.args.edge p before
    (c.in_ok-take_edge_on-in-Some.ensures.follows edges follow.0, taken edges follow.1))

pub returns-in_ok-take_edge_on-in-Some-clause-written : goal.returns-in_ok-take_edge_on-in-Some-clause-written
returns-in_ok-take_edge_on-in-Some-clause-written g t c =
    let p = parted c.args.channels.now c.split_at_mut-reading.result.0.now c.split_at_mut-reading.result.1.now c.args.edge.line c.args.number c.passed_over-passed.result
    c.split_at_mut-reading.ensures.value c.split_at_mut-reading.ensures.front c.split_at_mut-reading.ensures.front_len c.passed_over-passed.ensures.others in
    on-ok c.take_edge_from.result c.take_edge_from.ensures.written (λ written edges before.
    let follow = follow-parts c.split_at_mut-reading.result.1.now c.in-Some.channel.now c.in-Some.others.now edges c.in-Some.ensures.cases.0 (reading-follow c.args.channels.now c.split_at_mut-reading.result.0.now c.split_at_mut-reading.result.1.now c.args.edge.line c.args.number (c.args.number + c.passed_over-passed.result) edges p before) in
    both-written _ _ _ _ _ _ (sym (passed-told c.args.told c.args.number (c.args.number + c.passed_over-passed.result) c.args.channels.now c.split_at_mut-reading.result.0.now c.split_at_mut-reading.result.1.now edges c.args.edge p) ∙ edge-parts c.args.told (c.args.number + c.passed_over-passed.result) c.split_at_mut-reading.result.1.now c.in-Some.channel.now c.in-Some.others.now edges c.args.edge c.in-Some.ensures.cases.0)
    (c.in_ok-take_edge_on-in-Some.ensures.written edges follow.0) (written edges follow.1))

pub returns-in_ok-take_edge_on-in-Some-clause-cut : goal.returns-in_ok-take_edge_on-in-Some-clause-cut
returns-in_ok-take_edge_on-in-Some-clause-cut g t c =
    let p = parted c.args.channels.now c.split_at_mut-reading.result.0.now c.split_at_mut-reading.result.1.now c.args.edge.line c.args.number c.passed_over-passed.result
    c.split_at_mut-reading.ensures.value c.split_at_mut-reading.ensures.front c.split_at_mut-reading.ensures.front_len c.passed_over-passed.ensures.others in
    on-err c.take_edge_from.result c.take_edge_from.ensures.cut (λ cut edges before.
    let follow = follow-parts c.split_at_mut-reading.result.1.now c.in-Some.channel.now c.in-Some.others.now edges c.in-Some.ensures.cases.0 (reading-follow c.args.channels.now c.split_at_mut-reading.result.0.now c.split_at_mut-reading.result.1.now c.args.edge.line c.args.number (c.args.number + c.passed_over-passed.result) edges p before) in
    second-cut _ _ _ _ _ _ (sym (passed-told c.args.told c.args.number (c.args.number + c.passed_over-passed.result) c.args.channels.now c.split_at_mut-reading.result.0.now c.split_at_mut-reading.result.1.now edges c.args.edge p) ∙ edge-parts c.args.told (c.args.number + c.passed_over-passed.result) c.split_at_mut-reading.result.1.now c.in-Some.channel.now c.in-Some.others.now edges c.args.edge c.in-Some.ensures.cases.0)
    (c.in_ok-take_edge_on-in-Some.ensures.written edges follow.0) (cut edges follow.1))

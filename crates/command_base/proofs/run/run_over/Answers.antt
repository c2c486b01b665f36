use Rattle.std.proofs.Common.{◌≡◌, ℕ, [], length, take, subst, ◌∙◌, arith}
use Rattle.std.proofs.lemmas.List.{length-take-le}
use Rattle.std.specs.Io.KnownBytes.{Consumes}
use Rattle.command_base.proofs.Pulls.{pulled-nothing, pulled-more, pulls-end, pull-failed, pull-ended, pull-stopped}
use Rattle.command_base.specs.Counted.{OutputCounted}
use Rattle.command_base.proofs.Counting.{finished-source, stopped-source, stopped-of_run}
use Rattle.command_base.proofs.run.run_over.Goals as goal

pub loop-pull-init : goal.loop-pull-init
loop-pull-init g c = λ task steady sound reads.
    pulled-nothing task (g.R.TaskRun.has_put task c.args.run.now) (g.S.Source.left c.args.source.now) (g.K.Sink.got c.args.out.now) (g.S.Source.faults c.args.source.now) (g.K.Sink.faults c.args.out.now) steady reads sound

pub returns-in-Err-clause-ended : goal.returns-in-Err-clause-ended
returns-in-Err-clause-ended g c = λ task steady sound reads.
    pull-failed task (g.R.TaskRun.has_put task c.loop-pull.run) c.loop-pull._pull _ _ _ _ _ _ _ _ _ (c.loop-pull.invariant task steady sound reads) c.in-Err.ensures.bytes

pub returns-then-count-eq0-clause-ended : goal.returns-then-count-eq0-clause-ended
returns-then-count-eq0-clause-ended g c = λ task steady sound reads.
    let so_far = c.loop-pull.invariant task steady sound reads in
    let bytes = c.in-Ok.ensures.bytes in
    let consumed : Consumes (g.S.Source.left c.loop-pull.source) (g.S.Source.left c.pull.new.self) [] =
    subst (λ (n : ℕ). Consumes (g.S.Source.left c.loop-pull.source) (g.S.Source.left c.pull.new.self) (take n c.pull.new.buf)) c.if-count-eq0.true bytes.0 in
    pull-ended task (g.R.TaskRun.has_put task c.loop-pull.run) c.loop-pull._pull c.finish.result _ _ _ _ _ _ _ _ _ _ so_far consumed (bytes.1 c.if-count-eq0.true (omega arith)) (c.finish.ensures.ends task so_far.taken so_far.reads)

pub returns-in-Err-take_pull-clause-ended : goal.returns-in-Err-take_pull-clause-ended
returns-in-Err-take_pull-clause-ended g c = λ task steady sound reads.
    let so_far = c.loop-pull.invariant task steady sound reads in
    let block = take c.in-Ok.count c.pull.new.buf in
    pull-stopped task (g.R.TaskRun.has_put task c.loop-pull.run) c.loop-pull._pull c.in-Err-take_pull.reason _ _ _ _ _ _ _ _ _ _ block so_far steady
    (let long : length block ≡ c.in-Ok.count = length-take-le c.in-Ok.count c.pull.new.buf c.in-Ok.ensures.bound.0 in
    let top = c.in-Ok.ensures.bound.0 in let same = c.pull.auto.buf in let first = c.loop-pull.auto.buffer in omega (arith, long, top, same, first, c.requires.size))
    c.in-Ok.ensures.bytes.0 (c.in-Err-take_pull.ensures.stopped task so_far.taken so_far.reads)

pub loop-pull-preserved : goal.loop-pull-preserved
loop-pull-preserved g c = λ task steady sound reads.
    let so_far = c.loop-pull.invariant task steady sound reads in
    let block = take c.in-Ok.count c.pull.new.buf in
    let long : length block ≡ c.in-Ok.count = length-take-le c.in-Ok.count c.pull.new.buf c.in-Ok.ensures.bound.0 in
    pulled-more task (g.R.TaskRun.has_put task c.loop-pull.run) (g.R.TaskRun.has_put task c.take_pull.new.self) c.loop-pull._pull _ _ _ _ _ _ _ _ _ _ _ _ block so_far
    (let some = c.if-count-eq0.false in omega (arith, long)) c.in-Ok.ensures.bytes.0 (c.in_default.ensures.took task so_far.taken so_far.reads) (c.in_default.ensures.sound task so_far.taken so_far.reads)
    (c.in_default.ensures.grows task so_far.taken so_far.reads) c.in-Ok.ensures.cause.kept c.in_default.ensures.output

pub unreachable-requires : goal.unreachable-requires
unreachable-requires g c =
    let stands = c.requires.stands in
    let few = pulls-end stands.0 (g.R.TaskRun.has_put stands.0 c.loop-pull.run) c.loop-pull._pull _ _ _ _ _ _ _ _ stands.1 (c.loop-pull.invariant stands.0 stands.1 stands.2 stands.3) in
    absurd (omega (arith, few, c.loop-pull-test.false))

pub finish-requires : goal.finish-requires
finish-requires g c =
    let stands = c.requires.stands in
    let so_far = c.loop-pull.invariant stands.0 stands.1 stands.2 stands.3 in
    (stands.0, so_far.taken, so_far.reads)

pub take_pull-requires : goal.take_pull-requires
take_pull-requires g c =
    let stands = c.requires.stands in
    let so_far = c.loop-pull.invariant stands.0 stands.1 stands.2 stands.3 in
    (stands.0, so_far.taken, so_far.reads)

pub returns-then-count-eq0-clause-source : goal.returns-then-count-eq0-clause-source
returns-then-count-eq0-clause-source g c =
    let stands = c.requires.stands in
    let so_far = c.loop-pull.invariant stands.0 stands.1 stands.2 stands.3 in
    finished-source stands.0 c.finish.result _ _ so_far.taken _ _ (c.finish.ensures.ends stands.0 so_far.taken so_far.reads) (c.in-Ok.ensures.cause.kept ∙ so_far.source_kept)

pub returns-in-Err-take_pull-clause-kind : goal.returns-in-Err-take_pull-clause-kind
returns-in-Err-take_pull-clause-kind g c =
    let stands = c.requires.stands in
    let so_far = c.loop-pull.invariant stands.0 stands.1 stands.2 stands.3 in
    stopped-of_run stands.0 c.in-Err-take_pull.reason _ _ _ _ (c.in-Err-take_pull.ensures.stopped stands.0 so_far.taken so_far.reads)

pub returns-in-Err-take_pull-clause-source : goal.returns-in-Err-take_pull-clause-source
returns-in-Err-take_pull-clause-source g c =
    let stands = c.requires.stands in
    let so_far = c.loop-pull.invariant stands.0 stands.1 stands.2 stands.3 in
    stopped-source stands.0 c.in-Err-take_pull.reason _ _ _ _ _ _ (c.in-Err-take_pull.ensures.stopped stands.0 so_far.taken so_far.reads) (c.in-Ok.ensures.cause.kept ∙ so_far.source_kept)

pub returns-in-Err-take_pull-clause-output : goal.returns-in-Err-take_pull-clause-output
returns-in-Err-take_pull-clause-output g c =
    let stands = c.requires.stands in
    let so_far = c.loop-pull.invariant stands.0 stands.1 stands.2 stands.3 in
    subst (λ (n : ℕ). OutputCounted c.in-Err-take_pull.reason n (g.K.Sink.faults c.take_pull.new.out)) so_far.output_kept c.in-Err-take_pull.ensures.output

-- An interval that leaves a frame unfinished.
use Rattle.std.proofs.Common.{refl, subst, arith}
use Rattle.psi5_downlink.specs.Kept.{MayGoOn}
use Rattle.psi5_downlink.proofs.Judging.{open-more, verdict-unfinished}
use Rattle.psi5_downlink.proofs.verdict.goes_on.Goals as goal

pub returns-clause-open : goal.returns-clause-open
returns-clause-open c =
    open-more c.args.form c.args.bits.now c.push_interval.new.bits c.args.periods c.push_interval.ensures c.requires.open
    (subst (λ n. MayGoOn c.args.form n c.args.periods) c.len.ensures.value (c.if-not-leaves_unfinished.ensures refl))

pub returns-clause-value : goal.returns-clause-value
returns-clause-value c = λ _.
    let more = open-more c.args.form c.args.bits.now c.push_interval.new.bits c.args.periods c.push_interval.ensures c.requires.open
    (subst (λ n. MayGoOn c.args.form n c.args.periods) c.len.ensures.value (c.if-not-leaves_unfinished.ensures refl)) in
    verdict-unfinished c.args.form c.args.bits.now c.push_interval.new.bits c.args.periods c.if-periods-eq0.false c.push_interval.ensures more.allowed (λ all. omega (arith, all, more.due))

-- Outside a frame, where six periods begin one, and within one that goes on.
use Rattle.std.proofs.lemmas.Bool.{ne_eqb}
use Rattle.psi5_downlink.specs.declared.verdict.Verdict.TheVariants.{Unfinished}
use Rattle.psi5_downlink.proofs.Leading.{outside-other, outside-start, within-on}
use Rattle.psi5_downlink.proofs.reader.keeps_on.Goals as goal

pub returns-then-periods-eq-START-clause-leads : goal.returns-then-periods-eq-START-clause-leads
returns-then-periods-eq-START-clause-leads c = λ kept number later. rw (c.in-Outside.is, c.if-periods-eq-START.true, c.new.ensures) (outside-start c.args.form number later)

pub returns-else-periods-eq-START-clause-leads : goal.returns-else-periods-eq-START-clause-leads
returns-else-periods-eq-START-clause-leads c = λ kept number later. rw c.in-Outside.is (outside-other c.args.form number c.args.periods later (ne_eqb c.args.periods 6 c.if-periods-eq-START.false))

pub returns-in-Within-clause-leads : goal.returns-in-Within-clause-leads
returns-in-Within-clause-leads c = λ kept number later.
    rw c.in-Within.is (within-on c.args.form c.in-Within.bits (record { number = number; periods = c.args.periods }) later (Unfinished c.goes_on.new.bits) (c.goes_on.ensures.value kept))

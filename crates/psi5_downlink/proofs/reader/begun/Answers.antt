-- Six periods begin a frame.
use Rattle.std.proofs.lemmas.Bool.{ne_eqb}
use Rattle.psi5_downlink.proofs.Leading.{outside-start, outside-other}
use Rattle.psi5_downlink.proofs.reader.begun.Goals as goal

pub returns-then-periods-eq-START-clause-leads : goal.returns-then-periods-eq-START-clause-leads
returns-then-periods-eq-START-clause-leads c = λ form number later. rw (c.if-periods-eq-START.true, c.new.ensures) (outside-start form number later)

pub returns-else-periods-eq-START-clause-leads : goal.returns-else-periods-eq-START-clause-leads
returns-else-periods-eq-START-clause-leads c = λ form number later. outside-other form number c.args.periods later (ne_eqb c.args.periods 6 c.if-periods-eq-START.false)

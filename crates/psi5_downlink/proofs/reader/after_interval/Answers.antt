-- Outside a frame, and by what an interval in one comes to.
use Rattle.std.proofs.Common.{◌∙◌, ap, ◌∷◌}
use Rattle.psi5_downlink.specs.declared.step.ToothStep.TheVariants.{Bad}
use Rattle.psi5_downlink.specs.declared.verdict.Verdict.TheVariants.{Unfinished, Whole, Broken}
use Rattle.psi5_downlink.proofs.Leading.{within-on}
use Rattle.psi5_downlink.proofs.reader.after_interval.Goals as goal

pub returns-in-Outside-clause-valid : goal.returns-in-Outside-clause-valid
returns-in-Outside-clause-valid c = c.begun.ensures.valid c.args.form

pub returns-in-Unfinished-clause-leads : goal.returns-in-Unfinished-clause-leads
returns-in-Unfinished-clause-leads c = λ later.
    rw c.in-Within.is (within-on c.args.form c.in-Within.bits (record { number = c.args.number; periods = c.args.periods }) later (Unfinished c.in-Unfinished.joined) c.in-Unfinished.ensures.value)

pub returns-in-Whole-clause-leads : goal.returns-in-Whole-clause-leads
returns-in-Whole-clause-leads c = λ later.
    rw c.in-Within.is (within-on c.args.form c.in-Within.bits (record { number = c.args.number; periods = c.args.periods }) later (Whole c.in-Whole.down) c.in-Whole.ensures.value)

pub returns-in-Broken-clause-valid : goal.returns-in-Broken-clause-valid
returns-in-Broken-clause-valid c = c.begun-in-Broken.ensures.valid c.args.form

pub returns-in-Broken-clause-leads : goal.returns-in-Broken-clause-leads
returns-in-Broken-clause-leads c = λ later.
    rw c.in-Within.is (within-on c.args.form c.in-Within.bits (record { number = c.args.number; periods = c.args.periods }) later (Broken c.in-Broken.rule) c.in-Broken.ensures.value)
    ∙ ap (λ l. Bad c.args.number c.in-Broken.rule ∷ l) (c.begun-in-Broken.ensures.leads c.args.form c.args.number later)

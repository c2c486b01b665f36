-- The first rise, and a later one that ends nothing.
use Rattle.std.proofs.Common.{◌∙◌, [], append-nil}
use Rattle.psi5_downlink.specs.Reading.{tooth_reading}
use Rattle.psi5_downlink.proofs.Leading.{first-pushed, later-pushed}
use Rattle.psi5_downlink.proofs.reader.ToothReader.passes.Goals as goal

pub returns-in_default-clause-stands : goal.returns-in_default-clause-stands
returns-in_default-clause-stands c = λ _ setup seen number before.
    (first-pushed setup c.self.inside.setup c.self.inside.last c.self.inside.state _ seen (record { number = number; time = c.args.time }) c.self.view_is c.in_default.is before).0

pub returns-in_default-clause-quiet : goal.returns-in_default-clause-quiet
returns-in_default-clause-quiet c = λ _ setup seen number before.
    (first-pushed setup c.self.inside.setup c.self.inside.last c.self.inside.state _ seen (record { number = number; time = c.args.time }) c.self.view_is c.in_default.is before).1
    ∙ append-nil (tooth_reading setup seen)

pub returns-clause-stands : goal.returns-clause-stands
returns-clause-stands c = λ _ setup seen number before.
    (later-pushed setup c.self.inside.setup c.self.inside.last c.in-Some.before c.self.inside.state c.keeps_on.new.state c.periods_of-periods.result [] _ seen
    (record { number = number; time = c.args.time }) c.self.view_is c.in-Some.is (rw (c.saturating_sub.ensures, c.period.ensures.value) at c.periods_of-periods.ensures.value)
    (rw c.form.ensures.value at (c.keeps_on.ensures.leads c.if-not-keeps_on.false number)) before).0

pub returns-clause-quiet : goal.returns-clause-quiet
returns-clause-quiet c = λ _ setup seen number before.
    (later-pushed setup c.self.inside.setup c.self.inside.last c.in-Some.before c.self.inside.state c.keeps_on.new.state c.periods_of-periods.result [] _ seen
    (record { number = number; time = c.args.time }) c.self.view_is c.in-Some.is (rw (c.saturating_sub.ensures, c.period.ensures.value) at c.periods_of-periods.ensures.value)
    (rw c.form.ensures.value at (c.keeps_on.ensures.leads c.if-not-keeps_on.false number)) before).1
    ∙ append-nil (tooth_reading setup seen)

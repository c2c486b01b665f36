-- The first rise, and each later one.
use Rattle.psi5_downlink.proofs.Leading.{first-pushed, later-pushed}
use Rattle.psi5_downlink.specs.Kept.{steps_of}
use Rattle.psi5_downlink.proofs.reader.ToothReader.push.Goals as goal

pub returns-in_default-clause-stands : goal.returns-in_default-clause-stands
returns-in_default-clause-stands c = λ setup seen before.
    (first-pushed setup c.self.inside.setup c.self.inside.last c.self.inside.state _ seen (record { number = c.args.number; time = c.args.time }) c.self.view_is c.in_default.is before).0

pub returns-in_default-clause-grows : goal.returns-in_default-clause-grows
returns-in_default-clause-grows c = λ setup seen before.
    (first-pushed setup c.self.inside.setup c.self.inside.last c.self.inside.state _ seen (record { number = c.args.number; time = c.args.time }) c.self.view_is c.in_default.is before).1

pub returns-clause-stands : goal.returns-clause-stands
returns-clause-stands c = λ setup seen before.
    (later-pushed setup c.self.inside.setup c.self.inside.last c.in-Some.before c.self.inside.state c.after_interval-state.result.0 c.periods_of-periods.result (steps_of c.after_interval-state.result.1) _ seen
    (record { number = c.args.number; time = c.args.time }) c.self.view_is c.in-Some.is (rw (c.saturating_sub.ensures, c.period.ensures.value) at c.periods_of-periods.ensures.value) (rw c.form.ensures.value at c.after_interval-state.ensures.leads) before).0

pub returns-clause-grows : goal.returns-clause-grows
returns-clause-grows c = λ setup seen before.
    (later-pushed setup c.self.inside.setup c.self.inside.last c.in-Some.before c.self.inside.state c.after_interval-state.result.0 c.periods_of-periods.result (steps_of c.after_interval-state.result.1) _ seen
    (record { number = c.args.number; time = c.args.time }) c.self.view_is c.in-Some.is (rw (c.saturating_sub.ensures, c.period.ensures.value) at c.periods_of-periods.ensures.value) (rw c.form.ensures.value at c.after_interval-state.ensures.leads) before).1

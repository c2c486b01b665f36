-- One edge more: it goes on with the burst of the edge before it, or begins anew.
use Rattle.std.proofs.Common.{refl, rules}
use Rattle.psi5_frame.specs.Kept.{nothing}
use Rattle.psi5_frame.proofs.Standing.{pushed-stands, pushed-grows, pushed-began}
use Rattle.psi5_frame.proofs.reader.BurstReader.push.Goals as goal

pub returns-then-goes_on-clause-stands : goal.returns-then-goes_on-clause-stands
returns-then-goes_on-clause-stands c = λ setup seen before.
    pushed-stands setup c.self.inside.setup c.self.inside.state c.goes_on.new.state _ seen (record { number = c.args.number; edge = c.args.edge }) nothing
    c.self.view_is before (c.if-goes_on.ensures.leads (search rules))

pub returns-then-goes_on-clause-grows : goal.returns-then-goes_on-clause-grows
returns-then-goes_on-clause-grows c = λ setup seen before.
    pushed-grows setup c.self.inside.setup c.self.inside.state c.goes_on.new.state _ seen (record { number = c.args.number; edge = c.args.edge }) nothing
    c.self.view_is before (c.if-goes_on.ensures.leads (search rules))

pub returns-then-goes_on-clause-began : goal.returns-then-goes_on-clause-began
returns-then-goes_on-clause-began c = λ setup seen before.
    pushed-began setup c.self.inside.setup c.self.inside.state c.goes_on.new.state _ seen (record { number = c.args.number; edge = c.args.edge }) nothing
    c.self.view_is before (c.if-goes_on.ensures.leads (search rules))

pub returns-clause-stands : goal.returns-clause-stands
returns-clause-stands c = λ setup seen before.
    pushed-stands setup c.self.inside.setup c.self.inside.state c.begin.new.state _ seen (record { number = c.args.number; edge = c.args.edge }) c.begin.result
    c.self.view_is before (rw (c.if-goes_on.ensures.left refl) at c.begin.ensures.leads)

pub returns-clause-grows : goal.returns-clause-grows
returns-clause-grows c = λ setup seen before.
    pushed-grows setup c.self.inside.setup c.self.inside.state c.begin.new.state _ seen (record { number = c.args.number; edge = c.args.edge }) c.begin.result
    c.self.view_is before (rw (c.if-goes_on.ensures.left refl) at c.begin.ensures.leads)

pub returns-clause-began : goal.returns-clause-began
returns-clause-began c = λ setup seen before.
    pushed-began setup c.self.inside.setup c.self.inside.state c.begin.new.state _ seen (record { number = c.args.number; edge = c.args.edge }) c.begin.result
    c.self.view_is before (rw (c.if-goes_on.ensures.left refl) at c.begin.ensures.leads)

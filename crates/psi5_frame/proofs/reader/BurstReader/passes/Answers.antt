-- An edge that goes on with a burst ends and begins none.
use Rattle.std.proofs.Common.{◌∙◌, append-nil}
use Rattle.psi5_frame.specs.Bursts.{bursts_so_far, burst_starts}
use Rattle.psi5_frame.specs.Kept.{nothing}
use Rattle.psi5_frame.proofs.Standing.{pushed-stands, pushed-grows, pushed-began}
use Rattle.psi5_frame.proofs.reader.BurstReader.passes.Goals as goal

pub returns-clause-stands : goal.returns-clause-stands
returns-clause-stands c = λ passed setup seen before.
    pushed-stands setup c.self.inside.setup c.self.inside.state c.goes_on.new.state _ seen (record { number = c.args.number; edge = c.args.edge }) nothing
    c.self.view_is before (c.goes_on.ensures.leads passed)

pub returns-clause-quiet : goal.returns-clause-quiet
returns-clause-quiet c = λ passed setup seen before.
    pushed-grows setup c.self.inside.setup c.self.inside.state c.goes_on.new.state _ seen (record { number = c.args.number; edge = c.args.edge }) nothing
    c.self.view_is before (c.goes_on.ensures.leads passed) ∙ append-nil (bursts_so_far setup seen)

pub returns-clause-starts : goal.returns-clause-starts
returns-clause-starts c = λ passed setup seen before.
    pushed-began setup c.self.inside.setup c.self.inside.state c.goes_on.new.state _ seen (record { number = c.args.number; edge = c.args.edge }) nothing
    c.self.view_is before (c.goes_on.ensures.leads passed) ∙ append-nil (burst_starts setup seen)

-- An edge that tells nothing.
use Rattle.std.proofs.Common.{[], ◌∙◌, append-nil}
use Rattle.sent_frame.specs.Reading.{sent_reading}
use Rattle.sent_frame.proofs.Pushes.{pushed, pushed-grows}
use Rattle.sent_frame.proofs.reader.SentReader.passes.Goals as goal

pub returns-clause-stands : goal.returns-clause-stands
returns-clause-stands c = λ is setup seen number before.
    pushed setup c.self.inside.setup c.self.inside.state c.keeps_on.new.state _ seen (record { number = number; edge = c.args.edge }) []
    c.self.view_is before (record { leads = c.keeps_on.ensures.leads is number; valid = c.keeps_on.ensures.valid })

pub returns-clause-quiet : goal.returns-clause-quiet
returns-clause-quiet c = λ is setup seen number before.
    pushed-grows setup c.self.inside.setup c.self.inside.state c.keeps_on.new.state _ seen (record { number = number; edge = c.args.edge }) []
    c.self.view_is before (record { leads = c.keeps_on.ensures.leads is number; valid = c.keeps_on.ensures.valid })
    ∙ append-nil (sent_reading setup seen)

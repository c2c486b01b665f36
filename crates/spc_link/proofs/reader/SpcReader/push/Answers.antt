-- One edge more.
use Rattle.spc_link.specs.Reading.{steps_of}
use Rattle.spc_link.proofs.Pushes.{pushed, pushed-grows, pushed-means}
use Rattle.spc_link.proofs.reader.SpcReader.push.Goals as goal

pub returns-clause-stands : goal.returns-clause-stands
returns-clause-stands c = λ setup seen before.
    pushed setup c.self.inside.setup c.self.inside.state c.next_state-state.result.0 _ seen (record { number = c.args.number; edge = c.args.edge }) (steps_of c.next_state-state.result.1)
    c.self.view_is before (record { leads = c.next_state-state.ensures.leads; valid = c.next_state-state.ensures.valid })

pub returns-clause-grows : goal.returns-clause-grows
returns-clause-grows c = λ setup seen before.
    pushed-grows setup c.self.inside.setup c.self.inside.state c.next_state-state.result.0 _ seen (record { number = c.args.number; edge = c.args.edge }) (steps_of c.next_state-state.result.1)
    c.self.view_is before (record { leads = c.next_state-state.ensures.leads; valid = c.next_state-state.ensures.valid })

pub returns-clause-means : goal.returns-clause-means
returns-clause-means c = λ setup seen before.
    pushed-means setup c.self.inside.setup c.self.inside.state c.next_state-state.result.0 _ seen (record { number = c.args.number; edge = c.args.edge }) (steps_of c.next_state-state.result.1)
    c.self.view_is before (record { leads = c.next_state-state.ensures.leads; valid = c.next_state-state.ensures.valid })

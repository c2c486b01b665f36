-- One status more.
use Rattle.sent_serial.specs.Steps.{steps_of}
use Rattle.sent_serial.proofs.ShortLeads.{short-grows, short-pushed}
use Rattle.sent_serial.proofs.short.ShortReader.push.Goals as goal

pub returns-clause-stands : goal.returns-clause-stands
returns-clause-stands c = λ seen before.
    short-pushed c.self.inside.state _ c.next_state-state.result.0 seen c.args.status (steps_of c.next_state-state.result.1) c.self.view_is before c.next_state-state.ensures.valid c.next_state-state.ensures.leads

pub returns-clause-grows : goal.returns-clause-grows
returns-clause-grows c = λ seen before.
    short-grows c.self.inside.state _ c.next_state-state.result.0 seen c.args.status (steps_of c.next_state-state.result.1) c.self.view_is before c.next_state-state.ensures.valid c.next_state-state.ensures.leads

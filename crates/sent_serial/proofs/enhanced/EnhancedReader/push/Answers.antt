-- One status more.
use Rattle.sent_serial.specs.Steps.{steps_of}
use Rattle.sent_serial.proofs.EnhancedLeads.{enhanced-grows, enhanced-pushed}
use Rattle.sent_serial.proofs.enhanced.EnhancedReader.push.Goals as goal

pub returns-clause-stands : goal.returns-clause-stands
returns-clause-stands c = λ seen before.
    enhanced-pushed c.self.inside.state _ c.next_state-state.result.0 seen c.args.status (steps_of c.next_state-state.result.1) c.self.view_is before c.next_state-state.ensures.valid c.next_state-state.ensures.leads

pub returns-clause-grows : goal.returns-clause-grows
returns-clause-grows c = λ seen before.
    enhanced-grows c.self.inside.state _ c.next_state-state.result.0 seen c.args.status (steps_of c.next_state-state.result.1) c.self.view_is before c.next_state-state.ensures.valid c.next_state-state.ensures.leads

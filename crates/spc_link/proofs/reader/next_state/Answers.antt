-- By state.
use Rattle.spc_link.proofs.EdgeLeads.{lead-fresh, lead-idle}
use Rattle.spc_link.proofs.reader.next_state.Goals as goal

pub returns-in-Fresh-clause-leads : goal.returns-in-Fresh-clause-leads
returns-in-Fresh-clause-leads c = rw c.in-Fresh.is (lead-fresh c.args.setup.now (record { number = c.args.number; edge = c.args.edge }))

pub returns-in-Idle-clause-leads : goal.returns-in-Idle-clause-leads
returns-in-Idle-clause-leads c =
    rw c.in-Idle.is (lead-idle c.args.setup.now c.in-Idle.time c.begin.result (record { number = c.args.number; edge = c.args.edge }) (λ last there. c.begin.ensures.leads last c.args.number there))

pub returns-in-Low-clause-leads : goal.returns-in-Low-clause-leads
returns-in-Low-clause-leads c = rw c.in-Low.is c.end_trigger.ensures.leads

pub returns-in-Risen-clause-leads : goal.returns-in-Risen-clause-leads
returns-in-Risen-clause-leads c = rw c.in-Risen.is c.end_delay.ensures.leads

pub returns-in-Calibrating-clause-leads : goal.returns-in-Calibrating-clause-leads
returns-in-Calibrating-clause-leads c = rw c.in-Calibrating.is c.read_calibration.ensures.leads

pub returns-in-Values-clause-leads : goal.returns-in-Values-clause-leads
returns-in-Values-clause-leads c = rw c.in-Values.is c.read_value.ensures.leads

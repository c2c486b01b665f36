-- By position.
use Rattle.sent_frame.proofs.PulseLeads.{lead-hunting, next-in-frame}
use Rattle.sent_frame.proofs.position.after_pulse.Goals as goal

pub returns-in-Hunting-clause-leads : goal.returns-in-Hunting-clause-leads
returns-in-Hunting-clause-leads c = rw c.in-Hunting.is (lead-hunting c.args.setup.now c.hunt.result (record { place = c.args.place; length = c.args.pulse }) (c.hunt.ensures.leads c.args.place))

pub returns-in-Frame-clause-leads : goal.returns-in-Frame-clause-leads
returns-in-Frame-clause-leads c = rw c.in-Frame.is (record { each = λ due kept inside. c.read_value.ensures.leads due kept (next-in-frame c.args.setup.now c.in-Frame.calibration c.in-Frame.values due kept (record { place = c.args.place; length = c.args.pulse }) inside) })

pub returns-in-Pause-clause-leads : goal.returns-in-Pause-clause-leads
returns-in-Pause-clause-leads c = rw c.in-Pause.is c.read_pause.ensures.leads

pub returns-in-Calibration-clause-leads : goal.returns-in-Calibration-clause-leads
returns-in-Calibration-clause-leads c = rw c.in-Calibration.is c.read_calibration.ensures.leads

-- A due pause: it fits or it does not.
use Rattle.std.proofs.Common.{sym, ◌∙◌}
use Rattle.sent_frame.proofs.PulseLeads.{lead-fits, lead-unfit}
use Rattle.sent_frame.proofs.position.read_pause.Goals as goal

pub returns-then-pause_fits-clause-leads : goal.returns-then-pause_fits-clause-leads
returns-then-pause_fits-clause-leads c = lead-fits c.args.setup.now c.args.calibration (record { place = c.args.place; length = c.args.pulse }) (sym c.pause_fits.ensures ∙ c.if-pause_fits.true)

pub returns-clause-leads : goal.returns-clause-leads
returns-clause-leads c = lead-unfit c.args.setup.now c.args.calibration (record { place = c.args.place; length = c.args.pulse }) (sym c.pause_fits.ensures ∙ c.if-pause_fits.false)

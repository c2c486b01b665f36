-- What is due after a frame.
use Rattle.std.proofs.Common.{sym, ◌∙◌}
use Rattle.sent_frame.proofs.PulseLeads.{agrees-calibration, agrees-pause}
use Rattle.sent_frame.proofs.position.after_frame.Goals as goal

pub returns-then-pause-clause-agrees : goal.returns-then-pause-clause-agrees
returns-then-pause-clause-agrees c = agrees-pause c.args.setup.now c.args.calibration (sym c.pause.ensures ∙ c.if-pause.true)

pub returns-else-pause-clause-agrees : goal.returns-else-pause-clause-agrees
returns-else-pause-clause-agrees c = agrees-calibration c.args.setup.now c.args.calibration (sym c.pause.ensures ∙ c.if-pause.false)

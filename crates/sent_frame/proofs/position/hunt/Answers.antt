-- What is kept of a pulse while hunting.
use Rattle.std.proofs.Common.{sym, ◌∙◌}
use Rattle.sent_frame.proofs.PulseLeads.{hunt-candidate, hunt-passed}
use Rattle.sent_frame.proofs.position.hunt.Goals as goal

pub returns-then-may_calibrate-clause-leads : goal.returns-then-may_calibrate-clause-leads
returns-then-may_calibrate-clause-leads c = λ place. hunt-candidate c.args.setup.now (record { place = place; length = c.args.pulse })

pub returns-else-may_calibrate-clause-leads : goal.returns-else-may_calibrate-clause-leads
returns-else-may_calibrate-clause-leads c = λ place. hunt-passed c.args.setup.now (record { place = place; length = c.args.pulse }) (sym c.may_calibrate.ensures.value ∙ c.if-may_calibrate.false)

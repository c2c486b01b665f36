-- A due calibration pulse: none, drifted, or steady.
use Rattle.std.proofs.Common.{sym, ◌∙◌}
use Rattle.sent_frame.proofs.PulseLeads.{lead-drift, lead-none, lead-steady}
use Rattle.sent_frame.proofs.position.read_calibration.Goals as goal

pub returns-then-not-may_calibrate-clause-leads : goal.returns-then-not-may_calibrate-clause-leads
returns-then-not-may_calibrate-clause-leads c =
    lead-none c.args.setup.now c.args.earlier (record { place = c.args.place; length = c.args.pulse }) (sym c.may_calibrate.ensures.value ∙ c.if-not-may_calibrate.true)

pub returns-then-not-steady-clause-leads : goal.returns-then-not-steady-clause-leads
returns-then-not-steady-clause-leads c =
    lead-drift c.args.setup.now c.args.earlier (record { place = c.args.place; length = c.args.pulse }) (sym c.may_calibrate.ensures.value ∙ c.if-not-may_calibrate.false) (sym c.steady.ensures ∙ c.if-not-steady.true)

pub returns-clause-leads : goal.returns-clause-leads
returns-clause-leads c =
    rw c.new-values.ensures (lead-steady c.args.setup.now c.args.earlier (record { place = c.args.place; length = c.args.pulse }) (sym c.may_calibrate.ensures.value ∙ c.if-not-may_calibrate.false) (sym c.steady.ensures ∙ c.if-not-steady.false))

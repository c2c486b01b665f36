-- A false start, or the first pulse of a frame.
use Rattle.std.proofs.Common.{sym, subst, ◌∙◌, List, [], ◌∷◌, ℕ}
use Rattle.sent_frame.specs.Pulses.{Pulse}
use Rattle.sent_frame.specs.Positions.{IsInFrame}
use Rattle.sent_frame.proofs.PulseLeads.{candidate-begins, lead-again}
use Rattle.sent_frame.proofs.position.read_start.Goals as goal

pub returns-then-may_calibrate-clause-leads : goal.returns-then-may_calibrate-clause-leads
returns-then-may_calibrate-clause-leads c =
    lead-again c.args.setup.now c.args.calibration (record { place = c.args.place; length = c.args.pulse }) c.requires.valid (sym c.may_calibrate.ensures.value ∙ c.if-may_calibrate.true)

pub returns-clause-leads : goal.returns-clause-leads
returns-clause-leads c =
    let s = c.args.setup.now in
    let p : Pulse = record { place = c.args.place; length = c.args.pulse } in
    record {
      each = λ due kept agrees.
          c.read_value.ensures.leads due kept
          (subst (λ (values : List ℕ). IsInFrame s c.args.calibration values due kept (p ∷ [])) (sym c.new.ensures)
          (candidate-begins s c.args.calibration p due kept c.requires.valid (sym c.may_calibrate.ensures.value ∙ c.if-may_calibrate.false) agrees));
    }

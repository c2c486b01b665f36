-- A calibration pulse is some ns long.
use Rattle.std.proofs.Common.{sym, ap, ◌∙◌}
use Rattle.link_math.specs.Sent.{is_calibration}
use Rattle.sent_frame.proofs.Bounds.{calibration-low}
use Rattle.sent_frame.proofs.position.may_calibrate.Goals as goal

pub returns-clause-some : goal.returns-clause-some
returns-clause-some c = λ yes.
    let s = c.args.setup.now in
    calibration-low c.args.pulse s.tick s.jitter s.nibbles c.tick.ensures.range
    (ap (λ t. is_calibration c.args.pulse t s.jitter) (sym c.tick.ensures.value) ∙ ap (λ j. is_calibration c.args.pulse c.tick.result j) (sym c.jitter.ensures.value) ∙ sym c.window.ensures ∙ yes)

-- A value that is kept.
use Rattle.std.proofs.Common.{sym, ◌∙◌}
use Rattle.sent_frame.proofs.PulseLeads.{frame-keeps, next-in-frame}
use Rattle.sent_frame.proofs.position.keeps_value.Goals as goal

pub returns-clause-leads : goal.returns-clause-leads
returns-clause-leads c = λ _ place.
    let s = c.args.setup.now in
    let calibration = c.in-Frame.calibration in
    let values = c.in-Frame.values in
    rw (c.in-Frame.is, c.push.ensures) (record {
      each = λ due kept inside.
          frame-keeps s calibration values c.in-Some.value (record { place = place; length = c.args.pulse }) due kept
          (next-in-frame s calibration values due kept (record { place = place; length = c.args.pulse }) inside) (sym c.nibble_of.ensures.value ∙ c.in-Some.is);
    })

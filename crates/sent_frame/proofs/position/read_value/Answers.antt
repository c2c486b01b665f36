-- A pulse of a frame: it carries no value, or one that is kept, or the last one.
use Rattle.std.proofs.Common.{◌≡◌, ◌∷◌, [], suc, length, length-append, sym, ap, ◌∙◌, arith}
use Rattle.sent_frame.proofs.PulseLeads.{frame-breaks, frame-ends, frame-keeps, steps-checked}
use Rattle.sent_frame.proofs.position.read_value.Goals as goal

pub with-values-requires-clause-room : goal.with-values-requires-clause-room
with-values-requires-clause-room c = omega (arith, c.requires.valid.1, c.nibbles.ensures.range.nibbles_high)

pub returns-in_default-clause-leads : goal.returns-in_default-clause-leads
returns-in_default-clause-leads c = λ due kept inside.
    frame-breaks c.args.setup.now c.args.calibration c.args.values (record { place = c.args.place; length = c.args.pulse }) c.hunt.result due kept inside c.requires.valid.1 (sym c.nibble_of.ensures.value ∙ c.in_default.is) (c.hunt.ensures.leads c.args.place)

pub returns-then-len-whole-clause-leads : goal.returns-then-len-whole-clause-leads
returns-then-len-whole-clause-leads c = λ due kept inside.
    rw c.with-values.ensures (frame-keeps c.args.setup.now c.args.calibration c.args.values c.in-Some.value (record { place = c.args.place; length = c.args.pulse }) due kept inside (sym c.nibble_of.ensures.value ∙ c.in-Some.is))

pub returns-clause-leads : goal.returns-clause-leads
returns-clause-leads c = λ due kept inside.
    let all : length c.args.values ≡ suc c.args.setup.now.nibbles = omega (arith, length-append c.args.values (c.in-Some.value ∷ []), ap length c.with-values.ensures, c.len.ensures, c.if-len-whole.false, c.nibbles.ensures.value, c.from-whole.ensures, c.requires.valid.1) in
    rw (c.checked_frame-step.ensures, steps-checked c.args.setup.now c.args.place c.with-values.result, c.with-values.ensures)
    (frame-ends c.args.setup.now c.args.calibration c.args.values c.in-Some.value (record { place = c.args.place; length = c.args.pulse }) c.after_frame-next.result due kept inside (sym c.nibble_of.ensures.value ∙ c.in-Some.is) all c.after_frame-next.ensures.agrees)

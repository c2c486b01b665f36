-- A rise, or a pulse that carries no value, or one that is kept, or the last one.
use Rattle.std.proofs.Common.{◌≡◌, suc, ◌∷◌, ◌++◌, [], length, length-append, sym, ap, ◌∙◌, arith}
use Rattle.link_math.specs.Sent.{value_of}
use Rattle.sent_frame.specs.Setup as frame
use Rattle.sent_frame.specs.Reading.{checked_over}
use Rattle.spc_link.specs.Reading.{answered}
use Rattle.spc_link.proofs.EdgeLeads.{frame-breaks, frame-keeps, frame-rises, frame-whole, steps-checked}
use Rattle.spc_link.proofs.answer.read_value.Goals as goal

pub returns-then-edge-clause-leads : goal.returns-then-edge-clause-leads
returns-then-edge-clause-leads c = frame-rises c.args.setup.now c.args.answer c.args.calibration c.args.values (record { number = c.args.number; edge = c.args.edge }) c.if-edge.true

pub returns-in_default-clause-leads : goal.returns-in_default-clause-leads
returns-in_default-clause-leads c =
    frame-breaks c.args.setup.now c.args.answer c.args.calibration c.args.values (record { number = c.args.number; edge = c.args.edge }) c.begin.result c.if-edge.false c.requires.valid.1
    (ap (λ n. value_of n c.args.calibration) (sym c.saturating_sub.ensures) ∙ sym c.nibble_of.ensures.value ∙ c.in_default.is)
    (λ last there. c.begin.ensures.leads last c.args.number there)

pub returns-then-len-whole-clause-leads : goal.returns-then-len-whole-clause-leads
returns-then-len-whole-clause-leads c =
    rw c.with-values.ensures
    (frame-keeps c.args.setup.now c.args.answer c.args.calibration c.args.values c.in-Some.value (record { number = c.args.number; edge = c.args.edge }) c.if-edge.false
    (ap (λ n. value_of n c.args.calibration) (sym c.saturating_sub.ensures) ∙ sym c.nibble_of.ensures.value ∙ c.in-Some.is))

pub returns-clause-leads : goal.returns-clause-leads
returns-clause-leads c =
    let s = c.args.setup.now in
    let code = c.args.answer.code in
    let all : length c.args.values ≡ suc s.sent.nibbles = omega (arith, length-append c.args.values (c.in-Some.value ∷ []), ap length c.with-values.ensures, c.len.ensures, c.if-len-whole.false, c.nibbles.ensures.value, ap (λ (t : frame.Settings). t.nibbles) c.sent-sent.ensures.value, c.from-whole.ensures, c.requires.valid.1) in
    let report : c.answered.result ≡ answered code (checked_over s.cover s.sent c.args.number (c.args.values ++ c.in-Some.value ∷ [])) =
    c.answered.ensures
    ∙ ap (answered code)
    (c.checked_frame-step.ensures
    ∙ ap (λ cover. checked_over cover c.sent-sent.result c.args.number c.with-values.result) c.cover.ensures.value
    ∙ ap (λ (t : frame.Settings). checked_over s.cover t c.args.number c.with-values.result) c.sent-sent.ensures.value
    ∙ ap (checked_over s.cover s.sent c.args.number) c.with-values.ensures) in
    rw (report, steps-checked s code c.args.number (c.args.values ++ c.in-Some.value ∷ []))
    (frame-whole s c.args.answer c.args.calibration c.args.values c.in-Some.value (record { number = c.args.number; edge = c.args.edge }) c.begin-2.result c.if-edge.false all
    (ap (λ n. value_of n c.args.calibration) (sym c.saturating_sub.ensures) ∙ sym c.nibble_of.ensures.value ∙ c.in-Some.is)
    (λ last there. c.begin-2.ensures.leads last c.args.number there))

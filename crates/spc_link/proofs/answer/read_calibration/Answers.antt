-- A rise, or the first pulse: it may be a calibration pulse, or not.
use Rattle.std.proofs.Common.{sym, ap, ◌∙◌}
use Rattle.link_math.specs.Sent.{is_calibration}
use Rattle.sent_frame.specs.Setup as frame
use Rattle.spc_link.proofs.EdgeLeads.{lead-calibrates, lead-none, lead-rises}
use Rattle.spc_link.proofs.answer.read_calibration.Goals as goal

pub returns-then-edge-clause-leads : goal.returns-then-edge-clause-leads
returns-then-edge-clause-leads c = lead-rises c.args.setup.now c.args.answer (record { number = c.args.number; edge = c.args.edge }) c.if-edge.true

pub returns-then-not-may_calibrate-clause-leads : goal.returns-then-not-may_calibrate-clause-leads
returns-then-not-may_calibrate-clause-leads c =
    lead-none c.args.setup.now c.args.answer (record { number = c.args.number; edge = c.args.edge }) c.begin.result c.if-edge.false
    (ap (λ n. is_calibration n c.args.setup.now.sent.tick c.args.setup.now.sent.jitter) (sym c.saturating_sub-calibration.ensures)
    ∙ ap (λ (s : frame.Settings). is_calibration c.saturating_sub-calibration.result s.tick s.jitter) (sym c.sent.ensures.value)
    ∙ sym c.may_calibrate.ensures.value ∙ c.if-not-may_calibrate.true)
    (λ last there. c.begin.ensures.leads last c.args.number there)

pub returns-clause-leads : goal.returns-clause-leads
returns-clause-leads c =
    rw (c.new-values.ensures, c.saturating_sub-calibration.ensures)
    (lead-calibrates c.args.setup.now c.args.answer (record { number = c.args.number; edge = c.args.edge }) c.if-edge.false
    (ap (λ n. is_calibration n c.args.setup.now.sent.tick c.args.setup.now.sent.jitter) (sym c.saturating_sub-calibration.ensures)
    ∙ ap (λ (s : frame.Settings). is_calibration c.saturating_sub-calibration.result s.tick s.jitter) (sym c.sent.ensures.value)
    ∙ sym c.may_calibrate.ensures.value ∙ c.if-not-may_calibrate.false))

-- A rise, or a fall that ends a pulse.
use Rattle.std.proofs.Common.{◌∷◌, [], subst, ℕ}
use Rattle.line_base.specs.Standing.{Leads}
use Rattle.sent_frame.specs.Positions.{AgreesPosition, steps_of}
use Rattle.sent_frame.specs.Reading.{found}
use Rattle.sent_frame.proofs.Edges.{edge-fall, edge-rise}
use Rattle.sent_frame.proofs.reader.read_on.Goals as goal

pub returns-then-edge-clause-leads : goal.returns-then-edge-clause-leads
returns-then-edge-clause-leads c = edge-rise c.args.setup.now c.args.fall c.args.position (record { number = c.args.number; edge = c.args.edge }) c.if-edge.true

pub returns-clause-leads : goal.returns-clause-leads
returns-clause-leads c =
    let s = c.args.setup.now in
    edge-fall s c.args.fall c.args.position c.after_pulse-next.result.0 (record { number = c.args.number; edge = c.args.edge }) (steps_of c.after_pulse-next.result.1) c.if-edge.false
    (subst (λ (n : ℕ). Leads (found s) (AgreesPosition s c.args.position) (AgreesPosition s c.after_pulse-next.result.0) (record { place = c.args.number; length = n } ∷ []) (steps_of c.after_pulse-next.result.1))
    c.saturating_sub-pulse.ensures c.after_pulse-next.ensures.leads)

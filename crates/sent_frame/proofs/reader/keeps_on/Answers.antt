-- A rise, or a value that is kept.
use Rattle.std.proofs.Common.{◌∷◌, [], ℕ, subst, rules}
use Rattle.line_base.specs.Standing.{Leads}
use Rattle.sent_frame.specs.Positions.{AgreesPosition}
use Rattle.sent_frame.specs.Reading.{found}
use Rattle.sent_frame.proofs.Edges.{edge-fall, edge-rise}
use Rattle.sent_frame.proofs.reader.keeps_on.Goals as goal

pub returns-then-edge-clause-leads : goal.returns-then-edge-clause-leads
returns-then-edge-clause-leads c = λ _ number.
    rw c.in-Reading.is (edge-rise c.args.setup.now c.in-Reading.fall c.in-Reading.position (record { number = number; edge = c.args.edge }) c.if-edge.true)

pub returns-then-keeps_value-clause-leads : goal.returns-then-keeps_value-clause-leads
returns-then-keeps_value-clause-leads c = λ _ number.
    let s = c.args.setup.now in
    rw c.in-Reading.is (edge-fall s c.in-Reading.fall c.in-Reading.position c.keeps_value.new.position (record { number = number; edge = c.args.edge }) [] c.if-edge.false
    (subst (λ (n : ℕ). Leads (found s) (AgreesPosition s c.in-Reading.position) (AgreesPosition s c.keeps_value.new.position) (record { place = number; length = n } ∷ []) [])
    c.saturating_sub.ensures (c.if-keeps_value.ensures.leads (search rules) number)))

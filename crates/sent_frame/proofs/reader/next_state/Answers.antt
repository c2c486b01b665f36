-- The opening, and the first fall.
use Rattle.sent_frame.proofs.Edges.{edge-early_rise, edge-first_fall, edge-opening}
use Rattle.sent_frame.proofs.reader.next_state.Goals as goal

pub returns-in-Fresh-clause-leads : goal.returns-in-Fresh-clause-leads
returns-in-Fresh-clause-leads c = rw c.in-Fresh.is (edge-opening c.args.setup.now (record { number = c.args.number; edge = c.args.edge }))

pub returns-then-edge-clause-leads : goal.returns-then-edge-clause-leads
returns-then-edge-clause-leads c = rw c.in-Opened.is (edge-early_rise c.args.setup.now (record { number = c.args.number; edge = c.args.edge }) c.if-edge.true)

pub returns-else-edge-clause-leads : goal.returns-else-edge-clause-leads
returns-else-edge-clause-leads c = rw c.in-Opened.is (edge-first_fall c.args.setup.now (record { number = c.args.number; edge = c.args.edge }) c.if-edge.false)

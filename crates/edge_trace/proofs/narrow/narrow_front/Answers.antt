use Rattle.std.proofs.Common.{arith, take}
use Rattle.edge_trace.proofs.PlainRows.{plain_stamped}
use Rattle.edge_trace.proofs.narrow.narrow_front.Goals as goal

pub returns-then-before-edge-clause-front : goal.returns-then-before-edge-clause-front
returns-then-before-edge-clause-front c =
    let plain = c.in_ok-edge.ensures.front in
    record {
      front = plain.front;
      row = plain_stamped c.args.before (take c.in_ok-edge.count c.args.text.now) c.in_ok-edge.edge plain.spells (omega arith) (omega (arith, c.in_ok-edge.ensures.time)) c.in_ok-edge.ensures.line;
    }

use Rattle.edge_trace.proofs.UnitFronts.{step_front_is}
use Rattle.edge_trace.proofs.units.step_front.Goals as goal

pub returns-clause-front : goal.returns-clause-front
returns-clause-front c =
    step_front_is c.args.unit c.args.before c.args.digits.now c.in_ok-written.written c.in_ok-edge.edge c.in_ok-written.count c.in_ok-written.ensures.front c.in_ok-edge.ensures.known c.in_ok-written.ensures.line

use Rattle.std.proofs.Common.{arith}
use Rattle.edge_trace.proofs.PlainRows.{plain_stamped}
use Rattle.edge_trace.proofs.narrow.plain_narrow.Goals as goal

pub returns-clause-good : goal.returns-clause-good
returns-clause-good c =
    plain_stamped c.args.before c.args.content.now c.in_ok-edge.edge c.in_ok-edge.ensures.spelled c.if-edge-before.false (omega (arith, c.in_ok-edge.ensures.time)) c.in_ok-edge.ensures.line

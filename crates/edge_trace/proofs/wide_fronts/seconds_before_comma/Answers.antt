use Rattle.std.proofs.Common.{rules}
use Rattle.edge_trace.proofs.WideFronts.{begins_with_seconds}
use Rattle.edge_trace.proofs.wide_fronts.seconds_before_comma.Goals as goal

pub returns-clause-begins : goal.returns-clause-begins
returns-clause-begins c =
    begins_with_seconds c.args.text.now c.in_ok-whole.decimals.now c.in_ok-part.rest.now c.in_ok-whole.whole c.in_ok-part.part c.in_ok-whole.ensures.begins c.in_ok-part.ensures.begins (search rules)

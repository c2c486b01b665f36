use Rattle.std.proofs.Common.{arith, rules}
use Rattle.edge_trace.proofs.WideFronts.{no_levels, one_more_pair, begins_with_levels}
use Rattle.edge_trace.proofs.wide_fronts.levels_front.Goals as goal

pub loop-i-init : goal.loop-i-init
loop-i-init c = no_levels c.args.text.now _ (search rules)

pub loop-i-preserved : goal.loop-i-preserved
loop-i-preserved c = rw c.push.ensures.items (one_more_pair c.args.text.now c.loop-i.i c.loop-i.levels.items c.in_ok-level.level c.loop-i.invariant (omega (arith, c.loop-i-test.true)) c.in_ok-level.ensures (search rules))

pub returns : goal.returns
returns c = rw c.push-2.ensures.items (begins_with_levels c.args.text.now c.args.others c.loop-i.levels.items c.in_ok-last.last (search rules) (omega arith) (search rules) (search rules))

use Rattle.std.proofs.Common.{◌-◌, arith}
use Rattle.edge_trace.proofs.WideFronts.{behind_seconds, wide_front_is}
use Rattle.edge_trace.proofs.wide_fronts.wide_front.Goals as goal

pub overflow_sub-count : goal.overflow_sub-count
overflow_sub-count c = omega (arith, behind_seconds c.args.text.now c.in_ok-time.rest.now c.in_ok-time.time c.in_ok-time.ensures.begins)

pub returns-clause-front : goal.returns-clause-front
returns-clause-front c =
    let longer = behind_seconds c.args.text.now c.in_ok-time.rest.now c.in_ok-time.time c.in_ok-time.ensures.begins in
    wide_front_is c.args.columns c.args.before (c.args.columns - 1) _ c.in_ok-time.time c.args.text.now c.in_ok-time.rest.now c.in_ok-levels.levels.items c.in_ok-time.ensures.begins c.in_ok-levels.ensures (omega arith) (omega arith) c.in_ok-time.ensures.range (omega arith)

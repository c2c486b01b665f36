use Rattle.std.proofs.Common.{refl, arith, rules}
use Rattle.edge_trace.proofs.PlainFronts.{longer, plain_front_is}
use Rattle.edge_trace.proofs.plain.plain_front.Goals as goal

pub overflow_sub-result : goal.overflow_sub-result
overflow_sub-result c = let all = longer c.args.text.now _ _ _ _ c.in_ok-level.level c.in_ok-time.ensures.begins c.in_ok-line.ensures.begins in omega arith

pub returns-clause-front : goal.returns-clause-front
returns-clause-front c =
    plain_front_is c.args.text.now c.in_ok-time.rest.now c.in_ok-line.last.now c.in_ok-time.time c.in_ok-line.line c.in_ok-level.level c.in_ok-time.ensures.begins c.in_ok-line.ensures.begins
    (search rules) (search rules) c.in_ok-level.ensures _ refl

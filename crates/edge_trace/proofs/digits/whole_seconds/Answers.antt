use Rattle.std.proofs.Common.{None, ◌∙◌}
use Rattle.line_base.proofs.Numbers.{not_a_number, a_number}
use Rattle.edge_trace.proofs.Seconds.{no_whole, whole_only}
use Rattle.edge_trace.proofs.digits.whole_seconds.Goals as goal

pub returns-in_err-seconds : goal.returns-in_err-seconds
returns-in_err-seconds c = c.from_residual.ensures ∙ no_whole c.args.whole.now None (not_a_number _ c.in_err-seconds.ensures.value)

pub returns : goal.returns
returns c =
    let read = a_number c.args.whole.now c.in_ok-seconds.seconds c.in_ok-seconds.ensures.value in
    whole_only c.args.whole.now c.in_ok-seconds.seconds _ read.0 read.1 c.zeros_after.ensures.value

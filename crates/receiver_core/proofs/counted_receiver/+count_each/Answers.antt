-- One report is counted, and then the others.
use Rattle.std.proofs.Common.{◌∷◌, [], ◌++◌, ◌∙◌}
use Rattle.receiver_core.proofs.CountedReports.{counted-then}
use Rattle.receiver_core.proofs.counted_receiver.+count_each.Goals as goal

pub returns-in-Some-clause-counted : goal.returns-in-Some-clause-counted
returns-in-Some-clause-counted t c = λ before e.
    c.count_each.ensures.counted (before ++ c.in-Some.report.now ∷ []) (c.add.ensures.whole before e)
    ∙ counted-then before c.in-Some.others.now c.args.reports.now c.in-Some.report.now c.in-Some.ensures.cases.0

use Rattle.std.proofs.Common.{arith}
use Rattle.std.proofs.lemmas.Result.{err_from_is_err_and}
use Rattle.edge_trace.proofs.Judging.{found, judged, time_fault, line_fault, level_fault, back_fault, stamped}
use Rattle.edge_trace.proofs.narrow.narrow.Goals as goal

pub returns-in_err-time-clause-fault : goal.returns-in_err-time-clause-fault
returns-in_err-time-clause-fault c =
    let p = err_from_is_err_and c.from_residual.result c.from_residual.ensures.1 in
    rw (p.1, p.2) (judged _ _ _ _ _ _ _ _ c.in-Some.ensures.some (time_fault _ _ _ _ _ _ _ c.in_err-time.ensures.value))

pub returns-in_err-line-clause-fault : goal.returns-in_err-line-clause-fault
returns-in_err-line-clause-fault c =
    let p = err_from_is_err_and c.from_residual-in_err-line.result c.from_residual-in_err-line.ensures.1 in
    let time = found _ _ _ c.in_ok-time.ensures.value in
    rw (p.1, p.2) (judged _ _ _ _ _ _ _ _ c.in-Some.ensures.some (line_fault _ _ _ _ _ _ _ _ time.is c.in_err-line.ensures.value))

pub returns-in_default-level_of-clause-fault : goal.returns-in_default-level_of-clause-fault
returns-in_default-level_of-clause-fault c =
    let time = found _ _ _ c.in_ok-time.ensures.value in
    judged _ _ _ _ _ _ _ _ c.in-Some.ensures.some (level_fault _ _ _ _ _ _ _ _ time.is c.in_ok-line.ensures.value c.in_default-level_of.ensures)

pub returns-then-time-before-clause-fault : goal.returns-then-time-before-clause-fault
returns-then-time-before-clause-fault c =
    let time = found _ _ _ c.in_ok-time.ensures.value in
    judged _ _ _ _ _ _ _ _ c.in-Some.ensures.some (back_fault _ _ _ _ _ _ _ _ _ time.is c.in_ok-line.ensures.value c.in-Some-level_of.ensures (omega arith))

pub returns-clause-good : goal.returns-clause-good
returns-clause-good c = stamped _ _ _ _ _ _ _ _ _ _ c.in-Some.ensures.some c.in_ok-time.ensures.value c.in_ok-line.ensures.value c.in-Some-level_of.ensures (omega arith)

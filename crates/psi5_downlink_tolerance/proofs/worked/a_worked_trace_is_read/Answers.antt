-- Both laws are lemmas.
use Rattle.psi5_downlink_tolerance.proofs.WorkedTrace.{worked_honest, worked_reading}
use Rattle.psi5_downlink_tolerance.proofs.worked.a_worked_trace_is_read.Goals as goal

pub returns-clause-honest : goal.returns-clause-honest
returns-clause-honest c = worked_honest

pub returns-clause-read : goal.returns-clause-read
returns-clause-read c = worked_reading

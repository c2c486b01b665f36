-- A run of one.
use Rattle.sent_serial.proofs.EnhancedLeads.{run-one}
use Rattle.sent_serial.proofs.enhanced.begun.Goals as goal

pub returns-clause-agrees : goal.returns-clause-agrees
returns-clause-agrees c = λ set. run-one c.args.status c.from.result c.has_value.result set c.from.ensures c.has_value.ensures

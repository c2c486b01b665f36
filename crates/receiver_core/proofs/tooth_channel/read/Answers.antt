-- A rise adds the report of its step.
use Rattle.receiver_core.proofs.ToothReports.{read-rise}
use Rattle.receiver_core.proofs.tooth_channel.read.Goals as goal

pub returns-clause-grows : goal.returns-clause-grows
returns-clause-grows c = λ s seen before. read-rise s seen _ c.push-step.result c.push_step.new.reports.items (c.push-step.ensures.grows s seen before) c.push_step.ensures

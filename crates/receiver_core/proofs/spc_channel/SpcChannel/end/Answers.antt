-- The end adds the report of the last step.
use Rattle.receiver_core.proofs.SpcReports.{spc-ended}
use Rattle.receiver_core.proofs.spc_channel.SpcChannel.end.Goals as goal

pub returns : goal.returns
returns c = record { ends = λ s seen before. spc-ended s seen c.finish-step.result c.push_step.new.reports.items (c.finish-step.ensures.ends s seen before) c.push_step.ensures }

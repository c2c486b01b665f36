-- One edge more adds the report of its step.
use Rattle.std.proofs.Common.{[], ◌∷◌, ◌++◌}
use Rattle.receiver_core.proofs.SpcReports.{spc-more}
use Rattle.receiver_core.proofs.spc_channel.SpcChannel.push.Goals as goal

pub returns-clause-grows : goal.returns-clause-grows
returns-clause-grows c = λ s seen before.
    spc-more s seen (seen ++ record { number = c.args.number; edge = c.args.edge } ∷ []) c.push-step.result c.push_step.new.reports.items (c.push-step.ensures.grows s seen before) c.push_step.ensures

-- A status adds what it ends.
use Rattle.std.proofs.Common.{◌++◌, ap, sym, ◌∙◌}
use Rattle.receiver_core.proofs.Serials.{reports-grow}
use Rattle.receiver_core.proofs.sent_channel.push_status.Goals as goal

pub returns-clause-reports : goal.returns-clause-reports
returns-clause-reports c = λ form statuses stands.
    c.push_serial.ensures
    ∙ ap (λ l. c.args.reports.now.items ++ l) (sym (reports-grow form c.args.place statuses c.args.status c.push-step.result (c.push-step.ensures.grows form statuses stands)))

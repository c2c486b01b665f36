use Rattle.std.proofs.Common.{◌∙◌, ap}
use Rattle.report_text.specs.Reports.{report_read}
use Rattle.report_text.proofs.Reports.{exactly}
use Rattle.report_text.proofs.line.read_report.Goals as goal

pub returns-clause-exact : goal.returns-clause-exact
returns-clause-exact c = exactly c.args.text.now c.report_of.result (c.report_of.ensures ∙ ap report_read c.as_bytes.ensures.value)

use Rattle.std.proofs.Common.{◌∙◌}
use Rattle.line_base.specs.Texts.{number_in}
use Rattle.edge_trace.specs.Fields.{seconds_in}
use Rattle.edge_trace.proofs.Judging.{narrow_form_time, wide_form_time}
use Rattle.edge_trace.proofs.stamps.time_in.Goals as goal

pub returns-in-Narrow-clause-value : goal.returns-in-Narrow-clause-value
returns-in-Narrow-clause-value c = c.time_after.ensures.value (number_in c.args.field.now) c.number_of.ensures.value ∙ narrow_form_time c.args.form c.args.before c.args.field.now c.in-Narrow.is

pub returns-in-Wide-clause-value : goal.returns-in-Wide-clause-value
returns-in-Wide-clause-value c = c.time_after-in-Wide.ensures.value (seconds_in c.args.field.now) c.seconds_of.ensures ∙ wide_form_time c.args.form _ c.args.before c.args.field.now c.in-Wide.is

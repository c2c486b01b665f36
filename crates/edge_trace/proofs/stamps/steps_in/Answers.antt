use Rattle.std.proofs.Common.{◌∙◌}
use Rattle.line_base.specs.Texts.{number_in}
use Rattle.edge_trace.proofs.Judging.{step_time, no_field_time, absolute_time}
use Rattle.edge_trace.proofs.stamps.steps_in.Goals as goal
use Rattle.edge_trace.proofs.stamps.steps_in.Goals.{in-Some+else-first-eq43, in_default}

pub returns-then-first-eq43-clause-value : goal.returns-then-first-eq43-clause-value
returns-then-first-eq43-clause-value c = c.time_after.ensures.value (number_in c.in-Some.digits.now) c.number_of.ensures.value ∙ step_time _ _ _ _ _ c.in-Some.ensures.cases.0 c.if-first-eq43.true

pub returns-clause-value : goal.returns-clause-value
returns-clause-value c = c.time_after-2.ensures.value (number_in c.args.field.now) c.number_of-2.ensures.value ∙ elim c.match-split_first.branch [
  | in-Some+else-first-eq43 w ↦ absolute_time c.args.unit c.args.before c.args.field.now _ _ w.in-Some.ensures.cases.0 w.if-first-eq43.false
  | in_default w ↦ no_field_time c.args.unit c.args.before c.args.field.now w.in_default.ensures.cases
]

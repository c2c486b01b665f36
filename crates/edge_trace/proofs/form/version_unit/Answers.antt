use Rattle.std.proofs.Common.{◌∙◌, arith}
use Rattle.line_base.specs.Texts.{number_in}
use Rattle.edge_trace.proofs.FirstLines.{no_unit, no_end, unit_number, no_number, in_range, below_range, above_range}
use Rattle.edge_trace.proofs.form.version_unit.Goals as goal
use Rattle.edge_trace.proofs.form.version_unit.Goals.{then-unit-lt1-via-then-unit-lt1, then-unit-lt1-via-else-unit-lt1+then-unit-gt1000000}

pub returns-in_err-text-clause-value : goal.returns-in_err-text-clause-value
returns-in_err-text-clause-value c = c.from_residual.ensures ∙ no_unit _ c.in_err-text.ensures

pub returns-in_err-digits-clause-value : goal.returns-in_err-digits-clause-value
returns-in_err-digits-clause-value c = c.from_residual-in_err-digits.ensures ∙ no_end _ _ c.in_ok-text.ensures c.in_err-digits.ensures

pub returns-in_err-unit-clause-value : goal.returns-in_err-unit-clause-value
returns-in_err-unit-clause-value c = c.from_residual-in_err-unit.ensures ∙ no_number (number_in c.in_ok-digits.digits.now) c.in_err-unit.ensures.value ∙ unit_number _ _ _ c.in_ok-text.ensures c.in_ok-digits.ensures

pub returns-then-unit-lt1-clause-value : goal.returns-then-unit-lt1-clause-value
returns-then-unit-lt1-clause-value c = elim c.then-unit-lt1.branch [
  | then-unit-lt1-via-then-unit-lt1 w ↦ below_range (number_in c.in_ok-digits.digits.now) _ c.in_ok-unit.ensures.value (omega arith) ∙ unit_number _ _ _ c.in_ok-text.ensures c.in_ok-digits.ensures
  | then-unit-lt1-via-else-unit-lt1+then-unit-gt1000000 w ↦ above_range (number_in c.in_ok-digits.digits.now) _ c.in_ok-unit.ensures.value (omega arith) ∙ unit_number _ _ _ c.in_ok-text.ensures c.in_ok-digits.ensures
]

pub returns-clause-value : goal.returns-clause-value
returns-clause-value c = in_range (number_in c.in_ok-digits.digits.now) _ c.in_ok-unit.ensures.value (omega arith) (omega arith) ∙ unit_number _ _ _ c.in_ok-text.ensures c.in_ok-digits.ensures

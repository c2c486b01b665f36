use Rattle.std.proofs.Common.{sym, ◌∙◌, arith}
use Rattle.edge_trace.proofs.FirstLines.{no_names, some_columns, no_comma, bad_name, many_columns}
use Rattle.edge_trace.proofs.form.header_columns.Goals as goal
use Rattle.edge_trace.proofs.form.header_columns.Goals.{else-first-eq44-via-then-first-eq44+then-all_name_bytes+else-columns-le16, else-first-eq44-via-then-first-eq44+else-all_name_bytes, else-first-eq44-via-else-first-eq44}

pub returns-in_err-first-clause-value : goal.returns-in_err-first-clause-value
returns-in_err-first-clause-value c = c.from_residual.ensures ∙ no_names _ c.in_err-first.ensures.cases

pub returns-then-columns-le16-clause-value : goal.returns-then-columns-le16-clause-value
returns-then-columns-le16-clause-value c = rw c.commas-columns.ensures (some_columns _ _ _ c.in_ok-first.ensures.cases.0 c.if-first-eq44.true (sym c.if-all_name_bytes.ensures) (omega arith))

pub returns-else-first-eq44-clause-value : goal.returns-else-first-eq44-clause-value
returns-else-first-eq44-clause-value c = elim c.else-first-eq44.branch [
  | else-first-eq44-via-then-first-eq44+then-all_name_bytes+else-columns-le16 w ↦ many_columns _ _ _ c.in_ok-first.ensures.cases.0 (omega arith)
  | else-first-eq44-via-then-first-eq44+else-all_name_bytes w ↦ bad_name _ _ _ c.in_ok-first.ensures.cases.0 (sym w.if-all_name_bytes.ensures)
  | else-first-eq44-via-else-first-eq44 w ↦ no_comma _ _ _ c.in_ok-first.ensures.cases.0 w.if-first-eq44.false
]

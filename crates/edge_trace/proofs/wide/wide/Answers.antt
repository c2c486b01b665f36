use Rattle.std.proofs.Common.{sym, arith, ◌∙◌, ap}
use Rattle.std.proofs.lemmas.Result.{err_from_is_err_and}
use Rattle.edge_trace.specs.Rows.{Wide, time_field}
use Rattle.edge_trace.specs.Readings.{stamp_time, seen_by}
use Rattle.edge_trace.proofs.Judging.{found, cut_with, cut_without}
use Rattle.edge_trace.proofs.WideRows.{wrong_count, has_columns, wide_time_fault, wide_level_fault, wide_back_fault, judged_wide, stamped_wide}
use Rattle.edge_trace.proofs.wide.wide.Goals as goal

pub returns-then-commas-columns-clause-fault : goal.returns-then-commas-columns-clause-fault
returns-then-commas-columns-clause-fault c = wrong_count c.args.columns (stamp_time 1 c.args.before) c.args.before c.args.content.now (λ e. c.if-commas-columns.true (c.commas.ensures ∙ e))

pub returns-in_err-time-clause-fault : goal.returns-in_err-time-clause-fault
returns-in_err-time-clause-fault c =
    let p = err_from_is_err_and c.from_residual.result c.from_residual.ensures.1 in
    let has = has_columns c.args.columns _ _ _ c.cut.ensures (sym c.commas.ensures ∙ c.if-commas-columns.false) in
    let time = c.in_err-time.ensures.value ∙ ap (λ field. seen_by (stamp_time 1 c.args.before) (time_field (Wide c.args.columns) (stamp_time 1 c.args.before) field)) c.trimmed.ensures in
    rw (p.1, p.2) (judged_wide _ _ _ _ _ _ _ has.parts (wide_time_fault _ _ _ _ _ has.counted _ time))

pub levels_of-requires : goal.levels_of-requires
levels_of-requires c =
    let has = has_columns c.args.columns _ _ _ (cut_with _ _ _ _ _ c.cut.ensures c.in-Some.is) (sym c.commas.ensures ∙ c.if-commas-columns.false) in
    omega (arith, has.counted)

pub returns-in_default-clause-fault : goal.returns-in_default-clause-fault
returns-in_default-clause-fault c =
    let has = has_columns c.args.columns _ _ _ (cut_without _ _ _ _ c.cut.ensures c.in_default.is) (sym c.commas.ensures ∙ c.if-commas-columns.false) in
    absurd (omega (arith, has.counted))

pub returns-in_default-levels_of-clause-fault : goal.returns-in_default-levels_of-clause-fault
returns-in_default-levels_of-clause-fault c =
    let has = has_columns c.args.columns _ _ _ (cut_with _ _ _ _ _ c.cut.ensures c.in-Some.is) (sym c.commas.ensures ∙ c.if-commas-columns.false) in
    let time = found _ _ _ (c.in_ok-time.ensures.value ∙ ap (λ field. seen_by (stamp_time 1 c.args.before) (time_field (Wide c.args.columns) (stamp_time 1 c.args.before) field)) c.trimmed.ensures) in
    judged_wide _ _ _ _ _ _ _ has.parts (wide_level_fault _ _ _ _ _ has.counted _ time.is c.in_default-levels_of.ensures)

pub returns-then-time-before-clause-fault : goal.returns-then-time-before-clause-fault
returns-then-time-before-clause-fault c =
    let has = has_columns c.args.columns _ _ _ (cut_with _ _ _ _ _ c.cut.ensures c.in-Some.is) (sym c.commas.ensures ∙ c.if-commas-columns.false) in
    let time = found _ _ _ (c.in_ok-time.ensures.value ∙ ap (λ field. seen_by (stamp_time 1 c.args.before) (time_field (Wide c.args.columns) (stamp_time 1 c.args.before) field)) c.trimmed.ensures) in
    let seen_is = time.seen_is in
    judged_wide _ _ _ _ _ _ _ has.parts (wide_back_fault _ _ _ _ _ has.counted _ _ time.is c.in-Some-levels_of.ensures (omega arith))

pub returns-clause-good : goal.returns-clause-good
returns-clause-good c =
    let has = has_columns c.args.columns _ _ _ (cut_with _ _ _ _ _ c.cut.ensures c.in-Some.is) (sym c.commas.ensures ∙ c.if-commas-columns.false) in
    let time = c.in_ok-time.ensures.value ∙ ap (λ field. seen_by (stamp_time 1 c.args.before) (time_field (Wide c.args.columns) (stamp_time 1 c.args.before) field)) c.trimmed.ensures in
    stamped_wide _ _ _ _ _ _ _ _ has.parts has.counted time c.in-Some-levels_of.ensures (omega arith)

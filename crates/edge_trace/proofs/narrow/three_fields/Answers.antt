use Rattle.std.proofs.Common.{sym}
use Rattle.edge_trace.proofs.Judging.{one_field, two_fields, many_fields, all_three, cut_without, cut_with, more_there, no_more}
use Rattle.edge_trace.proofs.narrow.three_fields.Goals as goal

pub returns-in_err-rest-clause-none : goal.returns-in_err-rest-clause-none
returns-in_err-rest-clause-none c = rw c.from_residual.ensures (one_field _ _ (cut_without _ _ _ _ c.cut.ensures c.in_err-rest.was))

pub returns-in_err-rest-2-clause-none : goal.returns-in_err-rest-2-clause-none
returns-in_err-rest-2-clause-none c = rw c.from_residual-in_err-rest-2.ensures (two_fields _ _ _ _ (cut_with _ _ _ _ _ c.cut.ensures c.in_ok-rest.was) (cut_without _ _ _ _ c.cut-2.ensures c.in_err-rest-2.was))

pub returns-then-is_some-clause-none : goal.returns-then-is_some-clause-none
returns-then-is_some-clause-none c =
    let more = more_there c.cut-3.result.1 (sym c.if-is_some.ensures) in
    many_fields _ _ _ _ _ _ _ (cut_with _ _ _ _ _ c.cut.ensures c.in_ok-rest.was) (cut_with _ _ _ _ _ c.cut-2.ensures c.in_ok-rest-2.was) (cut_with _ _ _ _ _ c.cut-3.ensures more.is)

pub returns-clause-some : goal.returns-clause-some
returns-clause-some c =
    rw (c.trimmed.ensures, c.trimmed-2.ensures, c.trimmed-3.ensures) (all_three _ _ _ _ _ _ (cut_with _ _ _ _ _ c.cut.ensures c.in_ok-rest.was) (cut_with _ _ _ _ _ c.cut-2.ensures c.in_ok-rest-2.was) (cut_without _ _ _ _ c.cut-3.ensures (no_more c.cut-3.result.1 (sym c.if-is_some.ensures))))

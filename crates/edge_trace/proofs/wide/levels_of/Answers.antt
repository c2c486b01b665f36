use Rattle.std.proofs.Common.{None, arith, ◌∙◌, ap}
use Rattle.std.specs.Option.{option_map}
use Rattle.edge_trace.specs.Fields.{level_in}
use Rattle.line_base.proofs.Cuts.{less_left_of}
use Rattle.edge_trace.proofs.WideRows.{so_far_at, one_more_level, bad_level, room_for_level, all_levels}
use Rattle.edge_trace.proofs.wide.levels_of.Goals as goal

pub returns-in_err-level_of : goal.returns-in_err-level_of
returns-in_err-level_of c =
    let so_far = so_far_at _ _ _ _ c.fields.invariant c.in-Some.is in
    ap (option_map (λ levels. levels.items)) c.from_residual.ensures
    ∙ bad_level _ c.in-Some.text.now _ _ _ so_far c.cut.ensures (c.in_err-level_of.ensures ∙ ap level_in c.trimmed.ensures)

pub push-requires : goal.push-requires
push-requires c =
    let so_far = so_far_at _ _ _ _ c.fields.invariant c.in-Some.is in
    let room = room_for_level _ c.in-Some.text.now _ so_far in
    (omega arith, omega arith)

pub fields-smaller : goal.fields-smaller
fields-smaller c = less_left_of 44 _ _ _ _ c.in-Some.is c.cut.ensures

pub fields-preserved : goal.fields-preserved
fields-preserved c =
    let so_far = so_far_at _ _ _ _ c.fields.invariant c.in-Some.is in
    rw c.push.ensures.items (one_more_level _ c.in-Some.text.now _ _ _ _ so_far c.cut.ensures (c.in_ok-level_of.ensures ∙ ap level_in c.trimmed.ensures))

pub returns : goal.returns
returns c = all_levels _ _ (so_far_at _ _ _ None c.fields.invariant c.in_default.is)

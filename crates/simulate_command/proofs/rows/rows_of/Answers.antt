use Rattle.std.proofs.Common.{◌+◌, ◌≤◌, ◌∙◌, ◌++◌, ap, length, arith, sym}
use Rattle.simulate_command.proofs.WrittenRows.{at_ok, no-row, one-row}
use Rattle.simulate_command.proofs.rows.rows_of.Goals as goal

pub loop-edge-init : goal.loop-edge-init
loop-edge-init c = rw c.new-rows.ensures (no-row c.args.edges.now)

pub loop-edge-preserved : goal.loop-edge-preserved
loop-edge-preserved c =
    let row = c.as_bytes.ensures.value ∙ c.as_str.ensures.value ∙ c.edge_line.ensures in
    let short : length c.as_bytes.result.now ≤ 40 = rw (sym c.as_bytes.ensures.value) at c.as_str.ensures.fits in
    let few = c.loop-edge.invariant.few in
    let within = c.loop-edge-test.true in
    let most = c.requires.few in
    let room : length c.loop-edge.rows.items + length c.as_bytes.result.now ≤ 3280 = omega (arith, short, few, within, most) in
    let behind = at_ok c.try_extend_from_slice.result (c.try_extend_from_slice.ensures.variant.1 room) c.try_extend_from_slice.ensures.ok in
    rw c.push.ensures.items (one-row c.args.edges.now c.loop-edge.edge-index _ _ _ c.loop-edge.invariant within (behind ∙ ap (λ l. c.loop-edge.rows.items ++ l) row) (rw row at short))

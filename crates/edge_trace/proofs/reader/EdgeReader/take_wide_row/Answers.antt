use Rattle.std.proofs.Common.{arith, rules}
use Rattle.edge_trace.proofs.WholeLines.{takes_wide_row}
use Rattle.edge_trace.proofs.reader.EdgeReader.take_wide_row.Goals as goal

pub returns-clause-stands : goal.returns-clause-stands
returns-clause-stands c = λ seen stands.
    let row = c.begin_behind.ensures in
    let kept = c.keep_levels.ensures in
    (takes_wide_row c.args.self.now c.begin_behind.new.self c.in-Some-Rows-Wide-default.columns c.in-Some-Rows-Wide-default.before c.in-Some.time c.in-Some.row.items seen c.args.block.now c.in-Some.count c.keep_levels.new.edges c.in-Some.ensures.front stands (search rules) (omega (arith, c.len.ensures.length)) c.in-Some.ensures.range (omega arith)
    row.state row.room row.line row.number row.left (rw (← c.as_slice.ensures.value) kept.edges) (rw (← c.as_slice.ensures.value, row.levels) kept.levels)).stands

pub returns-clause-grows : goal.returns-clause-grows
returns-clause-grows c = λ seen stands.
    let row = c.begin_behind.ensures in
    let kept = c.keep_levels.ensures in
    (takes_wide_row c.args.self.now c.begin_behind.new.self c.in-Some-Rows-Wide-default.columns c.in-Some-Rows-Wide-default.before c.in-Some.time c.in-Some.row.items seen c.args.block.now c.in-Some.count c.keep_levels.new.edges c.in-Some.ensures.front stands (search rules) (omega (arith, c.len.ensures.length)) c.in-Some.ensures.range (omega arith)
    row.state row.room row.line row.number row.left (rw (← c.as_slice.ensures.value) kept.edges) (rw (← c.as_slice.ensures.value, row.levels) kept.levels)).grows

use Rattle.std.proofs.Common.{arith}
use Rattle.edge_trace.proofs.WholeLines.{takes_row}
use Rattle.edge_trace.proofs.reader.EdgeReader.take_front.Goals as goal

pub returns-clause-stands : goal.returns-clause-stands
returns-clause-stands c = λ seen stands.
    let row = c.keep_row.ensures in
    (takes_row c.args.self.now c.keep_row.new.self c.args.form c.args.before seen c.args.block.now c.args.count c.args.edge c.keep_row.result c.requires.front stands c.requires.state c.requires.empty c.requires.narrow c.requires.time (omega arith)
    (row.state c.args.form c.args.before c.requires.state) row.room row.line row.number row.left row.edges row.levels).stands

pub returns-clause-grows : goal.returns-clause-grows
returns-clause-grows c = λ seen stands.
    let row = c.keep_row.ensures in
    (takes_row c.args.self.now c.keep_row.new.self c.args.form c.args.before seen c.args.block.now c.args.count c.args.edge c.keep_row.result c.requires.front stands c.requires.state c.requires.empty c.requires.narrow c.requires.time (omega arith)
    (row.state c.args.form c.args.before c.requires.state) row.room row.line row.number row.left row.edges row.levels).grows

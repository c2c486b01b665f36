-- A plain row is read, and its edge is taken.
use Rattle.std.proofs.Common.{◌∷◌, [], ◌++◌, take, refl, arith}
use Rattle.edge_trace.specs.Limits.{edges_of}
use Rattle.edge_trace.proofs.OrderedLists.{edges_are_few}
use Rattle.decode_command.specs.Runs.{decoding_of}
use Rattle.decode_command.proofs.TakeBytes.{none-took, row-took, row-cut}
use Rattle.decode_command.proofs.Blocks.{cut-in}
use Rattle.decode_command.proofs.run.Run.take_narrow_row.Goals as goal

pub returns-in_default-clause-took : goal.returns-in_default-clause-took
returns-in_default-clause-took g c = λ bytes before.
    none-took c.args.self.now _ _ bytes (bytes ++ take c.take_row-count.result.0 c.args.block.now) before refl refl (c.take_row-count.ensures.stands bytes before.lines) (rw c.in_default.is at (c.take_row-count.ensures.grows bytes before.lines))

pub put_edge-requires-clause-follow : goal.put_edge-requires-clause-follow
put_edge-requires-clause-follow g c = (edges_of c.requires.0, c.requires.1.follow, omega (arith, edges_are_few c.requires.0))

pub returns-in-Ok-clause-took : goal.returns-in-Ok-clause-took
returns-in-Ok-clause-took g c = λ bytes before.
    row-took c.args.self.now c.take_row-count.new.self c.put_edge.new.self _ _ bytes (bytes ++ take c.take_row-count.result.0 c.args.block.now) (c.in-Some.edge ∷ []) before c.put_edge.ensures.lines
    (c.take_row-count.ensures.stands bytes before.lines) (rw c.in-Some.is at (c.take_row-count.ensures.grows bytes before.lines))
    (c.in-Ok.ensures.follow (edges_of bytes) before.follow)
    (c.in-Ok.ensures.written (edges_of bytes) before.follow)

pub returns-in-Err-clause-stopped : goal.returns-in-Err-clause-stopped
returns-in-Err-clause-stopped g c = λ bytes before.
    cut-in (decoding_of c.args.self.now) _ _ bytes c.args.block.now c.take_row-count.result.0
    (row-cut (decoding_of c.args.self.now) _ _ bytes (bytes ++ take c.take_row-count.result.0 c.args.block.now) (c.in-Some.edge ∷ []) (rw c.in-Some.is at (c.take_row-count.ensures.grows bytes before.lines))
    (c.in-Err.ensures.cut (edges_of bytes) before.follow))

-- A wide row is read, and its edges are taken.
use Rattle.std.proofs.Common.{◌++◌, take, refl, sym, ap, ◌∙◌}
use Rattle.std.proofs.lemmas.Bool.{eqb-true, eqb-false}
use Rattle.edge_trace.specs.Limits.{answers_of, edges_of}
use Rattle.decode_command.specs.Runs.{decoding_of}
use Rattle.decode_command.proofs.TakeBytes.{none-took, row-took, row-cut, row-in_range, row-room, no-answers, one-answer}
use Rattle.decode_command.proofs.Blocks.{cut-in}
use Rattle.decode_command.proofs.run.Run.take_wide_row.Goals as goal

pub returns-then-is_empty-clause-took : goal.returns-then-is_empty-clause-took
returns-then-is_empty-clause-took g c = λ bytes before.
    let edges = c.take_wide_row-taken.result.1 in
    none-took c.args.self.now _ _ bytes (bytes ++ take c.take_wide_row-taken.result.0 c.args.block.now) before refl refl (c.take_wide_row-taken.ensures.stands bytes before.lines)
    (c.take_wide_row-taken.ensures.grows bytes before.lines ∙ ap (λ answers. answers_of bytes ++ answers) (no-answers edges (eqb-true _ _ (sym c.if-is_empty.ensures.value))))

pub put_row-requires-clause-in_range : goal.put_row-requires-clause-in_range
put_row-requires-clause-in_range g c =
    let bytes = c.requires.0 in
    let edges = c.take_wide_row-taken.result.1 in
    row-in_range bytes (bytes ++ take c.take_wide_row-taken.result.0 c.args.block.now) edges
    (c.take_wide_row-taken.ensures.grows bytes c.requires.1.lines ∙ ap (λ answers. answers_of bytes ++ answers) (one-answer edges (eqb-false _ _ (sym c.if-is_empty.ensures.value))))

pub put_row-requires-clause-follow : goal.put_row-requires-clause-follow
put_row-requires-clause-follow g c =
    let bytes = c.requires.0 in
    let edges = c.take_wide_row-taken.result.1 in (
      edges_of bytes,
      c.requires.1.follow,
      row-room bytes (bytes ++ take c.take_wide_row-taken.result.0 c.args.block.now) edges
          (c.take_wide_row-taken.ensures.grows bytes c.requires.1.lines ∙ ap (λ answers. answers_of bytes ++ answers) (one-answer edges (eqb-false _ _ (sym c.if-is_empty.ensures.value)))),
    )

pub returns-in-Ok-clause-took : goal.returns-in-Ok-clause-took
returns-in-Ok-clause-took g c = λ bytes before.
    let edges = c.take_wide_row-taken.result.1 in
    row-took c.args.self.now c.take_wide_row-taken.new.self c.put_row.new.self _ _ bytes (bytes ++ take c.take_wide_row-taken.result.0 c.args.block.now) edges before c.put_row.ensures.lines
    (c.take_wide_row-taken.ensures.stands bytes before.lines)
    (c.take_wide_row-taken.ensures.grows bytes before.lines ∙ ap (λ answers. answers_of bytes ++ answers) (one-answer edges (eqb-false _ _ (sym c.if-is_empty.ensures.value))))
    (c.in-Ok.ensures.follow (edges_of bytes) before.follow)
    (c.in-Ok.ensures.written (edges_of bytes) before.follow)

pub returns-in-Err-clause-stopped : goal.returns-in-Err-clause-stopped
returns-in-Err-clause-stopped g c = λ bytes before.
    let edges = c.take_wide_row-taken.result.1 in
    cut-in (decoding_of c.args.self.now) _ _ bytes c.args.block.now c.take_wide_row-taken.result.0
    (row-cut (decoding_of c.args.self.now) _ _ bytes (bytes ++ take c.take_wide_row-taken.result.0 c.args.block.now) edges
    (c.take_wide_row-taken.ensures.grows bytes before.lines ∙ ap (λ answers. answers_of bytes ++ answers) (one-answer edges (eqb-false _ _ (sym c.if-is_empty.ensures.value))))
    (c.in-Err.ensures.cut (edges_of bytes) before.follow))

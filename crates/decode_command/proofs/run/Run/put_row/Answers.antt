-- The text grows by the lines of the row.
use Rattle.std.proofs.Common.{◌≤◌, ◌^◌, List, All, sym, ◌∙◌, subst}
use Rattle.line_base.specs.declared.edge.Edge.{Edge}
use Rattle.decode_command.proofs.Answers.{on-ok, on-err}
use Rattle.decode_command.proofs.Fronts.{text-more}
use Rattle.decode_command.proofs.Rows.{no-row}
use Rattle.decode_command.specs.Runs.{decoding_of}
use Rattle.decode_command.proofs.run.Run.put_row.Goals as goal

pub returns-in_default-clause-written : goal.returns-in_default-clause-written
returns-in_default-clause-written g c = λ edges before. no-row (decoding_of c.args.self.now) _ edges c.args.row.now (sym c.edges-others.ensures ∙ c.in_default.ensures.taken)

pub take_edges-requires-clause-in_range : goal.take_edges-requires-clause-in_range
take_edges-requires-clause-in_range g c = subst (λ (row : List Edge). All (λ (edge : Edge). edge.time ≤ 10 ^ 15) row) (sym c.edges-others.ensures ∙ c.in-Some.ensures.taken) c.requires.in_range

pub returns-clause-written : goal.returns-clause-written
returns-clause-written g c =
    on-ok c.take_edges.result (rw (c.as_mut_slice.ensures.value, ← c.in-Some.ensures.taken, c.edges-others.ensures) at c.take_edges.ensures.written)
    (λ written edges before. record { more = _; is = text-more (decoding_of c.args.self.now) edges c.args.row.now; taken = written edges before })

pub returns-clause-cut : goal.returns-clause-cut
returns-clause-cut g c =
    on-err c.take_edges.result (rw (c.as_mut_slice.ensures.value, ← c.in-Some.ensures.taken, c.edges-others.ensures) at c.take_edges.ensures.cut)
    (λ cut edges before. record { more = _; is = text-more (decoding_of c.args.self.now) edges c.args.row.now; front = cut edges before })

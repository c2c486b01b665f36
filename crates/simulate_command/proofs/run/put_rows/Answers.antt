use Rattle.std.proofs.Common.{sym, ◌∙◌, eqb-true}
use Rattle.simulate_command.proofs.WrittenRows.{put-nothing}
use Rattle.simulate_command.proofs.run.put_rows.Goals as goal

pub returns-then-is_empty-clause-put : goal.returns-then-is_empty-clause-put
returns-then-is_empty-clause-put g c = put-nothing (g.K.Sink.got c.args.out.now) c.args.edges.now (eqb-true _ 0 (sym c.is_empty.ensures ∙ c.if-is_empty.true))

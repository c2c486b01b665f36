use Rattle.std.proofs.Common.{sym}
use Rattle.edge_trace.proofs.Judging.{no_more}
use Rattle.edge_trace.proofs.Reading.{good_header}
use Rattle.edge_trace.proofs.heads.read_header.Goals as goal

pub returns-clause-read : goal.returns-clause-read
returns-clause-read c = λ levels has. good_header _ _ _ levels (no_more c.args.unit (sym c.if-is_some.ensures)) c.in-Some.ensures.value has c.in-Some.ensures.range

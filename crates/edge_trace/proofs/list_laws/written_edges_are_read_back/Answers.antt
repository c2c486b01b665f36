-- The law is a lemma.
use Rattle.edge_trace.proofs.WrittenEdges.{read_whole, read_line}
use Rattle.edge_trace.proofs.list_laws.written_edges_are_read_back.Goals as goal

pub returns-clause-row : goal.returns-clause-row
returns-clause-row c = read_whole

pub returns-clause-line : goal.returns-clause-line
returns-clause-line c = read_line

-- The law is a lemma.
use Rattle.edge_trace.proofs.OrderedLists as list
use Rattle.edge_trace.proofs.list_laws.edges_are_ordered.Goals as goal

pub returns-clause-so_far : goal.returns-clause-so_far
returns-clause-so_far c = list.edges_are_ordered

pub returns-clause-whole : goal.returns-clause-whole
returns-clause-whole c = list.whole_edges_are_ordered

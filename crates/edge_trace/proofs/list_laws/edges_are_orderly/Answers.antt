-- The law is a lemma.
use Rattle.edge_trace.proofs.OrderlyItems.{orderly_so_far, orderly_whole}
use Rattle.edge_trace.proofs.list_laws.edges_are_orderly.Goals as goal

pub returns-clause-so_far : goal.returns-clause-so_far
returns-clause-so_far c = orderly_so_far

pub returns-clause-whole : goal.returns-clause-whole
returns-clause-whole c = orderly_whole

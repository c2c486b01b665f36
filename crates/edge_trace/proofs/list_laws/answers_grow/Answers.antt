-- The law is a lemma.
use Rattle.edge_trace.proofs.Growth.{answers_stay, edges_stay}
use Rattle.edge_trace.proofs.list_laws.answers_grow.Goals as goal

pub returns-clause-answers : goal.returns-clause-answers
returns-clause-answers c = answers_stay

pub returns-clause-edges : goal.returns-clause-edges
returns-clause-edges c = edges_stay

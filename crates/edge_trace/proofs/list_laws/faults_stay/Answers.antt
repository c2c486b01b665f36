-- The law is a lemma.
use Rattle.edge_trace.proofs.Growth.{tells_no_more}
use Rattle.edge_trace.proofs.list_laws.faults_stay.Goals as goal

pub returns : goal.returns
returns c = λ bytes more number fault e. tells_no_more bytes more (number, fault) e

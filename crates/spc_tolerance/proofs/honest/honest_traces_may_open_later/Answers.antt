-- The law is a lemma.
use Rattle.spc_tolerance.proofs.LaterOpenings.{honest-drop}
use Rattle.spc_tolerance.proofs.honest.honest_traces_may_open_later.Goals as goal

pub returns : goal.returns
returns c = honest-drop

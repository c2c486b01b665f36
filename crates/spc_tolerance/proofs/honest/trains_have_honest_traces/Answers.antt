-- The law is a lemma.
use Rattle.spc_tolerance.proofs.ExactClocks.{exact_honest}
use Rattle.spc_tolerance.proofs.honest.trains_have_honest_traces.Goals as goal

pub returns : goal.returns
returns c = exact_honest
